-- What the executor keeps beside its state.
use Rattle.std.specs.Prelude.{◌≡◌, ℕ, true, List, map}
use Rattle.std.specs.List.{All, count_by}
use Rattle.plan_terms.specs.Belongs.{distinct}
use Rattle.plan_terms.specs.Cluster.{Lists}
use Rattle.plan_terms.specs.declared.lists.Proposal.{Proposal}
use Rattle.exec_terms.specs.declared.task.Task.{Task}
use Rattle.exec_terms.specs.declared.brokers.Host.{Host}
use Rattle.exec_terms.specs.Words.{is_pending, is_unfinished, union_of}
use Rattle.exec_terms.specs.Machine.{State, adding, removing, replica_tasks, leader_tasks}
use Rattle.exec_terms.specs.Stops.{is_host}
use Rattle.exec_terms.specs.Valid.{IsValid}
use Rattle.cap_ledger.specs.Ledger.{Ledger, knows, adding_of, removing_of}
use Rattle.task_planner.specs.declared.slot.Slot.{Slot}
use Rattle.task_planner.specs.Queue.{IsListOf, AreListsOf}
use Rattle.task_index.specs.Index.{Marks, marks_of}

-- the proposal of which the task was made
abbrev pub proposal_of : Task → Proposal
proposal_of t = record { part = t.part; before = t.before; after = t.after }

-- the counts are those of the list of tasks, by filtering it, and they are of the hosts
pub record AreCounts (hosts : List Host) (tasks : List Task) (l : Ledger) : Type 0 where
  pub known : (b : ℕ) → knows l b ≡ is_host hosts b
  pub adding : (b : ℕ) → adding_of l b ≡ adding tasks b
  pub removing : (b : ℕ) → removing_of l b ≡ removing tasks b
  pub replica : l.replica ≡ replica_tasks tasks
  pub leader : l.leader ≡ leader_tasks tasks

-- the place of a task in the queue
abbrev pub slot_of : Task → Slot
slot_of t = record { before = t.before; after = t.after; waits = is_pending t.phase }

-- what only a launch changes: the brokers, the lists of known brokers, and beside each task the list that its partition has
-- while it is moved, and what it was made of
pub record IsFixed (brokers : List ℕ) (hosts : List Host) (base : Lists) (tasks : List Task) (unions : Lists) (proposals : List Proposal) : Type 0 where
  pub hosts_are : map (λ h. h.id) hosts ≡ brokers
  pub once : distinct brokers ≡ true
  pub base_lists : All (IsListOf brokers) base
  pub task_lists : All (AreListsOf brokers) proposals
  pub unions_are : unions ≡ map union_of tasks
  pub proposals_are : proposals ≡ map proposal_of tasks

-- how many tasks have not ended
abbrev pub unfinished_tasks : List Task → ℕ
unfinished_tasks tasks = count_by (λ t. is_unfinished t.phase) tasks

-- a valid state, and what is kept beside it
pub record IsKept (s : State) (brokers : List ℕ) (unions : Lists) (proposals : List Proposal) (counts : Ledger) (left : ℕ) (queue : List Slot) (index : Marks) : Type 0 where
  pub valid : IsValid s
  pub fixed : IsFixed brokers s.hosts s.base s.tasks unions proposals
  pub counts_are : AreCounts s.hosts s.tasks counts
  pub left_is : left ≡ unfinished_tasks s.tasks
  pub queue_is : queue ≡ map slot_of s.tasks
  pub index_is : index ≡ marks_of s.tasks
