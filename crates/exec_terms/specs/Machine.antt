-- The executor as a machine: its state, the work that a take gives, and a launch.
use Rattle.std.specs.Prelude.{ℕ, ◌+◌, Bool, true, false, not, ◌==◌, ◌&&◌, nat_lt, if◌then◌else◌, List, [], ◌∷◌, length, map, Option, Some, None, get_or, slice_set, Result, Ok, Err}
use Rattle.std.specs.List.{list_any, list_all, count_by, position}
use Rattle.exec_terms.specs.Words.{is_pending, is_in_progress, is_aborting, in_flight, is_unfinished, adds, removes, is_replica_task, list_shown, next_step, is_free, is_on}
use Rattle.plan_terms.specs.Cluster.{Lists, list_of}
use Rattle.plan_terms.specs.Legal.{each_below}
use Rattle.plan_terms.specs.Change.{added}
use Rattle.exec_terms.specs.declared.phase.Phase.{Phase}
use Rattle.exec_terms.specs.declared.phase.Phase.TheVariants.{Pending, InProgress, Aborting, Aborted, Completed, Dead}
use Rattle.exec_terms.specs.declared.work.Work.{Work}
use Rattle.exec_terms.specs.declared.work.Work.TheVariants.{Cancel}
use Rattle.exec_terms.specs.declared.task.Task.{Task}
use Rattle.plan_terms.specs.declared.settings.Caps.{Caps}
use Rattle.exec_terms.specs.declared.brokers.Host.{Host}
use Rattle.plan_terms.specs.declared.lists.Proposal.{Proposal}
use Rattle.exec_terms.specs.declared.replies.Given.{Given}
use Rattle.exec_terms.specs.declared.replies.Idle.{Idle}
use Rattle.exec_terms.specs.declared.replies.Idle.TheVariants.{NoExecution, AllLeased, CapsFull}

-- what stands before any task; a reading past the end of the list gives it
abbrev pub no_task : Task
no_task = record { part = 0; before = []; after = []; chunks = 0; phase = Aborted; done = 0; faults = 0; doomed = false; lease = None }

-- the task at a place
abbrev pub task_at : List Task → ℕ → Task
task_at tasks i = get_or tasks i no_task

-- `base` has each partition's list at the last launch, `chunks` the copies that one replica takes
pub record State : Type 0 where
  pub base : Lists
  pub chunks : List ℕ
  pub caps : Caps
  pub hosts : List Host
  pub tasks : List Task
  pub stopped : Bool
  pub leases : ℕ

-- the list of partition p: its task's, or the one at the launch where it has no task
abbrev pub list_by : State → ℕ → Option ℕ → List ℕ
list_by s p None = list_of s.base p
list_by s p (Some i) = list_shown (task_at s.tasks i)

-- the list of partition p now
abbrev pub list_now : State → ℕ → List ℕ
list_now s p = list_by s p (position (is_on p) s.tasks)

-- how many tasks in flight add broker b, by filtering the list of tasks
abbrev pub adding : List Task → ℕ → ℕ
adding tasks b = count_by (λ t. in_flight t.phase && adds t b) tasks

-- how many tasks in flight remove it
abbrev pub removing : List Task → ℕ → ℕ
removing tasks b = count_by (λ t. in_flight t.phase && removes t b) tasks

-- how many tasks in flight move replicas
abbrev pub replica_tasks : List Task → ℕ
replica_tasks tasks = count_by (λ t. in_flight t.phase && is_replica_task t) tasks

-- how many tasks in flight change a leader alone
abbrev pub leader_tasks : List Task → ℕ
leader_tasks tasks = count_by (λ t. in_flight t.phase && not (is_replica_task t)) tasks

-- how many tasks that move replicas have not ended
abbrev pub unfinished_replica_tasks : List Task → ℕ
unfinished_replica_tasks tasks = count_by (λ t. is_unfinished t.phase && is_replica_task t) tasks

-- the caps leave room for the task
abbrev pub has_room : Caps → List Task → Task → Bool
has_room caps tasks t =
    list_all (λ b. nat_lt (adding tasks b) caps.broker) (added t.before t.after)
    && list_all (λ b. nat_lt (removing tasks b) caps.broker) (added t.after t.before)
    && nat_lt (replica_tasks tasks) caps.cluster

-- the cap leaves room for one more leader, and no replica task is unfinished
abbrev pub has_leader_room : Caps → List Task → Bool
has_leader_room caps tasks = nat_lt (leader_tasks tasks) caps.leader && (unfinished_replica_tasks tasks == 0)

-- a task that waits, and for which there is room
abbrev pub may_start : Caps → List Task → Task → Bool
may_start caps tasks t = is_pending t.phase && (if is_replica_task t then has_room caps tasks t else has_leader_room caps tasks)

-- the work of the task at place i, under the next lease
abbrev pub given : State → ℕ → Work → Bool → Given
given s i work starts = record { lease = s.leases + 1; task = i; part = (task_at s.tasks i).part; work = work; starts = starts }

-- why there is no work
abbrev pub idle : List Task → Idle
idle tasks =
    if list_any (λ t. is_pending t.phase) tasks then CapsFull
    else (if list_any (λ t. is_unfinished t.phase) tasks then AllLeased else NoExecution)

-- a start, or none
abbrev pub or_start : State → Option ℕ → Result Given Idle
or_start s None = Err (idle s.tasks)
or_start s (Some i) = Ok (given s i (next_step (task_at s.tasks i)) true)

-- a step of a task in progress, or a start
abbrev pub or_step : State → Option ℕ → Result Given Idle
or_step s None = or_start s (position (may_start s.caps s.tasks) s.tasks)
or_step s (Some i) = Ok (given s i (next_step (task_at s.tasks i)) false)

-- a cancel, or a step, or a start
abbrev pub or_cancel : State → Option ℕ → Result Given Idle
or_cancel s None = or_step s (position (λ t. is_in_progress t.phase && is_free t.lease) s.tasks)
or_cancel s (Some i) = Ok (given s i Cancel false)

-- the work that take gives next: a cancel, a step of a task in progress, a start, or none with its reason
unfoldable pub next_work : State → Result Given Idle
next_work s = or_cancel s (position (λ t. is_aborting t.phase && is_free t.lease) s.tasks)

-- a task that was pending is in progress
abbrev pub started : Phase → Phase
started Pending = InProgress
started InProgress = InProgress
started Aborting = Aborting
started Aborted = Aborted
started Completed = Completed
started Dead = Dead

-- the task with a new lease, begun where it was pending
abbrev pub with_lease : ℕ → Work → Task → Task
with_lease n work t = record t { phase = started t.phase; lease = Some (record { number = n; work = work }) }

-- the state with another task at place i
abbrev pub with_task : State → ℕ → Task → State
with_task s i t = record s { tasks = slice_set s.tasks i t }

-- the work is given
abbrev pub taken : State → Result Given Idle → State
taken s (Err reason) = s
taken s (Ok g) = record s { tasks = slice_set s.tasks g.task (with_lease g.lease g.work (task_at s.tasks g.task)); leases = g.lease }

-- a take gives the next work, under the next number
abbrev pub after_take : State → State
after_take s = taken s (next_work s)

-- other caps are in force, and nothing else changes
abbrev pub after_caps : State → Caps → State
after_caps s caps = record s { caps = caps }

-- some task has not ended
abbrev pub any_unfinished : List Task → Bool
any_unfinished tasks = list_any (λ t. is_unfinished t.phase) tasks

-- a launch: each proposal is a pending task
abbrev pub task_of : List ℕ → Proposal → Task
task_of chunks p = record {
  part = p.part;
  before = p.before;
  after = p.after;
  chunks = get_or chunks p.part 0;
  phase = Pending;
  done = 0;
  faults = 0;
  doomed = false;
  lease = None;
}

-- the lists of all partitions now
abbrev pub lists_now : State → Lists
lists_now s = each_below (λ p. list_now s p ∷ []) (length s.base)

-- the first task that has not ended
abbrev pub first_unfinished : State → Option ℕ
first_unfinished s = position (λ t. is_unfinished t.phase) s.tasks

-- where no task is unfinished, the proposals are the tasks
abbrev pub launched : State → List Proposal → Option ℕ → State
launched s proposals (Some i) = s
launched s proposals None = record s { base = lists_now s; tasks = map (task_of s.chunks) proposals; stopped = false }

-- a launch
abbrev pub after_launch : State → List Proposal → State
after_launch s proposals = launched s proposals (first_unfinished s)
