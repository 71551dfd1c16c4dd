-- What holds of every state of the executor, and the work that is left.
use Rattle.std.specs.Prelude.{◌≡◌, ◌≢◌, ℕ, ◌+◌, ◌-◌, ◌<◌, ◌≤◌, Bool, true, false, IsTrue, List, length, Option, Some, None, sum_by}
use Rattle.std.specs.List.{All, count_by}
use Rattle.plan_terms.specs.Belongs.{IsReplicaList}
use Rattle.plan_terms.specs.Cluster.{Lists, list_of}
use Rattle.exec_terms.specs.Words.{in_flight, goes_on, may_be_doomed, copies, copies_left, next_step, is_for, holds, is_on, needs}
use Rattle.exec_terms.specs.Machine.{State, adding, removing, replica_tasks, leader_tasks, unfinished_replica_tasks}
use Rattle.exec_terms.specs.declared.phase.Phase.{Phase}
use Rattle.exec_terms.specs.declared.phase.Phase.TheVariants.{Pending, InProgress, Aborting, Aborted, Completed, Dead}
use Rattle.exec_terms.specs.declared.work.WorkKind.TheVariants.{Copy as ForCopy}
use Rattle.exec_terms.specs.declared.work.Work.{Work}
use Rattle.exec_terms.specs.declared.work.Work.TheVariants.{Copy, Commit, Cancel}
use Rattle.exec_terms.specs.declared.work.Lease.{Lease}
use Rattle.exec_terms.specs.declared.task.Task.{Task}
use Rattle.plan_terms.specs.declared.settings.Caps.{Caps}
use Rattle.exec_terms.specs.declared.brokers.Host.{Host}

-- no more tasks are in flight than the caps allow
pub record AreCapsKept (caps : Caps) (tasks : List Task) : Type 0 where
  pub adding : (b : ℕ) → adding tasks b ≤ caps.broker
  pub removing : (b : ℕ) → removing tasks b ≤ caps.broker
  pub replica : replica_tasks tasks ≤ caps.cluster
  pub leader : leader_tasks tasks ≤ caps.leader

-- leadership waits for the replicas: no task that changes a leader alone is in flight while a replica task is unfinished
pub record IsOrderKept (tasks : List Task) : Type 0 where
  pub waits : 0 < leader_tasks tasks → unfinished_replica_tasks tasks ≡ 0

-- a lease that is out: its task is in flight, one in progress has it for its next step, and one for a copy is for the next copy
pub record IsLease (leases : ℕ) (t : Task) (l : Lease) : Type 0 where
  pub given : l.number ≤ leases
  pub flies : IsTrue (in_flight t.phase)
  pub next : t.phase ≡ InProgress → l.work ≡ next_step t
  pub copy : is_for ForCopy l.work ≡ true → l.work ≡ next_step t

-- nothing of the task has begun
pub record IsUntouched (t : Task) : Type 0 where
  pub done : t.done ≡ 0
  pub faults : t.faults ≡ 0
  pub lease : t.lease ≡ None

-- what holds of each task
pub record IsTask (base : Lists) (hosts : List Host) (stopped : Bool) (leases : ℕ) (t : Task) : Type 0 where
  pub known : t.part < length base
  pub few_chunks : t.chunks ≤ 1000
  pub before : t.before ≡ list_of base t.part
  pub before_is : IsReplicaList t.before
  pub after_is : IsReplicaList t.after
  pub done : t.done ≤ length (copies t)
  pub lease : (l : Lease) → t.lease ≡ Some l → IsLease leases t l
  pub pending : t.phase ≡ Pending → IsUntouched t
  pub faults : t.phase ≡ InProgress → t.faults < 3
  pub doomed : t.doomed ≡ true → may_be_doomed t.phase ≡ true
  pub alive : goes_on t.phase ≡ true → All (λ h. h.dead ≡ true → needs t h.id ≡ false) hosts
  pub none_waits : stopped ≡ true → t.phase ≢ Pending
  pub completed : t.phase ≡ Completed → t.done ≡ length (copies t)

-- what holds of every state: leadership waits for the replicas, each partition has one replica list and one task, and each lease one
-- holder
pub record IsValid (s : State) : Type 0 where
  pub broker_cap : 1 ≤ s.caps.broker
  pub cluster_cap : 1 ≤ s.caps.cluster
  pub leader_cap : 1 ≤ s.caps.leader
  pub order : IsOrderKept s.tasks
  pub few_chunks : All (λ n. n ≤ 1000) s.chunks
  pub base_lists : All IsReplicaList s.base
  pub few_tasks : length s.tasks ≤ 10000
  pub one_task : (p : ℕ) → count_by (is_on p) s.tasks ≤ 1
  pub one_holder : (n : ℕ) → count_by (holds n) s.tasks ≤ 1
  pub each : All (IsTask s.base s.hosts s.stopped s.leases) s.tasks

-- an aborting task with a lease for a copy or a commit has that event and its cancel before it
abbrev pub work_for : Work → ℕ
work_for (Copy to chunk) = 2
work_for Commit = 2
work_for Cancel = 1

-- an aborting task has its cancel before it, and what its lease is for
abbrev pub work_of_lease : Option Lease → ℕ
work_of_lease None = 1
work_of_lease (Some l) = work_for l.work

-- what the task has before it: copies, faults and the commit
abbrev pub work_in : Phase → Task → ℕ
work_in Pending t = copies_left t + (3 - t.faults) + 2
work_in InProgress t = copies_left t + (3 - t.faults) + 2
work_in Aborting t = work_of_lease t.lease
work_in Aborted t = 0
work_in Completed t = 0
work_in Dead t = 0

-- the work of one task
abbrev pub work_of_task : Task → ℕ
work_of_task t = work_in t.phase t

-- the work of all tasks
abbrev pub work_left : State → ℕ
work_left s = sum_by work_of_task s.tasks
