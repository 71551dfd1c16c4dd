-- What holds of the desk after each event of a legal history.
use Rattle.std.specs.Prelude.{◌≡◌, ℕ, ◌≤◌, ◌<◌, true, false, List, ◌∷◌, length, map, Some}
use Rattle.std.specs.List.{All, count_by, list_all}
use Rattle.plan_terms.specs.Belongs.{Belongs, IsReplicaList}
use Rattle.plan_terms.specs.Cluster.{Cluster, is_known}
use Rattle.goal_set.specs.declared.kinds.GoalKind.{GoalKind}
use Rattle.goal_set.specs.declared.kinds.GoalKind.TheVariants.{Evacuation}
use Rattle.exec_terms.specs.Machine.{State, any_unfinished}
use Rattle.exec_terms.specs.Valid.{IsValid}
use Rattle.cluster_json.specs.File.{Meaning}
use Rattle.user_tasks.specs.Tasks.{open_count}
use Rattle.user_tasks.specs.declared.table.UserTask.{UserTask}
use Rattle.core_terms.specs.State.{Desk, job_at}
use Rattle.core_terms.specs.Jobs.{user_task_at, is_active, is_in_execution, plans_execution}
use Rattle.core_terms.specs.Plans.{has_ticket}
use Rattle.core_terms.specs.declared.jobs.Job.{Job}

-- the first goal is that no replica stands on a lost broker
abbrev pub BeginsWithEvacuation : List GoalKind → Type 0
BeginsWithEvacuation goals = (later : List GoalKind) × (goals ≡ Evacuation ∷ later)

-- the user tasks and their jobs: at most 16 are open; at most one plan is being made that is to be carried out, and none while
-- a task is unfinished; while one is, just one user task is in execution, and else none is
pub record AreTasks (d : Desk) : Type 0 where
  pub one_each : length d.jobs ≡ length d.tasks
  pub few_open : open_count d.tasks ≤ 16
  pub one_plans : count_by plans_execution d.tasks ≤ 1
  pub none_plans : any_unfinished d.exec.tasks ≡ true → count_by plans_execution d.tasks ≡ 0
  pub idle : any_unfinished d.exec.tasks ≡ false → count_by (λ t. is_in_execution t.status) d.tasks ≡ 0
  pub busy : any_unfinished d.exec.tasks ≡ true → count_by (λ t. is_in_execution t.status) d.tasks ≡ 1

-- the tickets: each is out for one job, which is active, and its number was given
pub record AreTickets (d : Desk) : Type 0 where
  pub one_holder : (n : ℕ) → count_by (has_ticket n) d.jobs ≤ 1
  pub given : (i n : ℕ) → (job_at d.jobs i).ticket ≡ Some n → n ≤ d.tickets
  pub active : (i n : ℕ) → (job_at d.jobs i).ticket ≡ Some n → is_active (user_task_at d.tasks i).status ≡ true

-- a replica list of brokers of the cluster
pub record IsListOf (c : Cluster) (list : List ℕ) : Type 0 where
  pub replicas : IsReplicaList list
  pub known : list_all (is_known c) list ≡ true

-- the executor is one of the file's cluster: its brokers are the cluster's, and so are the members of its lists
pub record IsExecOf (c : Cluster) (s : State) : Type 0 where
  pub valid : IsValid s
  pub brokers : map (λ h. h.id) s.hosts ≡ map (λ b. b.id) c.brokers
  pub base : Belongs c s.base
  pub afters : All (λ t. IsListOf c t.after) s.tasks

-- what a job keeps: while its user task is active its goals begin with evacuation, and its proposals are of the cluster's partitions
pub record IsJob (c : Cluster) (t : UserTask) (j : Job) : Type 0 where
  pub evacuates : is_active t.status ≡ true → BeginsWithEvacuation j.goals
  pub parts : All (λ p. p.part < length c.parts) j.proposals

-- what holds of the desk
pub record IsSound (file : Meaning) (d : Desk) : Type 0 where
  pub exec : IsExecOf file.cluster d.exec
  pub tasks : AreTasks d
  pub tickets : AreTickets d
  pub jobs : (i : ℕ) → i < length d.jobs → IsJob file.cluster (user_task_at d.tasks i) (job_at d.jobs i)
