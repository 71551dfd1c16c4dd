-- The numbers of tasks in flight once a task has started.
use Rattle.std.proofs.Common.{◌≡◌, ℕ, ◌<◌, ◌≤◌, true, false, not, ◌&&◌, inl, inr, List, set, length, arith, sym, ◌∙◌}
use Rattle.std.specs.Prelude.{◌==◌, nat_lt}
use Rattle.std.specs.List.{list_all}
use Rattle.std.proofs.lemmas.Bool.{cases_Bool, and_parts, true≢false, ltb-true}
use Rattle.exec_terms.specs.declared.phase.Phase.TheVariants.{Pending}
use Rattle.exec_terms.specs.declared.work.Work.{Work}
use Rattle.exec_terms.specs.declared.task.Task.{Task}
use Rattle.plan_terms.specs.declared.settings.Caps.{Caps}
use Rattle.plan_terms.specs.Change.{added}
use Rattle.plan_terms.specs.Cluster.{has}
use Rattle.exec_terms.specs.Words.{in_flight, adds, removes, is_replica_task}
use Rattle.exec_terms.specs.Machine.{no_task, task_at, adding, removing, replica_tasks, leader_tasks, unfinished_replica_tasks, has_room, has_leader_room}
use Rattle.exec_terms.specs.Valid.{AreCapsKept}
use Rattle.exec_terms.proofs.Counts.{count_by-set, count_by-set_one}
use Rattle.exec_terms.proofs.Members.{has_all, adds-replica, removes-replica}
use Rattle.exec_terms.proofs.Take.{begun, no_leader_more}

-- a replica task starts, where there is room for it
module _ (caps : Caps) (xs : List Task) (i : ℕ) (w : Work) (n : ℕ) (l : i < length xs) (room : has_room caps xs (task_at xs i) ≡ true) where
  three : ((list_all (λ b. nat_lt (adding xs b) caps.broker) (added (task_at xs i).before (task_at xs i).after) ≡ true)
      × (list_all (λ b. nat_lt (removing xs b) caps.broker) (added (task_at xs i).after (task_at xs i).before) ≡ true)) × (nat_lt (replica_tasks xs) caps.cluster ≡ true)
  three = let both = and_parts _ _ room in (and_parts _ _ both.0, both.1)

  pub start_adding : (b : ℕ) → adds (task_at xs i) b ≡ true → adding (set xs i (begun (task_at xs i) w n)) b ≤ caps.broker
  start_adding b a = omega (
    arith,
    count_by-set_one (λ t. in_flight t.phase && adds t b) xs i (begun (task_at xs i) w n) no_task l,
    ltb-true (adding xs b) caps.broker (has_all (λ b. nat_lt (adding xs b) caps.broker) (λ b. not (has (task_at xs i).before b)) (task_at xs i).after b
        three.0.0 (and_parts (has (task_at xs i).after b) (not (has (task_at xs i).before b)) a).0 (and_parts (has (task_at xs i).after b) (not (has (task_at xs i).before b)) a).1),
  )

  pub start_removing : (b : ℕ) → removes (task_at xs i) b ≡ true → removing (set xs i (begun (task_at xs i) w n)) b ≤ caps.broker
  start_removing b a = omega (
    arith,
    count_by-set_one (λ t. in_flight t.phase && removes t b) xs i (begun (task_at xs i) w n) no_task l,
    ltb-true (removing xs b) caps.broker (has_all (λ b. nat_lt (removing xs b) caps.broker) (λ b. not (has (task_at xs i).after b)) (task_at xs i).before b
        three.0.1 (and_parts (has (task_at xs i).before b) (not (has (task_at xs i).after b)) a).0 (and_parts (has (task_at xs i).before b) (not (has (task_at xs i).after b)) a).1),
  )

  pub start_replica : replica_tasks (set xs i (begun (task_at xs i) w n)) ≤ caps.cluster
  start_replica = omega (arith, count_by-set_one (λ t. in_flight t.phase && is_replica_task t) xs i (begun (task_at xs i) w n) no_task l, ltb-true (replica_tasks xs) caps.cluster three.1)

-- a leadership task starts, where there is room for it
pub start_leader : (caps : Caps) (xs : List Task) (i : ℕ) (w : Work) (n : ℕ) → i < length xs → has_leader_room caps xs ≡ true → leader_tasks (set xs i (begun (task_at xs i) w n)) ≤ caps.leader
start_leader caps xs i w n l room =
    omega (
      arith,
      count_by-set_one (λ t. in_flight t.phase && not (is_replica_task t)) xs i (begun (task_at xs i) w n) no_task l,
      ltb-true (leader_tasks xs) caps.leader (and_parts (nat_lt (leader_tasks xs) caps.leader) (unfinished_replica_tasks xs == 0) room).0,
    )

-- so the caps stay kept
pub kept_replica : (caps : Caps) (xs : List Task) (i : ℕ) (w : Work) (n : ℕ) → i < length xs → (task_at xs i).phase ≡ Pending → is_replica_task (task_at xs i) ≡ true
    → has_room caps xs (task_at xs i) ≡ true → AreCapsKept caps xs → AreCapsKept caps (set xs i (begun (task_at xs i) w n))
unfolding begun
kept_replica caps xs i w n l p r room k = record {
  adding = λ b. elim (cases_Bool (adds t b)) as (λ _. adding (set xs i u) b ≤ caps.broker) [
    | inl a ↦ start_adding caps xs i w n l room b a
    | inr a ↦ omega (arith, k.adding b, count_by-set (λ t. in_flight t.phase && adds t b) xs i u no_task l (λ h. absurd (true≢false (sym (and_parts true (adds t b) h).1 ∙ a))))
  ];
  removing = λ b. elim (cases_Bool (removes t b)) as (λ _. removing (set xs i u) b ≤ caps.broker) [
    | inl a ↦ start_removing caps xs i w n l room b a
    | inr a ↦ omega (arith, k.removing b, count_by-set (λ t. in_flight t.phase && removes t b) xs i u no_task l (λ h. absurd (true≢false (sym (and_parts true (removes t b) h).1 ∙ a))))
  ];
  replica = start_replica caps xs i w n l room;
  leader = omega (arith, k.leader, no_leader_more xs i w n l p r);
} where
  t : Task
  t = task_at xs i

  u : Task
  u = begun (task_at xs i) w n

pub kept_leader : (caps : Caps) (xs : List Task) (i : ℕ) (w : Work) (n : ℕ) → i < length xs → (task_at xs i).phase ≡ Pending → is_replica_task (task_at xs i) ≡ false
    → has_leader_room caps xs ≡ true → AreCapsKept caps xs → AreCapsKept caps (set xs i (begun (task_at xs i) w n))
unfolding begun
kept_leader caps xs i w n l p r room k = record {
  adding = λ b. omega (arith, k.adding b, count_by-set (λ t. in_flight t.phase && adds t b) xs i u no_task l (λ h. absurd (true≢false (sym (adds-replica t b (and_parts true (adds t b) h).1) ∙ r))));
  removing = λ b. omega (arith, k.removing b, count_by-set (λ t. in_flight t.phase && removes t b) xs i u no_task l (λ h. absurd (true≢false (sym (removes-replica t b (and_parts true (removes t b) h).1) ∙ r))));
  replica = omega (arith, k.replica, count_by-set (λ t. in_flight t.phase && is_replica_task t) xs i u no_task l (λ h. absurd (true≢false (sym (and_parts true (is_replica_task t) h).1 ∙ r))));
  leader = start_leader caps xs i w n l room;
} where
  t : Task
  t = task_at xs i

  u : Task
  u = begun (task_at xs i) w n
