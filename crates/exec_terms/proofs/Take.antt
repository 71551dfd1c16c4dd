-- A take leaves a valid state valid.
use Rattle.std.proofs.Common.{◌≡◌, ℕ, ◌+◌, ◌<◌, ◌≤◌, true, false, not, ◌&&◌, cond, inl, inr, List, set, length, get_or, arith, refl, sym, ◌∙◌}
use Rattle.std.specs.Prelude.{◌==◌, nat_lt, Option, Some, None, Ok}
use Rattle.std.specs.List.{position, count_by}
use Rattle.std.proofs.lemmas.Bool.{cases_Bool, cases_eq, and_parts, and_from, false≢true, true≢false, eqb-true, not-true}
use Rattle.std.proofs.lemmas.List.{length-set}
use Rattle.std.proofs.lemmas.List.Elements.{All-set, All-weaker}
use Rattle.std.proofs.lemmas.List.Quantifiers.{position-Some}
use Rattle.exec_terms.specs.declared.phase.Phase.{Phase}
use Rattle.exec_terms.specs.declared.phase.Phase.TheVariants.{Pending, InProgress, Aborting, Aborted, Completed, Dead}
use Rattle.exec_terms.specs.declared.work.WorkKind.TheVariants.{Copy as ForCopy}
use Rattle.exec_terms.specs.declared.work.Work.{Work}
use Rattle.exec_terms.specs.declared.work.Work.TheVariants.{Cancel}
use Rattle.exec_terms.specs.declared.task.Task.{Task}
use Rattle.plan_terms.specs.declared.settings.Caps.{Caps}
use Rattle.exec_terms.specs.Words.{is_pending, is_in_progress, is_aborting, in_flight, is_unfinished, is_free, is_replica_task, next_step, is_for, holds, has_number, is_on}
use Rattle.exec_terms.specs.Machine.{State, no_task, task_at, leader_tasks, unfinished_replica_tasks, has_room, has_leader_room, may_start, given, or_start, or_step, or_cancel, next_work, started, taken, after_take}
use Rattle.exec_terms.specs.Valid.{IsOrderKept, IsTask, IsValid}
use Rattle.exec_terms.proofs.Counts.{count_by-set, count_by-set_one, count_by_some, count_by_none}
use Rattle.exec_terms.proofs.Quiet.{IsQuiet, quiet_leader, quiet_unfinished, IsOrderKept-less}
use Rattle.exec_terms.proofs.Begin.{IsTask-more, not_given, with_lease-flying, with_lease-start, is_aborting_is, is_in_progress_is, is_pending_is}

-- the state with one more lease, at task i
leased : State → ℕ → Task → State
leased s i u = record s { tasks = set s.tasks i u; leases = s.leases + 1 }

IsValid-leased : (s : State) (i : ℕ) (u : Task) → i < length s.tasks
    → u.part ≡ (task_at s.tasks i).part → ((n : ℕ) → holds n u ≡ true → n ≡ s.leases + 1)
    → IsOrderKept (set s.tasks i u)
    → IsTask s.base s.hosts s.stopped (s.leases + 1) u
    → IsValid s → IsValid (leased s i u)
unfolding leased
IsValid-leased s i u l p one order ok v = record {
  broker_cap = v.broker_cap;
  cluster_cap = v.cluster_cap;
  leader_cap = v.leader_cap;
  few_chunks = v.few_chunks;
  base_lists = v.base_lists;
  few_tasks = rw (length-set s.tasks i u) v.few_tasks;
  order = order;
  one_task = λ q. omega (arith, v.one_task q, count_by-set (is_on q) s.tasks i u no_task l (λ h. rw p at h));
  one_holder = λ n. elim (cases_eq n (s.leases + 1)) as (λ _. count_by (holds n) (set s.tasks i u) ≤ 1) [
    | inl e ↦ omega (
      arith,
      count_by-set_one (holds n) s.tasks i u no_task l,
      count_by_none (holds n) s.tasks (λ k d b. rw e (not_given s.base s.hosts s.stopped s.leases (get_or s.tasks k d) (v.each k d b))),
    )
    | inr ne ↦ omega (arith, v.one_holder n, count_by-set (holds n) s.tasks i u no_task l (λ h. absurd (ne (one n h))))
  ];
  each = All-set (IsTask s.base s.hosts s.stopped (s.leases + 1)) s.tasks i u ok
      (All-weaker (IsTask s.base s.hosts s.stopped s.leases) (IsTask s.base s.hosts s.stopped (s.leases + 1)) (IsTask-more s.base s.hosts s.stopped s.leases) s.tasks v.each);
}

-- the order with a task that was in flight already
order_flying : (xs : List Task) (i : ℕ) (u : Task) → i < length xs → IsQuiet (task_at xs i) (record u { lease = (task_at xs i).lease }) → IsOrderKept xs → IsOrderKept (set xs i u)
order_flying xs i u l q k = IsOrderKept-less xs (set xs i u)
    (count_by-set (λ t. in_flight t.phase && not (is_replica_task t)) xs i u no_task l (quiet_leader (task_at xs i) _ q))
    (count_by-set (λ t. is_unfinished t.phase && is_replica_task t) xs i u no_task l (quiet_unfinished (task_at xs i) _ q))
    k

quiet_flying : (t : Task) (p : Phase) → t.phase ≡ p → in_flight p ≡ true → IsQuiet t (record t { phase = started p })
quiet_flying t Pending e f = absurd (false≢true f)
quiet_flying t InProgress e f = record { part = refl; before = refl; after = refl; flies = λ _. rw e refl; unfinished = λ _. rw e refl; holds = λ n h. h }
quiet_flying t Aborting e f = record { part = refl; before = refl; after = refl; flies = λ _. rw e refl; unfinished = λ _. rw e refl; holds = λ n h. h }
quiet_flying t Aborted e f = absurd (false≢true f)
quiet_flying t Completed e f = absurd (false≢true f)
quiet_flying t Dead e f = absurd (false≢true f)

-- a task that starts
unfoldable pub begun : Task → Work → ℕ → Task
begun t w n = record t { phase = InProgress; lease = Some (record { number = n; work = w }) }

unfinished_kept : (xs : List Task) (i : ℕ) (w : Work) (n : ℕ) → i < length xs → (task_at xs i).phase ≡ Pending → unfinished_replica_tasks (set xs i (begun (task_at xs i) w n)) ≤ unfinished_replica_tasks xs
unfolding begun
unfinished_kept xs i w n l p = count_by-set (λ t. is_unfinished t.phase && is_replica_task t) xs i (begun (task_at xs i) w n) no_task l (λ h. rw p h)

pub no_leader_more : (xs : List Task) (i : ℕ) (w : Work) (n : ℕ) → i < length xs → (task_at xs i).phase ≡ Pending → is_replica_task (task_at xs i) ≡ true
    → leader_tasks (set xs i (begun (task_at xs i) w n)) ≤ leader_tasks xs
unfolding begun
no_leader_more xs i w n l p r = count_by-set (λ t. in_flight t.phase && not (is_replica_task t)) xs i (begun (task_at xs i) w n) no_task l
    (λ h. absurd (true≢false (sym r ∙ not-true (is_replica_task (task_at xs i)) (and_parts true (not (is_replica_task (task_at xs i))) h).1)))

order_replica : (xs : List Task) (i : ℕ) (w : Work) (n : ℕ) → i < length xs → (task_at xs i).phase ≡ Pending → is_replica_task (task_at xs i) ≡ true
    → IsOrderKept xs → IsOrderKept (set xs i (begun (task_at xs i) w n))
order_replica xs i w n l p r k = record {
  waits = λ some. absurd (
      let e : unfinished_replica_tasks xs ≡ 0 = k.waits (omega (arith, no_leader_more xs i w n l p r)) in
      omega (arith, e, count_by_some (λ t. is_unfinished t.phase && is_replica_task t) xs i no_task l (and_from (is_unfinished (task_at xs i).phase) (is_replica_task (task_at xs i)) (rw p refl) r)));
}

order_leader : (caps : Caps) (xs : List Task) (i : ℕ) (w : Work) (n : ℕ) → i < length xs → (task_at xs i).phase ≡ Pending
    → has_leader_room caps xs ≡ true → IsOrderKept (set xs i (begun (task_at xs i) w n))
order_leader caps xs i w n l p room =
    let two = and_parts (nat_lt (leader_tasks xs) caps.leader) (unfinished_replica_tasks xs == 0) room in
    record { waits = λ some. omega (arith, unfinished_kept xs i w n l p, eqb-true (unfinished_replica_tasks xs) 0 two.1) }

-- the number of the only lease that the task holds
holds_new : (n m : ℕ) (w : Work) → has_number m (Some (record { number = n; work = w })) ≡ true → m ≡ n
holds_new n m w h = sym (eqb-true n m h)

pub IsValid-take : (s : State) → IsValid s → IsValid (after_take s)
unfolding next_work leased begun
IsValid-take s v = by_cancel (position (λ t. is_aborting t.phase && is_free t.lease) s.tasks) refl where
  flying : (i : ℕ) (p : Phase) (w : Work) → i < length s.tasks → (task_at s.tasks i).phase ≡ p → in_flight p ≡ true
      → (p ≡ InProgress → w ≡ next_step (task_at s.tasks i)) → (is_for ForCopy w ≡ true → w ≡ next_step (task_at s.tasks i)) → IsValid (taken s (Ok (given s i w false)))
  flying i p w l e f n m = rw e (IsValid-leased s i (record (task_at s.tasks i) { phase = started p; lease = Some (record { number = s.leases + 1; work = w }) }) l refl
      (λ m h. holds_new (s.leases + 1) m w h)
      (order_flying s.tasks i _ l (quiet_flying (task_at s.tasks i) p e f) v.order)
      (with_lease-flying s.base s.hosts s.stopped s.leases (task_at s.tasks i) p w e f n m (v.each i no_task l)) v)

  by_start : (o : Option ℕ) → position (may_start s.caps s.tasks) s.tasks ≡ o → IsValid (taken s (or_start s o))
  by_start None e = v
  by_start (Some i) e = rw pending (IsValid-leased s i (begun (task_at s.tasks i) (next_step (task_at s.tasks i)) (s.leases + 1)) p.0 refl
      (λ m h. holds_new (s.leases + 1) m (next_step (task_at s.tasks i)) h)
      (elim (cases_Bool (is_replica_task (task_at s.tasks i))) [
        | inl r ↦ order_replica s.tasks i (next_step (task_at s.tasks i)) (s.leases + 1) p.0 pending r v.order
        | inr r ↦ order_leader s.caps s.tasks i (next_step (task_at s.tasks i)) (s.leases + 1) p.0 pending (rw r at room)
      ])
      (with_lease-start s.base s.hosts s.stopped s.leases (task_at s.tasks i) pending (v.each i no_task p.0)) v) where
        p : (i < length s.tasks) × (may_start s.caps s.tasks (task_at s.tasks i) ≡ true) × ((k : ℕ) → k < i → may_start s.caps s.tasks (task_at s.tasks k) ≡ false)
        p = position-Some (may_start s.caps s.tasks) s.tasks i no_task e

        pending : (task_at s.tasks i).phase ≡ Pending
        pending = is_pending_is (task_at s.tasks i).phase (and_parts (is_pending (task_at s.tasks i).phase) (cond (is_replica_task (task_at s.tasks i)) (has_room s.caps s.tasks (task_at s.tasks i)) (has_leader_room s.caps s.tasks)) p.1).0

        room : cond (is_replica_task (task_at s.tasks i)) (has_room s.caps s.tasks (task_at s.tasks i)) (has_leader_room s.caps s.tasks) ≡ true
        room = (and_parts (is_pending (task_at s.tasks i).phase) (cond (is_replica_task (task_at s.tasks i)) (has_room s.caps s.tasks (task_at s.tasks i)) (has_leader_room s.caps s.tasks)) p.1).1

  by_step : (o : Option ℕ) → position (λ t. is_in_progress t.phase && is_free t.lease) s.tasks ≡ o → IsValid (taken s (or_step s o))
  by_step None e = by_start (position (may_start s.caps s.tasks) s.tasks) refl
  by_step (Some i) e =
      let p = position-Some (λ t. is_in_progress t.phase && is_free t.lease) s.tasks i no_task e in
      flying i InProgress (next_step (task_at s.tasks i)) p.0 (is_in_progress_is _ (and_parts _ _ p.1).0) refl (λ _. refl) (λ _. refl)

  by_cancel : (o : Option ℕ) → position (λ t. is_aborting t.phase && is_free t.lease) s.tasks ≡ o → IsValid (taken s (or_cancel s o))
  by_cancel None e = by_step (position (λ t. is_in_progress t.phase && is_free t.lease) s.tasks) refl
  by_cancel (Some i) e =
      let p = position-Some (λ t. is_aborting t.phase && is_free t.lease) s.tasks i no_task e in
      flying i Aborting Cancel p.0 (is_aborting_is _ (and_parts _ _ p.1).0) refl (λ q. cc) (λ k. absurd (false≢true k))
