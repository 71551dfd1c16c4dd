-- No event but a launch raises the work, and take gives work where a task is unfinished and no lease is out.
use Rattle.std.proofs.Common.{◌≡◌, ℕ, ◌+◌, ◌<◌, ◌≤◌, Bool, true, false, not, ◌&&◌, cond, List, [], ◌∷◌, map, length, get_or, arith, refl, sym, ◌∙◌, inl, inr}
use Rattle.std.specs.Prelude.{◌==◌, nat_lt, Option, Some, None, IsOk, Ok}
use Rattle.std.specs.List.{All, list_any, list_all, count_by, position}
use Rattle.std.proofs.lemmas.Bool.{cases_Bool, and_parts, and_from, false≢true, true≢false, lt-ltb, eq-eqb, or_parts, and_left}
use Rattle.std.proofs.lemmas.List.Folds.{Any-from_list_any}
use Rattle.std.proofs.lemmas.List.Elements.{All-cons}
use Rattle.std.proofs.lemmas.List.Quantifiers.{position-Some}
use Rattle.exec_terms.specs.declared.phase.Phase.{Phase}
use Rattle.exec_terms.specs.declared.phase.Phase.TheVariants.{Pending, InProgress, Aborting, Aborted, Completed, Dead}
use Rattle.exec_terms.specs.declared.work.WorkKind.TheVariants.{Copy as ForCopy, Commit as ForCommit, Cancel as ForCancel}
use Rattle.exec_terms.specs.declared.work.Work.{Work}
use Rattle.exec_terms.specs.declared.work.Work.TheVariants.{Cancel}
use Rattle.exec_terms.specs.declared.task.Task.{Task}
use Rattle.exec_terms.specs.Words.{adds, removes, is_replica_task, is_pending, is_in_progress, is_aborting, in_flight, is_unfinished, is_free, copies, copies_left, next_step}
use Rattle.plan_terms.specs.Change.{added}
use Rattle.exec_terms.specs.Machine.{State, no_task, task_at, any_unfinished, started, with_lease, adding, removing, replica_tasks, leader_tasks, unfinished_replica_tasks, has_room, has_leader_room, may_start, given, taken, or_start, or_step, or_cancel, next_work, after_take}
use Rattle.exec_terms.specs.Leases.{test_lease, one_copied, one_failed, committed, cancelled}
use Rattle.exec_terms.specs.Stops.{stopped_by, killed_by, after_stop, can_die, after_kill, marked}
use Rattle.exec_terms.specs.Valid.{work_in, work_of_task, work_left}
use Rattle.exec_terms.specs.Runs.{Take, Copied, CopyFailed, Committed, Cancelled, GivenBack, Stops, Killed, Launched, CapsSet, NoEventRaises, TakeGives}
use Rattle.exec_terms.proofs.Counts.{count_by_none}
use Rattle.plan_terms.specs.declared.settings.Caps.{Caps}
use Rattle.exec_terms.proofs.Begin.{is_pending_is, is_in_progress_is, is_aborting_is}
use Rattle.exec_terms.proofs.WorkLeft.{position-None, answered_or_same, end_lease_at_most, stopped_work, killed_by_work, sum_by-at_most, sum_by-map_le, events_lower, work_of_some}

leased_work : (t : Task) (p : Phase) (w : Work) (n : ℕ) → is_unfinished p ≡ true → (p ≡ Aborting → w ≡ Cancel)
    → work_in (started p) (record t { phase = started p; lease = Some (record { number = n; work = w }) }) ≤ work_in p t
unfolding copies copies_left
leased_work t Pending w n h c = omega arith
leased_work t InProgress w n h c = omega arith
leased_work t Aborting w n h c = rw (c refl) (work_of_some t.lease)
leased_work t Aborted w n h c = absurd (false≢true h)
leased_work t Completed w n h c = absurd (false≢true h)
leased_work t Dead w n h c = absurd (false≢true h)

take_at_most : (s : State) → work_left (after_take s) ≤ work_left s
unfolding next_work
take_at_most s = by_cancel (position (λ t. is_aborting t.phase && is_free t.lease) s.tasks) refl where
  at : (i : ℕ) (p : Phase) (w : Work) (b : Bool) → i < length s.tasks → (task_at s.tasks i).phase ≡ p → is_unfinished p ≡ true → (p ≡ Aborting → w ≡ Cancel)
      → work_left (taken s (Ok (given s i w b))) ≤ work_left s
  at i p w b l e h c = sum_by-at_most work_of_task s.tasks i (with_lease (s.leases + 1) w (task_at s.tasks i)) no_task l (rw e (leased_work (task_at s.tasks i) p w (s.leases + 1) h c))

  by_start : (o : Option ℕ) → position (may_start s.caps s.tasks) s.tasks ≡ o → work_left (taken s (or_start s o)) ≤ work_left s
  by_start None e = omega arith
  by_start (Some i) e =
      let p = position-Some (may_start s.caps s.tasks) s.tasks i no_task e in
      at i Pending (next_step (task_at s.tasks i)) true p.0 (is_pending_is (task_at s.tasks i).phase (and_parts (is_pending (task_at s.tasks i).phase) _ p.1).0) refl (λ q. cc)

  by_step : (o : Option ℕ) → position (λ t. is_in_progress t.phase && is_free t.lease) s.tasks ≡ o → work_left (taken s (or_step s o)) ≤ work_left s
  by_step None e = by_start (position (may_start s.caps s.tasks) s.tasks) refl
  by_step (Some i) e =
      let p = position-Some (λ t. is_in_progress t.phase && is_free t.lease) s.tasks i no_task e in
      at i InProgress (next_step (task_at s.tasks i)) false p.0 (is_in_progress_is (task_at s.tasks i).phase (and_parts (is_in_progress (task_at s.tasks i).phase) _ p.1).0) refl (λ q. cc)

  by_cancel : (o : Option ℕ) → position (λ t. is_aborting t.phase && is_free t.lease) s.tasks ≡ o → work_left (taken s (or_cancel s o)) ≤ work_left s
  by_cancel None e = by_step (position (λ t. is_in_progress t.phase && is_free t.lease) s.tasks) refl
  by_cancel (Some i) e =
      let p = position-Some (λ t. is_aborting t.phase && is_free t.lease) s.tasks i no_task e in
      at i Aborting Cancel false p.0 (is_aborting_is (task_at s.tasks i).phase (and_parts (is_aborting (task_at s.tasks i).phase) _ p.1).0) refl (λ q. refl)

stop_at_most : (s : State) (force : Bool) → work_left (after_stop s force) ≤ work_left s
stop_at_most s force = by (any_unfinished s.tasks) where
  by : (c : Bool) → work_left (cond c (record s { tasks = map (stopped_by force) s.tasks; stopped = true }) s) ≤ work_left s
  by true = sum_by-map_le work_of_task (stopped_by force) s.tasks (λ k d l. stopped_work force (get_or s.tasks k d) (get_or s.tasks k d).phase)
  by false = omega arith

kill_at_most : (s : State) (b : ℕ) → work_left (after_kill s b) ≤ work_left s
kill_at_most s b = by (can_die s b) where
  by : (c : Bool) → work_left (cond c (record s { tasks = map (killed_by b) s.tasks; hosts = map (marked b) s.hosts }) s) ≤ work_left s
  by true = sum_by-map_le work_of_task (killed_by b) s.tasks (λ k d l. killed_by_work b (get_or s.tasks k d))
  by false = omega arith

pub no_event_raises : NoEventRaises
no_event_raises s Take n v = take_at_most s
no_event_raises s (Copied lease) n v = answered_or_same one_copied s lease (test_lease s lease ForCopy) (λ a. ((events_lower s lease v).0 a).0)
no_event_raises s (CopyFailed lease) n v = answered_or_same one_failed s lease (test_lease s lease ForCopy) (λ a. ((events_lower s lease v).0 a).1)
no_event_raises s (Committed lease) n v = answered_or_same committed s lease (test_lease s lease ForCommit) (λ a. (events_lower s lease v).1 a)
no_event_raises s (Cancelled lease) n v = answered_or_same cancelled s lease (test_lease s lease ForCancel) (λ a. (events_lower s lease v).2 a)
no_event_raises s (GivenBack lease) n v = end_lease_at_most s lease
no_event_raises s (Stops force) n v = stop_at_most s force
no_event_raises s (Killed broker) n v = kill_at_most s broker
no_event_raises s (Launched proposals) n v = absurd (n tt)
no_event_raises s (CapsSet caps) n v = omega arith

pub none_any : {X : Type 0} (p : X → Bool) (xs : List X) → list_any p xs ≡ false → All (λ x. p x ≡ false) xs
none_any p [] h = λ k d l. absurd (omega arith)
none_any p (x ∷ xs) h = All-cons (λ x. p x ≡ false) x xs (or_parts (p x) (list_any p xs) h).0 (none_any p xs (or_parts (p x) (list_any p xs) h).1)

all_of : (p : ℕ → Bool) (xs : List ℕ) → ((x : ℕ) → p x ≡ true) → list_all p xs ≡ true
all_of p [] h = refl
all_of p (x ∷ xs) h = and_from (p x) (list_all p xs) (h x) (all_of p xs h)

-- a task in no flight that is unfinished is pending
pending_left : (p : Phase) → in_flight p ≡ false → is_unfinished p ≡ true → is_pending p ≡ true
pending_left Pending f h = refl
pending_left InProgress f h = absurd (true≢false f)
pending_left Aborting f h = absurd (true≢false f)
pending_left Aborted f h = h
pending_left Completed f h = h
pending_left Dead f h = h

no_flight : (p : Phase) → (is_aborting p && true) ≡ false → (is_in_progress p && true) ≡ false → in_flight p ≡ false
no_flight Pending a i = refl
no_flight InProgress a i = absurd (true≢false i)
no_flight Aborting a i = absurd (true≢false a)
no_flight Aborted a i = refl
no_flight Completed a i = refl
no_flight Dead a i = refl

-- where nothing is in flight a task that waits may start, or one before it may
module _ (caps : Caps) (xs : List Task) (b : 1 ≤ caps.broker) (c : 1 ≤ caps.cluster) (l : 1 ≤ caps.leader) (none : All (λ t. in_flight t.phase ≡ false) xs) where
  no_count : (q : Task → Bool) → count_by (λ t. in_flight t.phase && q t) xs ≡ 0
  no_count q = count_by_none (λ t. in_flight t.phase && q t) xs (λ k d m. and_left (in_flight (get_or xs k d).phase) (q (get_or xs k d)) (none k d m))

  replica_starts : (t : Task) → is_pending t.phase ≡ true → is_replica_task t ≡ true → may_start caps xs t ≡ true
  replica_starts t p r = and_from (is_pending t.phase) (cond (is_replica_task t) (has_room caps xs t) (has_leader_room caps xs)) p (rw r (
      and_from _ (nat_lt (replica_tasks xs) caps.cluster)
      (and_from (list_all (λ b. nat_lt (adding xs b) caps.broker) (added t.before t.after)) (list_all (λ b. nat_lt (removing xs b) caps.broker) (added t.after t.before))
      (all_of (λ b. nat_lt (adding xs b) caps.broker) (added t.before t.after) (λ x. lt-ltb (adding xs x) caps.broker (omega (arith, b, no_count (λ t. adds t x)))))
      (all_of (λ b. nat_lt (removing xs b) caps.broker) (added t.after t.before) (λ x. lt-ltb (removing xs x) caps.broker (omega (arith, b, no_count (λ t. removes t x))))))
      (lt-ltb (replica_tasks xs) caps.cluster (omega (arith, c, no_count is_replica_task)))))

  leader_starts : (t : Task) → is_pending t.phase ≡ true → is_replica_task t ≡ false → unfinished_replica_tasks xs ≡ 0 → may_start caps xs t ≡ true
  leader_starts t p r u = and_from (is_pending t.phase) (cond (is_replica_task t) (has_room caps xs t) (has_leader_room caps xs)) p (rw r (
      and_from (nat_lt (leader_tasks xs) caps.leader) (unfinished_replica_tasks xs == 0)
      (lt-ltb (leader_tasks xs) caps.leader (omega (arith, l, no_count (λ t. not (is_replica_task t)))))
      (eq-eqb (unfinished_replica_tasks xs) 0 u)))

  -- the place of a task that passes a test, and what holds of it
  some_starts : position (may_start caps xs) xs ≡ None → list_any (λ t. is_unfinished t.phase) xs ≡ true → ⊥
  some_starts e some = elim (cases_Bool (list_any (λ t. is_unfinished t.phase && is_replica_task t) xs)) [
    | inl r ↦
        (let (k, x, m, same, h) = Any-from_list_any (λ t. is_unfinished t.phase && is_replica_task t) xs r in
        let f : in_flight x.phase ≡ false = rw same at (none k x m) in
        let two = and_parts (is_unfinished x.phase) (is_replica_task x) h in
        true≢false (sym (replica_starts x (pending_left x.phase f two.0) two.1) ∙ rw same at (position-None (may_start caps xs) xs k x e m)))
    | inr r ↦
        (let no = none_any (λ t. is_unfinished t.phase && is_replica_task t) xs r in
        let (k, x, m, same, h) = Any-from_list_any (λ t. is_unfinished t.phase) xs some in
        let f : in_flight x.phase ≡ false = rw same at (none k x m) in
        let nr : is_replica_task x ≡ false = right (is_unfinished x.phase) (is_replica_task x) h (rw same at (no k x m)) in
        true≢false (sym (leader_starts x (pending_left x.phase f h) nr (count_by_none (λ t. is_unfinished t.phase && is_replica_task t) xs no)) ∙ rw same at (position-None (may_start caps xs) xs k x e m)))
  ] where
    right : (a b : Bool) → a ≡ true → (a && b) ≡ false → b ≡ false
    right true b h q = q
    right false b h q = absurd (false≢true h)

pub take_gives : TakeGives
unfolding next_work
take_gives s v some free = by_cancel (position (λ t. is_aborting t.phase && is_free t.lease) s.tasks) refl where
  by_start : All (λ t. (is_aborting t.phase && is_free t.lease) ≡ false) s.tasks → All (λ t. (is_in_progress t.phase && is_free t.lease) ≡ false) s.tasks
      → (o : Option ℕ) → position (may_start s.caps s.tasks) s.tasks ≡ o → IsOk (or_start s o)
  by_start na ni (Some i) e = refl
  by_start na ni None e = absurd (some_starts s.caps s.tasks v.broker_cap v.cluster_cap v.leader_cap
      (λ k d l. no_flight (get_or s.tasks k d).phase (rw (free k d l) at (na k d l)) (rw (free k d l) at (ni k d l))) e some)

  by_step : All (λ t. (is_aborting t.phase && is_free t.lease) ≡ false) s.tasks → (o : Option ℕ) → position (λ t. is_in_progress t.phase && is_free t.lease) s.tasks ≡ o → IsOk (or_step s o)
  by_step na (Some i) e = refl
  by_step na None e = by_start na (λ k d l. position-None (λ t. is_in_progress t.phase && is_free t.lease) s.tasks k d e l) (position (may_start s.caps s.tasks) s.tasks) refl

  by_cancel : (o : Option ℕ) → position (λ t. is_aborting t.phase && is_free t.lease) s.tasks ≡ o → IsOk (or_cancel s o)
  by_cancel (Some i) e = refl
  by_cancel None e = by_step (λ k d l. position-None (λ t. is_aborting t.phase && is_free t.lease) s.tasks k d e l) (position (λ t. is_in_progress t.phase && is_free t.lease) s.tasks) refl
