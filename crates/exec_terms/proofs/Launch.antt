-- A launch and a new executor are valid, and so is every list of events.
use Rattle.std.proofs.Common.{◌≡◌, ℕ, ◌<◌, ◌≤◌, Bool, false, not, ◌&&◌, cond, List, [], ◌∷◌, ◌++◌, map, length, get_or, arith, refl, sym, ◌∙◌, zero, suc, ◌⊎◌, inl, inr, length-append}
use Rattle.std.specs.Prelude.{Option, Some, None}
use Rattle.std.specs.List.{All, count_by}
use Rattle.std.proofs.lemmas.Bool.{cases_lt, false≢true}
use Rattle.std.proofs.lemmas.Option.{none-some}
use Rattle.std.proofs.lemmas.List.{length-map, get_or_append_left, get_or_push, get_or_past}
use Rattle.std.proofs.lemmas.List.Sums.{sum_by-cons}
use Rattle.std.proofs.lemmas.List.Elements.{All-nil, All-map}
use Rattle.exec_terms.specs.declared.task.Task.{Task}
use Rattle.exec_terms.specs.declared.brokers.Host.{Host}
use Rattle.plan_terms.specs.declared.settings.Caps.{Caps}
use Rattle.plan_terms.specs.declared.lists.Proposal.{Proposal}
use Rattle.exec_terms.specs.Words.{in_flight, is_replica_task, holds, is_on, copies, next_step}
use Rattle.exec_terms.specs.Machine.{State, task_of, list_now, lists_now, first_unfinished, launched, after_launch, after_caps}
use Rattle.plan_terms.specs.Belongs.{IsReplicaList}
use Rattle.plan_terms.specs.Legal.{each_below}
use Rattle.exec_terms.specs.Valid.{IsTask, IsValid}
use Rattle.exec_terms.specs.Runs.{Event, Take, Copied, CopyFailed, Committed, Cancelled, GivenBack, Stops, Killed, Launched, CapsSet, CanLaunch, after_event, after_events, CanAllHappen, new_state, EachEventKeeps, RunsAreValid}
use Rattle.exec_terms.proofs.Counts.{count_by_none}
use Rattle.exec_terms.proofs.Events.{IsValid-end_lease, IsValid-copied, IsValid-copy_failed, IsValid-commit, IsValid-cancel, IsValid-stop, IsValid-kill}
use Rattle.exec_terms.proofs.Take.{IsValid-take}
use Rattle.exec_terms.proofs.SettledLists.{settled_is, list_settled, none_flies}

pub length-each_below : {X : Type 0} (f : ℕ → X) (n : ℕ) → length (each_below (λ k. f k ∷ []) n) ≡ n
length-each_below f zero = refl
length-each_below f (suc n) = omega (arith, length-append (each_below (λ k. f k ∷ []) n) (f n ∷ []), length-each_below f n)

pub get_or-each_below : {X : Type 0} (f : ℕ → X) (n k : ℕ) (d : X) → k < n → get_or (each_below (λ j. f j ∷ []) n) k d ≡ f k
get_or-each_below f zero k d l = absurd (omega arith)
get_or-each_below f (suc n) k d l = by (cases_lt k n) (λ m. get_or-each_below f n k d m) where
  by : (k < n) ⊎ (n ≤ k) → (k < n → get_or (each_below (λ j. f j ∷ []) n) k d ≡ f k) → get_or (each_below (λ j. f j ∷ []) n ++ f n ∷ []) k d ≡ f k
  by (inl m) more = get_or_append_left (each_below (λ j. f j ∷ []) n) (f n ∷ []) d k (rw (length-each_below f n) m) ∙ more m
  by (inr m) more =
      let e : k ≡ n = omega arith in
      rw e (get_or_push (each_below (λ j. f j ∷ []) n) (f n) d n (length-each_below f n))

pub count_by-map_is : {X Y : Type 0} (p : X → Bool) (f : Y → X) (ys : List Y) → count_by p (map f ys) ≡ count_by (λ y. p (f y)) ys
count_by-map_is p f [] = refl
count_by-map_is p f (y ∷ ys) =
    omega (
      arith,
      sum_by-cons (λ x. cond (p x) 1 0) (f y) (map f ys),
      sum_by-cons (λ y. cond (p (f y)) 1 0) y ys,
      count_by-map_is p f ys,
    )

pub all_pending : (p : Task → Bool) (chunks : List ℕ) (proposals : List Proposal) → ((q : Proposal) → p (task_of chunks q) ≡ false) → count_by p (map (task_of chunks) proposals) ≡ 0
all_pending p chunks proposals h = count_by_none p (map (task_of chunks) proposals) (All-map (λ t. p t ≡ false) (task_of chunks) proposals (λ k d l. h (get_or proposals k d)))

pub IsValid-launch : (s : State) (proposals : List Proposal) → CanLaunch s proposals → IsValid s → IsValid (after_launch s proposals)
unfolding copies next_step
IsValid-launch s proposals can v = by (first_unfinished s) refl where
  by : (o : Option ℕ) → first_unfinished s ≡ o → IsValid (launched s proposals o)
  by (Some i) e = v
  by None none = record {
    broker_cap = v.broker_cap;
    cluster_cap = v.cluster_cap;
    leader_cap = v.leader_cap;
    few_chunks = v.few_chunks;
    base_lists = λ i d m.
        let l : i < length s.base = rw (length-each_below (list_now s) (length s.base)) at m in
        rw (get_or-each_below (list_now s) (length s.base) i d l) (kept i l);
    few_tasks = rw (length-map proposals (task_of s.chunks)) can.few;
    order = record { waits = λ some. absurd (omega (arith, all_pending (λ t. in_flight t.phase && not (is_replica_task t)) s.chunks proposals (λ q. refl))) };
    one_task = λ n. omega (arith, count_by-map_is (is_on n) (task_of s.chunks) proposals, can.distinct n);
    one_holder = λ n. omega (arith, all_pending (holds n) s.chunks proposals (λ q. refl));
    each = All-map (IsTask (lists_now s) s.hosts false s.leases) (task_of s.chunks) proposals (λ k d l.
        let q : Proposal = get_or proposals k d in
        record {
          known = rw (length-each_below (list_now s) (length s.base)) (can.known k d l);
          few_chunks = elim (cases_lt q.part (length s.chunks)) as (λ _. get_or s.chunks q.part 0 ≤ 1000) [
            | inl m ↦ v.few_chunks q.part 0 m
            | inr m ↦ omega (arith, get_or_past s.chunks q.part 0 m)
          ];
          before_is = rw (can.before k d l) (kept (get_or proposals k d).part (can.known k d l));
          after_is = can.lists k d l;
          before = can.before k d l ∙ sym (get_or-each_below (list_now s) (length s.base) (get_or proposals k d).part [] (can.known k d l));
          done = omega arith;
          lease = λ l e. absurd (none-some l e);
          pending = λ _. record { done = refl; faults = refl; lease = refl };
          faults = λ e. cc;
          doomed = λ e. absurd (false≢true e);
          alive = λ _. can.alive k d l;
          none_waits = λ e. absurd (false≢true e);
          completed = λ e. cc;
        });
  } where
    kept : (p : ℕ) → p < length s.base → IsReplicaList (list_now s p)
    kept p l = rw (list_settled s (none_flies s none) p) (settled_is s p v l)

pub IsValid-launched : (s : State) (proposals : List Proposal) (base : List (List ℕ)) (tasks : List Task) → base ≡ lists_now s → tasks ≡ map (task_of s.chunks) proposals
    → CanLaunch s proposals → first_unfinished s ≡ None → IsValid s → IsValid (record s { base = base; tasks = tasks; stopped = false })
IsValid-launched s proposals base tasks e f can none v = rw (e, f) (rw none at (IsValid-launch s proposals can v))

pub IsValid-caps : (s : State) (caps : Caps) → 1 ≤ caps.broker → 1 ≤ caps.cluster → 1 ≤ caps.leader → IsValid s → IsValid (after_caps s caps)
IsValid-caps s caps b c l v = record {
  broker_cap = b;
  cluster_cap = c;
  leader_cap = l;
  order = v.order;
  few_chunks = v.few_chunks;
  base_lists = v.base_lists;
  few_tasks = v.few_tasks;
  one_task = v.one_task;
  one_holder = v.one_holder;
  each = v.each;
}

pub each_event_keeps : EachEventKeeps
each_event_keeps s Take can v = IsValid-take s v
each_event_keeps s (Copied lease) can v = IsValid-copied s lease v
each_event_keeps s (CopyFailed lease) can v = IsValid-copy_failed s lease v
each_event_keeps s (Committed lease) can v = IsValid-commit s lease v
each_event_keeps s (Cancelled lease) can v = IsValid-cancel s lease v
each_event_keeps s (GivenBack lease) can v = IsValid-end_lease s lease v
each_event_keeps s (Stops force) can v = IsValid-stop s force v
each_event_keeps s (Killed broker) can v = IsValid-kill s broker v
each_event_keeps s (Launched proposals) can v = IsValid-launch s proposals can v
each_event_keeps s (CapsSet caps) can v = IsValid-caps s caps can.0 can.1 can.2 v

pub IsValid-new : (lists : List (List ℕ)) (chunks : List ℕ) (caps : Caps) (hosts : List Host)
    → All IsReplicaList lists → All (λ n. n ≤ 1000) chunks → 1 ≤ caps.broker → 1 ≤ caps.cluster → 1 ≤ caps.leader
    → IsValid (new_state lists chunks caps hosts)
IsValid-new lists chunks caps hosts are few b c l = record {
  broker_cap = b;
  cluster_cap = c;
  leader_cap = l;
  few_chunks = few;
  base_lists = are;
  few_tasks = omega arith;
  order = record { waits = λ some. refl };
  one_task = λ p. omega arith;
  one_holder = λ n. omega arith;
  each = All-nil (IsTask lists hosts false 0);
}

after_events-valid : (s : State) (events : List Event) → CanAllHappen s events → IsValid s → IsValid (after_events s events)
after_events-valid s [] can v = v
after_events-valid s (e ∷ es) can v = after_events-valid (after_event s e) es can.1 (each_event_keeps s e can.0 v)

pub runs_are_valid : RunsAreValid
runs_are_valid lists chunks caps hosts events are few b c l can = after_events-valid (new_state lists chunks caps hosts) events can (IsValid-new lists chunks caps hosts are few b c l)
