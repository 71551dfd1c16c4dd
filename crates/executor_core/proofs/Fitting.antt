-- The first task of the queue that fits is the first one that may start.
use Rattle.std.proofs.Common.{◌≡◌, ℕ, ◌+◌, Bool, true, false, not, ◌&&◌, ◌||◌, cond, List, [], ◌∷◌, map, arith, refl, ap, ◌∙◌, zero-add}
use Rattle.std.specs.Prelude.{◌==◌, nat_lt}
use Rattle.std.specs.List.{list_any, list_all, prefix_len, position}
use Rattle.std.proofs.lemmas.Bool.{ne_eqb}
use Rattle.std.proofs.lemmas.List.Sums.{sum_by-cons}
use Rattle.std.proofs.lemmas.List.{length-map}
use Rattle.std.proofs.Math.Path.{fun_ext}
use Rattle.plan_terms.specs.Change.{added}
use Rattle.exec_terms.specs.declared.task.Task.{Task}
use Rattle.exec_terms.specs.declared.brokers.Host.{Host}
use Rattle.plan_terms.specs.declared.settings.Caps.{Caps}
use Rattle.exec_terms.specs.Words.{is_pending, in_flight, is_unfinished, is_replica_task}
use Rattle.exec_terms.specs.Machine.{adding, removing, replica_tasks, leader_tasks, unfinished_replica_tasks, has_room, has_leader_room, may_start}
use Rattle.cap_ledger.specs.Ledger.{Ledger, adding_of, removing_of, fits_in}
use Rattle.task_planner.specs.declared.slot.Slot.{Slot}
use Rattle.task_planner.specs.Queue.{moves, may_lead, fits_slot, first_fitting}
use Rattle.executor_core.specs.Kept.{AreCounts, slot_of}

prefix_len-map : {X Y : Type 0} (p : Y → Bool) (f : X → Y) (xs : List X) → prefix_len p (map f xs) ≡ prefix_len (λ x. p (f x)) xs
prefix_len-map p f [] = refl
prefix_len-map p f (x ∷ xs) = ap (λ (n : ℕ). cond (p (f x)) (1 + n) 0) (prefix_len-map p f xs)

pub position-map : {X Y : Type 0} (p : Y → Bool) (f : X → Y) (xs : List X) → position p (map f xs) ≡ position (λ x. p (f x)) xs
position-map p f xs = rw (prefix_len-map (λ y. not (p y)) f xs, length-map xs f) refl

list_any-map : {X Y : Type 0} (p : Y → Bool) (f : X → Y) (xs : List X) → list_any p (map f xs) ≡ list_any (λ x. p (f x)) xs
list_any-map p f [] = refl
list_any-map p f (x ∷ xs) = ap (λ (b : Bool). p (f x) || b) (list_any-map p f xs)

-- a task of the queue waits where one is pending
pub waiting_is : (tasks : List Task) (queue : List Slot) → queue ≡ map slot_of tasks → list_any (λ s. s.waits) queue ≡ list_any (λ t. is_pending t.phase) tasks
waiting_is tasks queue q = ap (λ (slots : List Slot). list_any (λ s. s.waits) slots) q ∙ list_any-map (λ s. s.waits) slot_of tasks

abbrev one : Bool → ℕ
one b = cond b 1 0

not_none : (n : ℕ) → (1 + n == 0) ≡ false
not_none n = ne_eqb (1 + n) 0 (λ e. absurd (omega (arith, e)))

and_false : (b : Bool) → (b && false) ≡ false
and_false true = refl
and_false false = refl

-- a task more, that waits or not, is in flight or not, and moves replicas or not
one_more : (waits flies replica : Bool) (flying unfinished : ℕ) (any : Bool) → ((flying == 0) && not any) ≡ (unfinished == 0)
    → ((one (flies && replica) + flying == 0) && not ((waits && replica) || any)) ≡ (one ((waits || flies) && replica) + unfinished == 0)
one_more true true true f u a h = rw (not_none f, not_none u) refl
one_more true false true f u a h = rw (not_none u) (and_false (0 + f == 0))
one_more false true true f u a h = rw (not_none f, not_none u) refl
one_more false false true f u a h = rw (zero-add f, zero-add u) h
one_more true true false f u a h = rw (zero-add f, zero-add u) h
one_more true false false f u a h = rw (zero-add f, zero-add u) h
one_more false true false f u a h = rw (zero-add f, zero-add u) h
one_more false false false f u a h = rw (zero-add f, zero-add u) h

abbrev waits_to_move : Task → Bool
waits_to_move t = is_pending t.phase && is_replica_task t

-- no replica task is in flight and none waits: none is unfinished
none_unfinished : (ts : List Task) → ((replica_tasks ts == 0) && not (list_any waits_to_move ts)) ≡ (unfinished_replica_tasks ts == 0)
none_unfinished [] = refl
none_unfinished (t ∷ ts) =
    rw (
      sum_by-cons (λ (t : Task). one (in_flight t.phase && is_replica_task t)) t ts,
      sum_by-cons (λ (t : Task). one (is_unfinished t.phase && is_replica_task t)) t ts,
    )
    (one_more (is_pending t.phase) (in_flight t.phase) (is_replica_task t) (replica_tasks ts) (unfinished_replica_tasks ts) (list_any waits_to_move ts) (none_unfinished ts))

module _ (caps : Caps) (hosts : List Host) (tasks : List Task) (l : Ledger) (queue : List Slot) (c : AreCounts hosts tasks l) (q : queue ≡ map slot_of tasks) where
  lead_is : may_lead l queue ≡ (unfinished_replica_tasks tasks == 0)
  lead_is = rw (c.replica, q, list_any-map moves slot_of tasks) (none_unfinished tasks)

  room_is : (before after : List ℕ)
      → (list_all (λ b. nat_lt (adding_of l b) caps.broker) (added before after) && list_all (λ b. nat_lt (removing_of l b) caps.broker) (added after before) && nat_lt l.replica caps.cluster)
      ≡ (list_all (λ b. nat_lt (adding tasks b) caps.broker) (added before after) && list_all (λ b. nat_lt (removing tasks b) caps.broker) (added after before) && nat_lt (replica_tasks tasks) caps.cluster)
  room_is before after =
      let a : list_all (λ b. nat_lt (adding_of l b) caps.broker) (added before after) ≡ list_all (λ b. nat_lt (adding tasks b) caps.broker) (added before after) =
      ap (λ (p : ℕ → Bool). list_all p (added before after)) (fun_ext (λ (b : ℕ). ap (λ (n : ℕ). nat_lt n caps.broker) (c.adding b))) in
      let r : list_all (λ b. nat_lt (removing_of l b) caps.broker) (added after before) ≡ list_all (λ b. nat_lt (removing tasks b) caps.broker) (added after before) =
      ap (λ (p : ℕ → Bool). list_all p (added after before)) (fun_ext (λ (b : ℕ). ap (λ (n : ℕ). nat_lt n caps.broker) (c.removing b))) in
      rw (a, r, c.replica) refl

  fits_is : (t : Task) → fits_slot caps l (may_lead l queue) (slot_of t) ≡ may_start caps tasks t
  unfolding fits_in
  fits_is t = rw (lead_is) (by (is_replica_task t)) where
    by : (d : Bool) → (is_pending t.phase
        && cond d (list_all (λ b. nat_lt (adding_of l b) caps.broker) (added t.before t.after) && list_all (λ b. nat_lt (removing_of l b) caps.broker) (added t.after t.before) && nat_lt l.replica caps.cluster) (nat_lt l.leader caps.leader)
        && ((unfinished_replica_tasks tasks == 0) || d))
        ≡ (is_pending t.phase && cond d (has_room caps tasks t) (has_leader_room caps tasks))
    by true = rw (room_is t.before t.after) (both (is_pending t.phase) (has_room caps tasks t) (unfinished_replica_tasks tasks == 0)) where
      both : (p r u : Bool) → (p && r && (u || true)) ≡ (p && r)
      both true true true = refl
      both true true false = refl
      both true false u = refl
      both false r u = refl
    by false = rw (c.leader) (both (is_pending t.phase) (nat_lt (leader_tasks tasks) caps.leader) (unfinished_replica_tasks tasks == 0)) where
      both : (p r u : Bool) → (p && r && (u || false)) ≡ (p && (r && u))
      both true true true = refl
      both true true false = refl
      both true false u = refl
      both false r u = refl

  pub first_is : first_fitting caps l queue ≡ position (may_start caps tasks) tasks
  first_is = ap (λ (slots : List Slot). position (fits_slot caps l (may_lead l queue)) slots) q
      ∙ position-map (fits_slot caps l (may_lead l queue)) slot_of tasks
      ∙ ap (λ (p : Task → Bool). position p tasks) (fun_ext fits_is)
