-- A loop that turns a list, made of another one, from the front into what the other one makes otherwise.
use Rattle.std.proofs.Common.{◌≡◌, ℕ, ◌+◌, ◌<◌, Bool, true, false, ◌&&◌, ◌||◌, cond, List, [], ◌∷◌, ◌++◌, map, set, take, drop, length, get_or, arith, refl, sym, ap, ◌∙◌, append_assoc, length-append}
use Rattle.std.proofs.lemmas.List.{drop_more, map_more, set_at, get_or_at, length-map, length-take-le, length-drop}
use Rattle.exec_terms.specs.declared.phase.Phase.{Phase}
use Rattle.exec_terms.specs.declared.phase.Phase.TheVariants.{Pending, InProgress, Aborting, Aborted, Completed, Dead}
use Rattle.exec_terms.specs.declared.task.Task.{Task}
use Rattle.exec_terms.specs.Words.{is_pending, in_flight, needs}
use Rattle.exec_terms.specs.Stops.{phase_killed, killed_by}
use Rattle.task_planner.specs.declared.slot.Slot.{Slot}
use Rattle.task_planner.specs.Queue.{no_slot, slot_at, ended}
use Rattle.executor_core.specs.Kept.{slot_of}

module _ {X Y : Type 0} (g h : X → Y) (xs : List X) (cur : List Y) (i : ℕ) (x : X) (within : i < length xs) (e : cur ≡ map g (take i xs) ++ map h (drop i xs)) where
  abbrev front : List Y
  front = map g (take i xs)

  front-length : length front ≡ i
  front-length = length-map (take i xs) g ∙ length-take-le i xs (omega arith)

  parts : cur ≡ front ++ h (get_or xs i x) ∷ map h (drop (i + 1) xs)
  parts = e ∙ ap (λ (ys : List X). front ++ map h ys) (drop_more xs i x within)

  -- the element that the loop has come to
  pub turn_at : (d : Y) → get_or cur i d ≡ h (get_or xs i x)
  turn_at d = ap (λ (ys : List Y). get_or ys i d) parts ∙ get_or_at front (h (get_or xs i x)) (map h (drop (i + 1) xs)) d i front-length

  joined : (y : Y) → y ≡ g (get_or xs i x) → front ++ y ∷ map h (drop (i + 1) xs) ≡ map g (take (i + 1) xs) ++ map h (drop (i + 1) xs)
  joined y is = ap (λ (z : Y). front ++ z ∷ map h (drop (i + 1) xs)) is
      ∙ sym (append_assoc front (g (get_or xs i x) ∷ []) (map h (drop (i + 1) xs)))
      ∙ ap (λ (ys : List Y). ys ++ map h (drop (i + 1) xs)) (sym (map_more g xs i x within))

  -- it is turned
  pub turn : (y : Y) → y ≡ g (get_or xs i x) → set cur i y ≡ map g (take (i + 1) xs) ++ map h (drop (i + 1) xs)
  turn y is = ap (λ (ys : List Y). set ys i y) parts ∙ set_at front (h (get_or xs i x)) (map h (drop (i + 1) xs)) y i front-length ∙ joined y is

  -- or it is the same either way
  pub turn-same : h (get_or xs i x) ≡ g (get_or xs i x) → cur ≡ map g (take (i + 1) xs) ++ map h (drop (i + 1) xs)
  turn-same is = parts ∙ joined (h (get_or xs i x)) is

-- a task that ends where the test says so has left the queue
module _ (g : Task → Slot) (xs : List Task) (cur : List Slot) (i : ℕ) (x : Task) (within : i < length xs) (e : cur ≡ map g (take i xs) ++ map slot_of (drop i xs)) (read : x ≡ get_or xs i x) where
  slot_here : (d : Slot) → get_or cur i d ≡ slot_of x
  slot_here d = turn_at g slot_of xs cur i x within e d ∙ ap slot_of (sym read)

  pub queue_known : i < length cur
  queue_known = rw e (omega (arith, length-append (map g (take i xs)) (map slot_of (drop i xs)), length-map (take i xs) g, length-map (drop i xs) slot_of, length-take-le i xs (omega arith), length-drop i xs))

  pub queue_waits : is_pending x.phase ≡ true → (slot_at cur i).waits ≡ true
  queue_waits w = ap (λ (s : Slot). s.waits) (slot_here no_slot) ∙ w

  pub queue_turned : (ends : Bool) → g x ≡ cond ends (ended (slot_of x)) (slot_of x) → (q : List Slot) → q ≡ cond ends (set cur i (ended (slot_at cur i))) cur
      → q ≡ map g (take (i + 1) xs) ++ map slot_of (drop (i + 1) xs)
  queue_turned true is q h = h ∙ turn g slot_of xs cur i x within e (ended (slot_at cur i)) (ap ended (slot_here no_slot) ∙ sym is ∙ ap g read)
  queue_turned false is q h = h ∙ turn-same g slot_of xs cur i x within e (ap slot_of (sym read) ∙ sym is ∙ ap g read)

-- every task that waits ends
pub stopped_slot : (x : Task) → ended (slot_of x) ≡ cond (is_pending x.phase) (ended (slot_of x)) (slot_of x)
stopped_slot x = by (is_pending x.phase) where
  by : (b : Bool) → ended (record { before = x.before; after = x.after; waits = b }) ≡ cond b (ended (record { before = x.before; after = x.after; waits = b })) (record { before = x.before; after = x.after; waits = b })
  by true = refl
  by false = refl

-- the death of a broker ends the tasks that wait and need it
pub killed_slot : (b : ℕ) (x : Task) → slot_of (killed_by b x) ≡ cond (needs x b && is_pending x.phase) (ended (slot_of x)) (slot_of x)
killed_slot b x = by (needs x b) where
  waits : (p : Phase) → ◌≡◌ {A = Slot} (record { before = x.before; after = x.after; waits = is_pending (phase_killed p) })
      (cond (is_pending p) (record { before = x.before; after = x.after; waits = false }) (record { before = x.before; after = x.after; waits = is_pending p }))
  waits Pending = refl
  waits InProgress = refl
  waits Aborting = refl
  waits Aborted = refl
  waits Completed = refl
  waits Dead = refl

  by : (c : Bool) → slot_of (cond c (record x { phase = phase_killed x.phase; doomed = x.doomed || in_flight x.phase }) x) ≡ cond (c && is_pending x.phase) (ended (slot_of x)) (slot_of x)
  by true = waits x.phase
  by false = refl
