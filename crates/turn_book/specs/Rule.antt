-- The rule of a turn's table, which holds between any two steps on it. Word 0 is 1 while a pass holds the turn, word 1 is the length of
-- the history, word 2 the number that the book was blamed for, and of word 3 nothing is said.
use Rattle.std.specs.Prelude.{◌≡◌, ℕ, ◌+◌, ◌≤◌, ◌<◌, List, [], ◌∷◌, length, true, false, if◌then◌else◌, ◌==◌, zero, suc, Option, Some, None, slice_get}
use mathlib.Core.List.{IsPrefix}
use mathlib.Core.Option.{some, none}
use mathlib.Core.Option as maybe
use lib.ListN.{get_elem?}
use Rattle.atomic_table.specs.Table.{State}
use Rattle.turn_book.specs.declared.rule.View.{View}

-- where the book is: at home, or out with a pass
pub data Hand (B : Type 0) : Type 0 where
  at_home : B → Hand B
  out : ℕ → Hand B

module _ {B : Type 0} where
  abbrev pub turn_of : Hand B → ℕ
  turn_of (at_home b) = 0
  turn_of (out j) = 1

  abbrev pub homes_of : Hand B → List (maybe.Option (Option B))
  homes_of (at_home b) = some (Some b) ∷ []
  homes_of (out j) = none ∷ []

-- f of each, added up
abbrev pub total : {A : Type 0} → (A → ℕ) → List A → ℕ
total f [] = 0
total f (v ∷ vs) = f v + total f vs

-- each entry stands at its place
abbrev pub ArePlaced : {E : Type 0} → List E → List (ℕ × E) → Type 0
ArePlaced {E} history mine = (k : ℕ) (p : ℕ × E) → get_elem? mine k ≡ some p → slice_get history p.0 ≡ Some p.1

-- how often an entry stands at the place x
abbrev pub times : {E : Type 0} → ℕ → List (ℕ × E) → ℕ
times x [] = 0
times x (e ∷ es) = (if e.0 == x then 1 else 0) + times x es

-- 1 for a place below n, and else 0
abbrev pub once_below : ℕ → ℕ → ℕ
once_below x zero = 0
once_below x (suc n) = (if n == x then 1 else 0) + once_below x n

module _ {B O E : Type 0} where
  -- what the first pass knows, and what is left of one that was joined to another
  abbrev pub first_view : B → O → List E → ℕ → View B O E
  first_view start o journal faults = record { start = Some start; opening = Some o; seen = journal; older = []; mine = []; parts = 1048576; last = 0; known = 0; holds = false }

  abbrev pub spent_view : View B O E
  spent_view = record { start = None; opening = None; seen = []; older = []; mine = []; parts = 0; last = 0; known = 0; holds = false }

module _ {B O E : Type 0} where
  -- what a pass that holds the turn knows: the whole history, and the number
  abbrev pub Owns : Hand B → List E → ℕ → ℕ → View B O E → Type 0
  Owns (at_home b) log faults j v = ⊥
  Owns (out i) log faults j v = (j ≡ i) × (v.seen ≡ log) × (v.known ≡ faults)

  -- a pass that has the book holds the turn
  abbrev pub IsHeld : List (View B O E) → Hand B → Type 0
  IsHeld views (at_home b) = Unit {0}
  IsHeld views (out j) = (v : View B O E) × (get_elem? views j ≡ some v) × (v.holds ≡ true)

  -- the one shape of the table: its words, its slot, and what the passes know
  abbrev pub canon : Hand B → List E → ℕ → ℕ → List (View B O E) → State (Option B) (View B O E)
  canon hand log faults stirs views = record { words = turn_of hand ∷ length log ∷ faults ∷ stirs ∷ []; homes = homes_of hand; views = views }

-- what each pass knows of the history. One that was joined to another is spent: it has no part
pub record Knows {B O E : Type 0} (start : B) (opening : O) (log : List E) (faults : ℕ) (v : View B O E) : Type 0 where
  pub start_is : 0 < v.parts → v.start ≡ Some start
  pub opening_is : 0 < v.parts → v.opening ≡ Some opening
  pub seen : IsPrefix v.seen log
  pub older : (k : ℕ) (o : List E) → get_elem? v.older k ≡ some o → IsPrefix o log
  pub mine : ArePlaced v.seen v.mine
  pub last : v.last ≤ faults
  pub idle : v.parts ≡ 0 → (v.mine ≡ []) × (v.holds ≡ false)

-- the book at home is the one that was put in, or has come of it by its events, with the whole history
abbrev pub IsBook : {B O E : Type 0} → (B → O) → (B → List E) → (B → ℕ) → (B → B → Type 0) → B → Hand B → List E → ℕ → Type 0
IsBook opening journal blamed since start (at_home b) log faults = (opening b ≡ opening start) × (journal b ≡ log) × (blamed b ≡ faults) × since start b
IsBook opening journal blamed since start (out j) log faults = Unit {0}

-- The history begins with the journal that the turn was made with. Of its later places each stands in the own entries of just one pass, and the
-- passes have all parts together
pub record Facts {B O E : Type 0} (opening : B → O) (journal : B → List E) (blamed : B → ℕ) (since : B → B → Type 0) (start : B) (hand : Hand B) (log : List E) (faults : ℕ) (views : List (View B O E)) : Type 0 where
  pub begins : IsPrefix (journal start) log
  pub book : IsBook opening journal blamed since start hand log faults
  pub held : IsHeld views hand
  pub places : (x : ℕ) → total (λ (v : View B O E). times x v.mine) views + once_below x (length (journal start)) ≡ once_below x (length log)
  pub parts : total (λ (v : View B O E). v.parts) views ≡ 1048576
  pub knows : (j : ℕ) (v : View B O E) → get_elem? views j ≡ some v → Knows start (opening start) log faults v
  pub owns : (j : ℕ) (v : View B O E) → get_elem? views j ≡ some v → v.holds ≡ true → Owns hand log faults j v

-- the rule: the table has that shape, with those facts
pub record Kept {B O E : Type 0} (opening : B → O) (journal : B → List E) (blamed : B → ℕ) (since : B → B → Type 0) (start : B) (s : State (Option B) (View B O E)) : Type 0 where
  pub hand : Hand B
  pub log : List E
  pub faults : ℕ
  pub stirs : ℕ
  pub views : List (View B O E)
  pub state : s ≡ canon hand log faults stirs views
  pub facts : Facts opening journal blamed since start hand log faults views
