-- What each step on the table makes of a pass's view, and tells the pass.
use Rattle.std.specs.Prelude.{if◌then◌else◌, nat_le, max, ◌-◌, ◌≡◌, ◌≢◌, ℕ, ◌+◌, ◌≤◌, List, [], ◌∷◌, ◌++◌, length, true, false, Option, Some}
use mathlib.Core.List.{IsPrefix}
use mathlib.Core.Option.{some}
use lib.ListN.{get_elem?}
use Rattle.atomic_table.specs.Table.{Me, Step, rest}
use Rattle.turn_book.specs.Rule.{ArePlaced}
use Rattle.turn_book.specs.declared.rule.View.{View}

-- a pass's view, and the slots that are out with it
abbrev pub Seated : Type 0 → Type 0 → Type 0 → Type 0
Seated B O E = Me (Option B) (View B O E)

-- the longer of two lists
abbrev pub longer : {E : Type 0} → List E → List E → List E
longer xs ys = if nat_le (length xs) (length ys) then ys else xs

module _ {B O E : Type 0} where
  -- the view with the turn, the whole history and the book's count of faults
  abbrev pub holding : View B O E → List E → ℕ → View B O E
  holding v log faults = record { start = v.start; opening = v.opening; seen = log; older = v.older; mine = v.mine; parts = v.parts; last = v.last; known = faults; holds = true }

  -- the view without the turn
  abbrev pub freed : View B O E → View B O E
  freed v = record { start = v.start; opening = v.opening; seen = v.seen; older = v.older; mine = v.mine; parts = v.parts; last = v.last; known = v.known; holds = false }

  -- the view that has seen this history
  abbrev pub seeing : View B O E → List E → View B O E
  seeing v log = record { start = v.start; opening = v.opening; seen = log; older = v.older; mine = v.mine; parts = v.parts; last = v.last; known = v.known; holds = v.holds }

  -- the view with one entry more
  abbrev pub extended : View B O E → E → View B O E
  extended v e = record { start = v.start; opening = v.opening; seen = v.seen ++ e ∷ []; older = v.older; mine = v.mine ++ (length v.seen, e) ∷ []; parts = v.parts; last = v.last; known = v.known; holds = v.holds }

  -- the view that was answered this blame
  abbrev pub blaming : View B O E → ℕ → View B O E
  blaming v f = record { start = v.start; opening = v.opening; seen = v.seen; older = v.older; mine = v.mine; parts = v.parts; last = f; known = f; holds = v.holds }

  -- a pass with one part less
  abbrev pub one_less : View B O E → View B O E
  one_less v = record { start = v.start; opening = v.opening; seen = v.seen; older = v.older; mine = v.mine; parts = v.parts - 1; last = v.last; known = v.known; holds = v.holds }

  -- a new pass with that part, which has seen as much and has no entry
  abbrev pub told : View B O E → View B O E
  told v = record { start = v.start; opening = v.opening; seen = v.seen; older = []; mine = []; parts = 1; last = v.last; known = 0; holds = false }

  -- the view with all of another's; both histories that were seen are kept as older ones
  abbrev pub joined : View B O E → View B O E → View B O E
  joined v w = record { start = v.start; opening = v.opening; seen = longer v.seen w.seen; older = v.seen ∷ w.seen ∷ []; mine = v.mine ++ w.mine; parts = v.parts + w.parts; last = max v.last w.last; known = v.known; holds = v.holds }

  -- the view without what was seen before a join
  abbrev pub settled : View B O E → View B O E
  settled v = record { start = v.start; opening = v.opening; seen = v.seen; older = []; mine = v.mine; parts = v.parts; last = v.last; known = v.known; holds = v.holds }

-- the turn and the book are the pass's, which has seen the whole history
pub record Taken {B O E : Type 0} (opening : B → O) (journal : B → List E) (blamed : B → ℕ) (since : B → B → Type 0) (m r : Seated B O E) : Type 0 where
  pub book : B
  pub view : r.0 ≡ holding m.0 (journal book) (blamed book)
  pub carried : r.1 ≡ (0, Some book) ∷ m.1
  pub same : (o : O) → m.0.opening ≡ Some o → opening book ≡ o
  pub longer : IsPrefix m.0.seen (journal book)
  pub last : m.0.last ≤ blamed book
  pub since_is : (s : B) → m.0.start ≡ Some s → since s book

abbrev pub taken : {B O E : Type 0} → (B → O) → (B → List E) → (B → ℕ) → (B → B → Type 0) → Step (Option B) → Seated B O E → ℕ → Seated B O E → Type 0
taken opening journal blamed since s m n r = (n ≡ 0 → Taken opening journal blamed since m r) × (n ≢ 0 → r ≡ m)

-- the history of this length was seen
pub record Looked {B O E : Type 0} (m : Seated B O E) (n : ℕ) (r : Seated B O E) : Type 0 where
  pub log : List E
  pub view : r ≡ (seeing m.0 log, m.1)
  pub length_is : length log ≡ n
  pub longer : IsPrefix m.0.seen log
  pub older : (k : ℕ) (o : List E) → get_elem? m.0.older k ≡ some o → IsPrefix o log
  pub whole : m.0.holds ≡ true → log ≡ m.0.seen
  pub placed : ArePlaced r.0.seen r.0.mine

abbrev pub looked : {B O E : Type 0} → Step (Option B) → Seated B O E → ℕ → Seated B O E → Type 0
looked s m n r = Looked m n r

-- the announced book's last entry got the place behind what was seen
pub record Published {B O E : Type 0} (journal : B → List E) (s : Step (Option B)) (m : Seated B O E) (r : Seated B O E) : Type 0 where
  pub book : B
  pub entry : E
  pub said : s.said ≡ some (Some book)
  pub longer : journal book ≡ m.0.seen ++ entry ∷ []
  pub view : r ≡ (extended m.0 entry, m.1)

abbrev pub published : {B O E : Type 0} → (B → List E) → Step (Option B) → Seated B O E → ℕ → Seated B O E → Type 0
published journal s m n r = Published journal s m r

abbrev pub released : {B O E : Type 0} → Step (Option B) → Seated B O E → ℕ → Seated B O E → Type 0
released s m n r = (r ≡ (freed m.0, rest m.1)) × ArePlaced r.0.seen r.0.mine

abbrev pub blames : {B O E : Type 0} → Step (Option B) → Seated B O E → ℕ → Seated B O E → Type 0
blames s m n r = r ≡ (blaming m.0 n, m.1)

-- what was seen, before a join too, begins one history
pub record Compared {B O E : Type 0} (m : Seated B O E) (n : ℕ) (r : Seated B O E) : Type 0 where
  pub log : List E
  pub view : r ≡ (settled m.0, m.1)
  pub length_is : length log ≡ n
  pub seen : IsPrefix m.0.seen log
  pub older : (k : ℕ) (o : List E) → get_elem? m.0.older k ≡ some o → IsPrefix o log
  pub placed : ArePlaced r.0.seen r.0.mine

abbrev pub compared : {B O E : Type 0} → Step (Option B) → Seated B O E → ℕ → Seated B O E → Type 0
compared s m n r = Compared m n r

abbrev pub unchanged : {B O E : Type 0} → Step (Option B) → Seated B O E → ℕ → Seated B O E → Type 0
unchanged s m n r = r ≡ m
