-- What the steps of a turn's table know of a pass's seat.
use Rattle.std.specs.Prelude.{◌≡◌, ℕ, ◌≤◌, ◌<◌, List, [], ◌∷◌, ◌++◌, true, false, Some, None}
use mathlib.Core.List.{IsPrefix}
use Rattle.atomic_table.specs.Seated.{TableId}
use Rattle.turn_book.specs.declared.rule.View.{View}
use Rattle.turn_book.specs.Known.{IsPassOf, known_of}
use Rattle.turn_book.specs.Plays.{Seated, holding, extended}

-- the seat of a pass between two calls: it hasn't the turn nor the book, and has a part
pub record IsIdle {B O E : Type 0} (me : Seated B O E) : Type 0 where
  pub free : me.0.holds ≡ false
  pub empty : me.1 ≡ []
  pub some_part : 0 < me.0.parts

-- the idle seat of a pass of the turn that was made with the book `start`
pub record IsSeatOf {B O E : Type 0} (opening : B → O) (table : TableId) (start : B) (seat : TableId) (me : Seated B O E) : Type 0 where
  pub known : IsPassOf opening (record { table = table; start = start }) (known_of seat me.0 0)
  pub idle : IsIdle me

-- the pass holds the turn, and this is the book
pub record HasTurn {B O E : Type 0} (opening : B → O) (journal : B → List E) (blamed : B → ℕ) (since : B → B → Type 0) (start : B) (v : View B O E) (me : Seated B O E) (book : B) : Type 0 where
  pub view : me.0 ≡ holding v (journal book) (blamed book)
  pub hand : me.1 ≡ (0, None) ∷ []
  pub opening_is : opening book ≡ opening start
  pub longer : IsPrefix v.seen (journal book)
  pub last : v.last ≤ blamed book
  pub since_is : (s : B) → v.start ≡ Some s → since s book

-- the book may go home
pub record MayEnd {B O E : Type 0} (opening : B → O) (journal : B → List E) (blamed : B → ℕ) (since : B → B → Type 0) (start : B) (me : Seated B O E) (book : B) : Type 0 where
  pub from : me.0.opening ≡ Some (opening start)
  pub holds : me.0.holds ≡ true
  pub some_part : 0 < me.0.parts
  pub hand : me.1 ≡ (0, None) ∷ []
  pub opening_is : opening book ≡ opening start
  pub whole : journal book ≡ me.0.seen
  pub faults : blamed book ≡ me.0.known
  pub since_is : (s : B) → me.0.start ≡ Some s → since s book

-- the book has one entry more than the list
abbrev pub HasOneMore : {B E : Type 0} → (B → List E) → List E → B → Type 0
HasOneMore {B} {E} journal seen book = (e : E) × (journal book ≡ seen ++ e ∷ [])

-- the view has the last entry of the journal as its own
pub record IsPublished {B O E : Type 0} (journal : List E) (v w : View B O E) : Type 0 where
  pub entry : E
  pub longer : journal ≡ v.seen ++ entry ∷ []
  pub view : w ≡ extended v entry
