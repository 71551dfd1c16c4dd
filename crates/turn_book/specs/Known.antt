-- A turn and a pass, as callers see them, and what each call says of them.
use Rattle.std.specs.Prelude.{◌≡◌, ◌↔◌, ℕ, ◌+◌, ◌≤◌, ◌<◌, ◌⊎◌, max, List, [], ◌∷◌, ◌++◌, length, Bool, true, false, Option, Some}
use mathlib.Core.List.{IsPrefix}
use Rattle.atomic_table.specs.Seated.{TableId}
use Rattle.cc_base.specs.Outside.{HasRisen}
use Rattle.turn_book.specs.Rule.{ArePlaced, times, once_below}
use Rattle.turn_book.specs.declared.rule.View.{View}

-- which turn it is, and the book with which it was made
pub record Made (B : Type 0) : Type 0 where
  pub table : TableId
  pub start : B

-- what a pass knows: whose it is, the opening, the history that was seen, its own entries with their places, its parts, the last blame, and
-- the number of stirs that it noted when it last rested
pub record Known (O E : Type 0) : Type 0 where
  pub table : TableId
  pub from : Option O
  pub seen : List E
  pub mine : List (ℕ × E)
  pub parts : ℕ
  pub last : ℕ
  pub noted : ℕ

-- what callers see of a view, and of the number that was noted
abbrev pub known_of : {B O E : Type 0} → TableId → View B O E → ℕ → Known O E
known_of table v noted = record { table = table; from = v.opening; seen = v.seen; mine = v.mine; parts = v.parts; last = v.last; noted = noted }

-- the pass belongs to the turn, and each of its entries stands at its place in what it has seen
pub record IsPassOf {B O E : Type 0} (opening : B → O) (turn : Made B) (pass : Known O E) : Type 0 where
  pub table : pass.table ≡ turn.table
  pub from : pass.from ≡ Some (opening turn.start)
  pub placed : ArePlaced pass.seen pass.mine

-- the first pass of a turn: it has seen the book's journal, and has no entry and all parts
pub record IsFirst {B O E : Type 0} (opening : B → O) (journal : B → List E) (turn : Made B) (book : B) (pass : Known O E) : Type 0 where
  pub start : turn.start ≡ book
  pub own : IsPassOf opening turn pass
  pub seen : pass.seen ≡ journal book
  pub mine : pass.mine ≡ []
  pub parts : pass.parts ≡ 1048576
  pub last : pass.last ≡ 0

-- the history goes on from what was seen and ends with the event, which is one more of the pass's own; its reply is that of its place
pub record HasActed {E O R : Type 0} (reply_of : O → List E → E → R) (opening : O) (v w : Known O E) (event : E) (reply : R) : Type 0 where
  pub between : List E
  pub seen : w.seen ≡ (v.seen ++ between) ++ event ∷ []
  pub mine : w.mine ≡ v.mine ++ (length (v.seen ++ between), event) ∷ []
  pub replied : reply ≡ reply_of opening (v.seen ++ between) event
  pub parts : w.parts ≡ v.parts
  pub last : w.last ≡ v.last

-- nothing was added to the history, which was seen; the event comes back. Without a blame the fault is want of memory, and the event isn't
-- sure there; with one the event is outward, and the blame is the pass's last
pub record IsRefused {E O F : Type 0} (blame_of : F → ℕ) (is_want : F → Type 0) (sure : O → List E → E → Bool) (outward : E → Bool) (opening : O) (v w : Known O E) (event : E) (answer : F × E) : Type 0 where
  pub returned : answer.1 ≡ event
  pub longer : IsPrefix v.seen w.seen
  pub mine : w.mine ≡ v.mine
  pub parts : w.parts ≡ v.parts
  pub want : (blame_of answer.0 ≡ 0) ↔ is_want answer.0
  pub unsure : blame_of answer.0 ≡ 0 → sure opening w.seen event ≡ false
  pub kept : blame_of answer.0 ≡ 0 → w.last ≡ v.last
  pub outward_is : 0 < blame_of answer.0 → outward event ≡ true
  pub last : 0 < blame_of answer.0 → w.last ≡ blame_of answer.0
  pub rose : 0 < blame_of answer.0 → HasRisen v.last w.last

-- the same pass, which may have seen more
pub record HasLooked {O E : Type 0} (v w : Known O E) : Type 0 where
  pub longer : IsPrefix v.seen w.seen
  pub mine : w.mine ≡ v.mine
  pub parts : w.parts ≡ v.parts
  pub last : w.last ≡ v.last

-- the pass gave one part to a new one, which has seen as much and has no entry
pub record IsCut {O E : Type 0} (v w new : Known O E) : Type 0 where
  pub seen : (w.seen ≡ v.seen) × (new.seen ≡ v.seen)
  pub mine : (w.mine ≡ v.mine) × (new.mine ≡ [])
  pub parts : (v.parts ≡ w.parts + 1) × (new.parts ≡ 1)
  pub last : (w.last ≡ v.last) × (new.last ≡ v.last)

-- the pass has the longer of both histories, both lists of entries, both passes' parts and the greater blame
pub record HasJoined {O E : Type 0} (v other w : Known O E) : Type 0 where
  pub one : (w.seen ≡ v.seen) ⊎ (w.seen ≡ other.seen)
  pub longer : IsPrefix v.seen w.seen × IsPrefix other.seen w.seen
  pub mine : w.mine ≡ v.mine ++ other.mine
  pub parts : w.parts ≡ v.parts + other.parts
  pub last : w.last ≡ max v.last other.last

-- The journal is the history. Of its places from the first journal's length on the pass has each once, with its entry, and none other. The
-- book has come of the one that the turn was made with, by its events
pub record IsWhole {B O E : Type 0} (opening : B → O) (journal : B → List E) (blamed : B → ℕ) (since : B → B → Type 0) (start : B) (v : Known O E) (book : B) : Type 0 where
  pub opening_is : opening book ≡ opening start
  pub begins : IsPrefix (journal start) (journal book)
  pub seen : IsPrefix v.seen (journal book)
  pub each_once : (x : ℕ) → times x v.mine + once_below x (length (journal start)) ≡ once_below x (length (journal book))
  pub placed : ArePlaced (journal book) v.mine
  pub last : v.last ≤ blamed book
  pub since_is : since start book
