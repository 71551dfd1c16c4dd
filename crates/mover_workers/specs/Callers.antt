-- A caller of a turn: what it knows, and what stays or grows in it.
use Rattle.std.specs.Prelude.{◌≡◌, ◌≤◌, ℕ, suc, List, [], ◌∷◌, ◌++◌, length, true}
use mathlib.Core.List.{IsPrefix}
use Rattle.cluster_json.specs.File.{Meaning}
use Rattle.core_terms.specs.History.{reply_after, is_sure_after}
use Rattle.core_terms.specs.declared.events.Event.{Event}
use Rattle.control_core.specs.Books.{BookView}
use Rattle.mover_rounds.specs.Asked.{Rules, Known, entries_of}
use Rattle.turn_book.specs.Known.{Made, Known as PassView, IsPassOf}

-- the pass is one of a turn over a book
abbrev pub Belongs : {A : Type 0} → Made (BookView A) → PassView Meaning Event → Type 0
Belongs turn pass = IsPassOf (λ b. b.file) turn pass

-- a caller: its turn, and its pass
pub record CallerView (A : Type 0) : Type 0 where
  pub turn : Made (BookView A)
  pub pass : PassView Meaning Event

-- the rules of the core, as a turn tells of them: behind a fault of the admin it doesn't tell whether a task was unfinished
abbrev pub turn_rules : Meaning → Rules
turn_rules file = record { reply = reply_after file; sure = is_sure_after file; unfinished = λ history. true }

-- what a pass of a turn over the book of a file knows
abbrev pub known_by_pass : Meaning → PassView Meaning Event → Known
known_by_pass file pass = record { rules = turn_rules file; seen = pass.seen; own = entries_of pass.seen pass.mine; blamed = pass.last }

-- and a caller
abbrev pub known_by_caller : {A : Type 0} → CallerView A → Known
known_by_caller c = known_by_pass c.turn.start.file c.pass

-- the same pass after a while: it has the same parts, and has seen no less and made no fewer entries
pub record IsLater {O E : Type 0} (v w : PassView O E) : Type 0 where
  pub seen : IsPrefix v.seen w.seen
  pub mine : IsPrefix v.mine w.mine
  pub parts : w.parts ≡ v.parts

-- places from `lo` on and below `hi`, which rise
abbrev pub Rise : {E : Type 0} → ℕ → ℕ → List (ℕ × E) → Type 0
Rise lo hi [] = lo ≤ hi
Rise lo hi (x ∷ xs) = (lo ≤ x.0) × Rise (suc x.0) hi xs

-- the same pass after a while in which it joined no other: it has the same parts and has seen no less, and its new entries stand behind what
-- it had seen, in their order
pub record HasGrown {O E : Type 0} (v w : PassView O E) : Type 0 where
  pub seen : IsPrefix v.seen w.seen
  pub parts : w.parts ≡ v.parts
  pub added : List (ℕ × E)
  pub mine : w.mine ≡ v.mine ++ added
  pub rise : Rise (length v.seen) (length w.seen) added

-- the same caller after a while
pub record IsSince {A : Type 0} (b c : CallerView A) : Type 0 where
  pub turn : c.turn ≡ b.turn
  pub grown : HasGrown b.pass c.pass
