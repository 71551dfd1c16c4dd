-- What a caller knows of a board, and what one asking changes in it.
use Rattle.std.specs.Prelude.{◌≡◌, List, [], ◌∷◌, ◌++◌, Option, Some, None}
use mathlib.Core.List.{IsPrefix}
use Rattle.review_board.specs.History.{reply_after}
use Rattle.review_board.specs.declared.events.BoardEvent.{BoardEvent}
use Rattle.review_board.specs.declared.events.BoardReply.{BoardReply}
use Rattle.review_board.specs.declared.reviewer.NoteFault.{NoteFault}
use Rattle.review_board.specs.declared.reviewer.NoteFault.TheVariants as fault

-- an entry: an event, behind the history that it was added to
pub record BoardEntry : Type 0 where
  pub before : List BoardEvent
  pub event : BoardEvent

-- the reply to an entry
abbrev pub reply_to : BoardEntry → BoardReply
reply_to x = reply_after x.before x.event

-- what a caller knows: the history that it has seen, and its own entries
pub record BoardKnown : Type 0 where
  pub seen : List BoardEvent
  pub own : List BoardEntry

-- the event was added behind what was seen and what others added, and is one more own entry; the reply is that of its place
pub record HasNoted (v w : BoardKnown) (e : BoardEvent) (r : BoardReply) : Type 0 where
  pub entry : BoardEntry
  pub event_is : entry.event ≡ e
  pub replied : r ≡ reply_to entry
  pub behind : IsPrefix v.seen entry.before
  pub seen : w.seen ≡ entry.before ++ e ∷ []
  pub own : w.own ≡ v.own ++ entry ∷ []

-- the event was not taken: no own entry is added
pub record IsUnnoted (v w : BoardKnown) : Type 0 where
  pub longer : IsPrefix v.seen w.seen
  pub own : w.own ≡ v.own

-- a caller that may have no board: the board took the event
abbrev pub HasNotedBy : Option BoardKnown → Option BoardKnown → BoardEvent → BoardReply → Type 0
HasNotedBy (Some v) (Some w) e r = HasNoted v w e r
HasNotedBy _ _ e r = ⊥

-- or it did not: there is none, or there was no memory
abbrev pub IsUnnotedBy : Option BoardKnown → Option BoardKnown → NoteFault → Type 0
IsUnnotedBy None None fault.NoBoard = Unit {0}
IsUnnotedBy (Some v) (Some w) fault.Memory = IsUnnoted v w
IsUnnotedBy _ _ f = ⊥

-- the entries of a journal that goes on from this front, each behind those before it
abbrev pub all_entries : List BoardEvent → List BoardEvent → List BoardEntry
all_entries front [] = []
all_entries front (e ∷ es) = record { before = front; event = e } ∷ all_entries (front ++ e ∷ []) es

-- who owns the board has seen its whole journal, and made each of its entries
abbrev pub known_by_owner : List BoardEvent → BoardKnown
known_by_owner journal = record { seen = journal; own = all_entries [] journal }
