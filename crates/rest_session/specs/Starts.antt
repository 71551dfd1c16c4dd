-- What a reviewed link starts: just what was given out to it.
use Rattle.std.specs.Prelude.{◌≡◌, ◌⊎◌, ◌++◌, Bool, true, false, not, List, [], ◌∷◌, filter, map, None, Result, Ok, Err}
use Rattle.std.specs.List.{AllByRecursion}
use Rattle.core_terms.specs.declared.events.Event.{Event}
use Rattle.core_terms.specs.declared.events.Event.TheVariants as event
use Rattle.mover_rounds.specs.Asked.{Entry}
use Rattle.rest_parse.specs.Calls.{meaning}
use Rattle.rest_parse.specs.declared.calls.Call.{Call}
use Rattle.rest_parse.specs.declared.calls.HttpFault.{HttpFault}
use Rattle.review_board.specs.Asked.{BoardEntry, reply_to}
use Rattle.review_board.specs.declared.events.BoardReply.{BoardReply}
use Rattle.review_board.specs.declared.events.BoardReply.TheVariants as reply
use Rattle.user_tasks.specs.declared.ask.Op.{Op}
use Rattle.user_tasks.specs.declared.ask.Op.TheVariants as op
use Rattle.rest_session.specs.Pieces.{Piece, asks_head, memory_reply, sent}
use Rattle.rest_session.specs.Calls.{asked_by}
use Rattle.rest_session.specs.Heals.{HasNoFix}
use Rattle.rest_session.specs.Reviewed.{given_request, starts}
use Rattle.rest_session.specs.declared.calls.Asked.{Asked}
use Rattle.rest_session.specs.declared.calls.Asked.TheVariants as asked

abbrev pub is_proposals : Op → Bool
is_proposals op.Proposals = true
is_proposals _ = false

-- an event starts something: a request for a plan that isn't one for proposals, without a key; a stop; other caps
abbrev pub is_started : Event → Bool
is_started (event.Submit ask None) = not (is_proposals ask.op)
is_started (event.Stop force) = true
is_started (event.Caps caps) = true
is_started _ = false

-- the events of these entries that start something
abbrev pub started : List Entry → List Event
started made = filter is_started (map (λ x. x.event) made)

-- the one event that is asked
abbrev pub once : Asked → List Event
once (asked.Once e) = e ∷ []
once _ = []

-- the event of a target that was given out, where it starts something
abbrev pub begun_by : Call → Bool → List Event
begun_by c true = once (asked_by c)
begun_by c false = []

abbrev pub started_by : Result Call HttpFault → List Event
started_by (Ok c) = begun_by c (starts c)
started_by (Err f) = []

abbrev pub given_event : BoardReply → List Event
given_event (reply.Given target) = started_by (meaning (given_request target))
given_event _ = []

-- the events that the targets mean which were given out to these entries, in order
abbrev pub given_events : List BoardEntry → List Event
given_events [] = []
given_events (x ∷ xs) = given_event (reply_to x) ++ given_events xs

-- a list has these, in order, among its own
abbrev pub IsAmong : {A : Type 0} → List A → List A → Type 0
IsAmong [] ys = Unit {0}
IsAmong (x ∷ xs) [] = ⊥
IsAmong (x ∷ xs) (y ∷ ys) = ((x ≡ y) × IsAmong xs ys) ⊎ IsAmong (x ∷ xs) ys

-- no reply says that there is no memory
abbrev pub NoneWants : List Piece → Type 0
NoneWants pieces = AllByRecursion (λ p. p.reply ≡ sent (asks_head p.raw) memory_reply → ⊥) pieces

-- what a link's requests with these pieces and entries started was given out to it: always among it, and all of it where no reply says that
-- there is no memory. And they asked no fix
pub record StartsAsGiven (pieces : List Piece) (noted : List BoardEntry) (made : List Entry) : Type 0 where
  pub among : IsAmong (started made) (given_events noted)
  pub all : NoneWants pieces → started made ≡ given_events noted
  pub no_fix : HasNoFix made
