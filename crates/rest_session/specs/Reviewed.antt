-- What a request asks of a board and of the core, and what it is told, where requests that start something are reviewed first.
use Rattle.std.specs.Prelude.{◌≡◌, ◌⊎◌, ◌++◌, ℕ, Bool, true, false, List, [], ◌∷◌, Option, Some, None, is_some, Result, Ok, Err, codes}
use mathlib.Core.List.{IsPrefix}
use Rattle.cluster_gate.specs.declared.copier.ChunkCopy.{ChunkCopy}
use Rattle.core_terms.specs.declared.events.Event.{Event}
use Rattle.core_terms.specs.declared.faults.StepFault.TheVariants as step
use Rattle.mover_rounds.specs.Asked.{Entry, Known, Rules}
use Rattle.mover_rounds.specs.Made.{Copies, HasMade}
use Rattle.rest_parse.specs.Calls.{meaning}
use Rattle.rest_parse.specs.Reviews.{reviewed_meaning}
use Rattle.rest_parse.specs.declared.calls.Call.{Call}
use Rattle.rest_parse.specs.declared.calls.Call.TheVariants as call
use Rattle.rest_parse.specs.declared.calls.HttpFault.{HttpFault}
use Rattle.rest_parse.specs.declared.calls.HttpFault.TheVariants as http
use Rattle.rest_parse.specs.declared.reviews.ReviewCall.{ReviewCall}
use Rattle.rest_parse.specs.declared.reviews.ReviewCall.TheVariants as review
use Rattle.rest_stream.specs.declared.raw.RawRequest.{RawRequest}
use Rattle.rest_replies.specs.declared.told.Told.{Told}
use Rattle.rest_replies.specs.declared.told.Told.TheVariants as told
use Rattle.review_board.specs.Asked.{BoardEntry, BoardKnown, reply_to}
use Rattle.review_board.specs.declared.events.BoardEvent.{BoardEvent}
use Rattle.review_board.specs.declared.events.BoardEvent.TheVariants as board
use Rattle.review_board.specs.declared.events.BoardReply.{BoardReply}
use Rattle.review_board.specs.declared.events.BoardReply.TheVariants as reply
use Rattle.rest_session.specs.Calls.{IsCalled, IsDone, IsNothing, asked_by, plainly_asked}

-- a target that was given out, as a request: a POST without key and body
abbrev pub given_request : List ℕ → RawRequest
given_request target = record { method = codes "POST"; target = target; key = None; closes = false; body = [] }

-- a call that starts something, if it isn't reviewed before: for a plan, a stop or other caps
abbrev pub starts : Call → Bool
starts (call.Submit ask id) = true
starts (call.Stop force) = true
starts (call.Caps a b c) = true
starts _ = false

-- what a target that was given out has, by what it means: the one event, where it starts something. Any other call is told as not found,
-- and a fault is told
abbrev pub IsBegun : Rules → List Event → Call → Bool → Told → List Entry → List ChunkCopy → Type 0
IsBegun rules seen c true t made copies = IsDone rules seen (asked_by c) t made copies
IsBegun rules seen c false t made copies = (t ≡ told.Http http.NotFound) × IsNothing made copies

abbrev pub IsStarted : Rules → List Event → Result Call HttpFault → Told → List Entry → List ChunkCopy → Type 0
IsStarted rules seen (Ok c) t made copies = IsBegun rules seen c (starts c) t made copies
IsStarted rules seen (Err f) t made copies = (t ≡ told.Http f) × IsNothing made copies

-- it can't be read, since there is no memory
abbrev pub IsUnread : Told → List Entry → List ChunkCopy → Type 0
IsUnread t made copies = (t ≡ told.Http http.Memory) × IsNothing made copies

-- what follows a reply of the board: a target that was given out is answered as its request, and any other reply is told
abbrev pub HasFollowedReply : Rules → List Event → BoardReply → Told → List Entry → List ChunkCopy → Type 0
HasFollowedReply rules seen (reply.Given target) t made copies = IsStarted rules seen (meaning (given_request target)) t made copies ⊎ IsUnread t made copies
HasFollowedReply rules seen r t made copies = (t ≡ told.Board r) × IsNothing made copies

-- an event of the board has its one entry there
pub record IsOnBoard (rules : Rules) (seen : List Event) (e : BoardEvent) (t : Told) (made : List Entry) (copies : List ChunkCopy) (noted : List BoardEntry) : Type 0 where
  pub entry : BoardEntry
  pub event_is : entry.event ≡ e
  pub noted_is : noted ≡ entry ∷ []
  pub followed : HasFollowedReply rules seen (reply_to entry) t made copies

-- or there was no memory for it
abbrev pub IsNoted : Rules → List Event → BoardEvent → Told → List Entry → List ChunkCopy → List BoardEntry → Type 0
IsNoted rules seen e t made copies noted = IsOnBoard rules seen e t made copies noted ⊎ ((t ≡ told.Step step.Memory) × IsNothing made copies × (noted ≡ []))

-- what a request has by its meaning
abbrev pub IsMeant : Rules → List Event → Result ReviewCall HttpFault → Told → List Entry → List ChunkCopy → List BoardEntry → Type 0
IsMeant rules seen (Ok (review.File path target)) t made copies noted = IsNoted rules seen (board.File path target) t made copies noted
IsMeant rules seen (Ok (review.Take id path)) t made copies noted = IsNoted rules seen (board.Take id path) t made copies noted
IsMeant rules seen (Ok (review.Review approve discard)) t made copies noted = IsNoted rules seen (board.Review approve discard) t made copies noted
IsMeant rules seen (Ok review.List) t made copies noted = IsNoted rules seen board.List t made copies noted
IsMeant rules seen (Ok (review.Plain c)) t made copies noted = IsDone rules seen (plainly_asked c) t made copies × (noted ≡ [])
IsMeant rules seen (Err f) t made copies noted = (t ≡ told.Http f) × IsNothing made copies × (noted ≡ [])

abbrev pub IsReviewed : Rules → List Event → Result ReviewCall HttpFault → Told → List Entry → List ChunkCopy → List BoardEntry → Type 0
IsReviewed rules seen means t made copies noted = IsMeant rules seen means t made copies noted ⊎ (IsUnread t made copies × (noted ≡ []))

-- what a request has, where there is a board, and where there is none
abbrev pub IsCalledBy : Bool → Rules → List Event → RawRequest → Told → List Entry → List ChunkCopy → List BoardEntry → Type 0
IsCalledBy true rules seen raw t made copies noted = IsReviewed rules seen (reviewed_meaning raw) t made copies noted
IsCalledBy false rules seen raw t made copies noted = IsCalled rules seen (meaning raw) t made copies × (noted ≡ [])

-- what a caller knows of the board, if there is one, before and after these own entries on it
abbrev pub IsBoardSince : Option BoardKnown → Option BoardKnown → List BoardEntry → Type 0
IsBoardSince None None noted = noted ≡ []
IsBoardSince (Some x) (Some y) noted = IsPrefix x.seen y.seen × (y.own ≡ x.own ++ noted)
IsBoardSince x y noted = ⊥

-- entries of the book with copies, and entries on the board, of which something holds, were added
pub record HasMadeBoth (P : List BoardEntry → List Entry → List ChunkCopy → Type 0) (v w : Known) (x y : Option BoardKnown) (k l : Copies) : Type 0 where
  pub noted : List BoardEntry
  pub board : IsBoardSince x y noted
  pub made : HasMade (P noted) v w k l

-- a target that was given out was answered
abbrev pub HasStarted : Known → Known → Copies → Copies → List ℕ → Told → Type 0
HasStarted v w k l target t = HasMade (HasFollowedReply v.rules w.seen (reply.Given target) t) v w k l

-- an event of the board was asked
abbrev pub HasAskedBoard : Known → Known → Option BoardKnown → Option BoardKnown → Copies → Copies → BoardEvent → Told → Type 0
HasAskedBoard v w x y k l e t = HasMadeBoth (λ noted made copies. IsNoted v.rules w.seen e t made copies noted) v w x y k l

-- what a request has made
abbrev pub HasCalled : Known → Known → Option BoardKnown → Option BoardKnown → Copies → Copies → RawRequest → Told → Type 0
HasCalled v w x y k l raw t = HasMadeBoth (λ noted made copies. IsCalledBy (is_some x) v.rules w.seen raw t made copies noted) v w x y k l
