-- What a board answers to each event, and what it does.
use Rattle.std.specs.Prelude.{ℕ, ◌+◌, ◌-◌, bytes_eq, not, List, [], ◌∷◌, ◌++◌, length, slice_set, Option, Some, None, if◌then◌else◌}
use Rattle.std.specs.Option.{option_or}
use Rattle.review_board.specs.Reviews.{is_approved, is_pending, named, review_at, reviewed, rows_of, with_state}
use Rattle.review_board.specs.declared.reviews.Review.{Review}
use Rattle.review_board.specs.declared.events.ReviewState.TheVariants as state
use Rattle.review_board.specs.declared.events.BoardEvent.{BoardEvent}
use Rattle.review_board.specs.declared.events.BoardEvent.TheVariants as event
use Rattle.review_board.specs.declared.events.BoardReply.{BoardReply}
use Rattle.review_board.specs.declared.events.BoardReply.TheVariants as reply

-- a request that was just filed
abbrev pub filed : List ℕ → List ℕ → Review
filed path target = record { path = path; target = target; state = state.PendingReview }

-- why the request of this id can't be reviewed
abbrev pub pending_fault : ℕ → Option Review → Option BoardReply
pending_fault id None = Some (reply.NoSuchReview id)
pending_fault id (Some r) = if not (is_pending r.state) then Some (reply.NotPending id r.state) else None

-- why the first of these that can't be reviewed can't
abbrev pub first_fault : List Review → List ℕ → Option BoardReply
first_fault reviews [] = None
first_fault reviews (id ∷ ids) = option_or (pending_fault id (review_at reviews id)) (first_fault reviews ids)

-- why a review is refused: those to be approved are looked at first
abbrev pub review_fault : List Review → List ℕ → List ℕ → Option BoardReply
review_fault reviews approve discard = option_or (first_fault reviews approve) (first_fault reviews discard)

-- why a request isn't given out to one who names this path
abbrev pub take_fault : ℕ → List ℕ → Review → Option BoardReply
take_fault id path r =
    if not (bytes_eq r.path path) then Some (reply.OtherEndpoint id) else
    (if not (is_approved r.state) then Some (reply.NotApproved id r.state) else None)

-- a reply, and the requests behind it
abbrev pub Answer : Type 0
Answer = BoardReply × List Review

-- a fault is the reply, and leaves the requests as they were
abbrev pub unless : Option BoardReply → List Review → Answer → Answer
unless (Some fault) reviews answer = (fault, reviews)
unless None reviews answer = answer

-- a review, behind which the requests are so
abbrev pub answer_to_review : List Review → List ℕ → List ℕ → List Review → Answer
answer_to_review reviews approve discard after =
    unless (review_fault reviews approve discard) reviews (reply.Reviewed (named approve discard (rows_of after)), after)

-- a take of this request
abbrev pub answer_to_take : List Review → ℕ → List ℕ → Option Review → Answer
answer_to_take reviews id path None = (reply.NoSuchReview id, reviews)
answer_to_take reviews id path (Some r) =
    unless (take_fault id path r) reviews (reply.Given r.target, slice_set reviews (id - 1) (with_state r state.Submitted))

-- the answer to each event
abbrev pub answer_of : List Review → BoardEvent → Answer
answer_of reviews (event.File path target) = (reply.Filed (length reviews + 1), reviews ++ filed path target ∷ [])
answer_of reviews (event.Review approve discard) = answer_to_review reviews approve discard (reviewed approve discard reviews)
answer_of reviews (event.Take id path) = answer_to_take reviews id path (review_at reviews id)
answer_of reviews event.List = (reply.Listed (rows_of reviews), reviews)

-- the reply to it
abbrev pub reply_of : List Review → BoardEvent → BoardReply
reply_of reviews e = (answer_of reviews e).0

-- and the requests behind it
abbrev pub next : List Review → BoardEvent → List Review
next reviews e = (answer_of reviews e).1
