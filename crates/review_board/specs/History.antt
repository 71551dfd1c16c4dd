-- The history of a board: the events that it took, in order.
use Rattle.std.specs.Prelude.{◌≡◌, ℕ, List, [], fold, slice_get, take, Some}
use Rattle.review_board.specs.Step.{next, reply_of}
use Rattle.review_board.specs.declared.reviews.Review.{Review}
use Rattle.review_board.specs.declared.events.BoardEvent.{BoardEvent}
use Rattle.review_board.specs.declared.events.BoardReply.{BoardReply}

-- the requests behind a history, which begins with none
abbrev pub reviews_after : List BoardEvent → List Review
reviews_after history = fold next [] history

-- the reply to an event behind a history
abbrev pub reply_after : List BoardEvent → BoardEvent → BoardReply
reply_after history e = reply_of (reviews_after history) e

-- at this place of a history stands this event, and it was answered so
abbrev pub IsAnswered : List BoardEvent → ℕ → BoardEvent → BoardReply → Type 0
IsAnswered history place e r = (slice_get history place ≡ Some e) × (reply_after (take place history) e ≡ r)
