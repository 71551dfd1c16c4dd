-- The requests that were filed on a board.
use Rattle.std.specs.Prelude.{ℕ, zero, suc, ◌==◌, Bool, true, false, ◌||◌, List, filter, map, Option, None, if◌then◌else◌}
use Rattle.std.specs.List.{enumerate_from, list_any, slice_get}
use Rattle.review_board.specs.declared.events.ReviewState.{ReviewState}
use Rattle.review_board.specs.declared.events.ReviewState.TheVariants as state
use Rattle.review_board.specs.declared.events.Row.{Row}
use Rattle.review_board.specs.declared.reviews.Review.{Review}

-- the request of this id: the n-th has the id n, from 1
abbrev pub review_at : List Review → ℕ → Option Review
review_at reviews zero = None
review_at reviews (suc n) = slice_get reviews n

-- each request with its id
abbrev pub numbered : List Review → List (ℕ × Review)
numbered reviews = enumerate_from 1 reviews

-- it waits for its review
abbrev pub is_pending : ReviewState → Bool
is_pending state.PendingReview = true
is_pending _ = false

-- it may be taken
abbrev pub is_approved : ReviewState → Bool
is_approved state.Approved = true
is_approved _ = false

-- the request, which is so far now
abbrev pub with_state : Review → ReviewState → Review
with_state r s = record { path = r.path; target = r.target; state = s }

-- the id is one of these
abbrev pub has : List ℕ → ℕ → Bool
has ids id = list_any (λ x. x == id) ids

-- how far the request of an id is behind a review: an id that is named again counts at its first place alone
abbrev pub verdict : List ℕ → List ℕ → ℕ → ReviewState → ReviewState
verdict approve discard id s = if has approve id then state.Approved else (if has discard id then state.Discarded else s)

-- a request with its id, and all of them, behind a review
abbrev pub reviewed_one : List ℕ → List ℕ → ℕ × Review → Review
reviewed_one approve discard x = with_state x.1 (verdict approve discard x.0 x.1.state)

abbrev pub reviewed : List ℕ → List ℕ → List Review → List Review
reviewed approve discard reviews = map (reviewed_one approve discard) (numbered reviews)

-- what is shown of a request with its id
abbrev pub row_of : ℕ × Review → Row
row_of x = record { id = x.0; path = x.1.path; state = x.1.state }

-- what is shown of all, by id
abbrev pub rows_of : List Review → List Row
rows_of reviews = map row_of (numbered reviews)

-- a review names the id
abbrev pub is_named : List ℕ → List ℕ → ℕ → Bool
is_named approve discard id = has approve id || has discard id

-- the rows that a review names
abbrev pub named : List ℕ → List ℕ → List Row → List Row
named approve discard rows = filter (λ r. is_named approve discard r.id) rows
