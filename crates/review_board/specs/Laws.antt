-- What holds of every history of a board.
use Rattle.std.specs.Prelude.{◌≡◌, ℕ, ◌<◌, true, false, List}
use Rattle.review_board.specs.History.{IsAnswered}
use Rattle.review_board.specs.Reviews.{has}
use Rattle.review_board.specs.declared.events.Row.{Row}
use Rattle.review_board.specs.declared.events.BoardEvent.{BoardEvent}
use Rattle.review_board.specs.declared.events.BoardEvent.TheVariants as event
use Rattle.review_board.specs.declared.events.BoardReply.TheVariants as reply

-- at this place a request with this path and target was filed, under this id
abbrev pub IsFiled : List BoardEvent → ℕ → ℕ → List ℕ → List ℕ → Type 0
IsFiled history place id path target = IsAnswered history place (event.File path target) (reply.Filed id)

-- at this place the request of this id was approved
pub record IsApproved (history : List BoardEvent) (place id : ℕ) : Type 0 where
  pub approve : List ℕ
  pub discard : List ℕ
  pub rows : List Row
  pub named : has approve id ≡ true
  pub answered : IsAnswered history place (event.Review approve discard) (reply.Reviewed rows)

-- at this place it was discarded
pub record IsDiscarded (history : List BoardEvent) (place id : ℕ) : Type 0 where
  pub approve : List ℕ
  pub discard : List ℕ
  pub rows : List Row
  pub named : has discard id ≡ true
  pub first : has approve id ≡ false
  pub answered : IsAnswered history place (event.Review approve discard) (reply.Reviewed rows)

-- at this place it was given out, as this target
pub record IsGiven (history : List BoardEvent) (place id : ℕ) (target : List ℕ) : Type 0 where
  pub path : List ℕ
  pub answered : IsAnswered history place (event.Take id path) (reply.Given target)

-- no two requests are filed under one id
abbrev pub FiledAtMostOnce : Type 0
FiledAtMostOnce = (history : List BoardEvent) (i j id : ℕ) (p q t u : List ℕ) → IsFiled history i id p t → IsFiled history j id q u → i ≡ j

-- no request is given out twice
abbrev pub GivenAtMostOnce : Type 0
GivenAtMostOnce = (history : List BoardEvent) (i j id : ℕ) (t u : List ℕ) → IsGiven history i id t → IsGiven history j id u → i ≡ j

-- none is given out before a review approved it
abbrev pub GivenOnceApproved : Type 0
GivenOnceApproved = (history : List BoardEvent) (j id : ℕ) (target : List ℕ) → IsGiven history j id target → (i : ℕ) × (i < j) × IsApproved history i id

-- what is given out was filed under that id, with the path that was named and that target
abbrev pub GivenAsFiled : Type 0
GivenAsFiled = (history : List BoardEvent) (j id : ℕ) (target : List ℕ) (given : IsGiven history j id target)
    → (i : ℕ) × (i < j) × IsFiled history i id given.path target

-- what a review discarded is not given out, neither before nor afterwards
abbrev pub DiscardedNeverGiven : Type 0
DiscardedNeverGiven = (history : List BoardEvent) (i j id : ℕ) (target : List ℕ) → IsDiscarded history i id → IsGiven history j id target → ⊥
