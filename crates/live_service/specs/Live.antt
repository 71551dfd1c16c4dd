-- A live service: requests, planners and movers beside one another, over one book.
use Rattle.std.specs.Prelude.{◌≡◌, ◌≤◌, ℕ, Bool, true, false, List, [], length}
use Rattle.std.specs.List.{list_any}
use mathlib.Core.List.{IsPrefix}
use Rattle.cc_base.specs.Outside.{HasRisen}
use Rattle.control_core.specs.Books.{BookView, IsSince}
use Rattle.core_terms.specs.declared.events.Event.{Event}
use Rattle.mover_rounds.specs.Made.{Copies}
use Rattle.mover_rounds.specs.Drained.{IsDrainCause}
use Rattle.mover_rounds.specs.Exact.{HasDrainedAlone}
use Rattle.mover_rounds.specs.Owned.{known_by_owner}
use Rattle.mover_rounds.specs.declared.drains.DrainEnd.{DrainEnd}
use Rattle.mover_rounds.specs.declared.drains.DrainEnd.TheVariants as drain
use Rattle.turn_book.specs.Rule.{ArePlaced, once_below, times}
use Rattle.rest_session.specs.Heals.{is_heal}
use Rattle.review_board.specs.declared.events.BoardEvent.{BoardEvent}
use Rattle.live_service.specs.Asked.{CrewAsked}
use Rattle.live_service.specs.Boards.{BoardCallerView}
use Rattle.live_service.specs.Fronts.{HasAnswered, IsFront}
use Rattle.live_service.specs.Views.{FrontView, TeamView, told_of}
use Rattle.live_service.specs.Workers.{HasRunAll, Pass}
use Rattle.live_service.specs.declared.front.FrontEnd.{FrontEnd}

-- these entries, each at its place, are just those of the journal
pub record AreAllOf {E : Type 0} (journal : List E) (mine : List (ℕ × E)) : Type 0 where
  pub each_once : (x : ℕ) → times x mine ≡ once_below x (length journal)
  pub placed : ArePlaced journal mine

-- the journal of a book that was just opened is now that of a front, of movers and of planners that ran beside one another: each place
-- of it is in just one of their shares; the book lasted meanwhile, and no share was told more faults of the admin than it answered
pub record IsShared {A : Type 0} (faults : A → ℕ) (Did : List Copies → List Copies → Pass → Pass → Type 0) (b c : BookView A) (s t : TeamView) (movers planners : ℕ) : Type 0 where
  pub given : Pass
  pub fresh : given.mine ≡ []
  pub back : Pass
  pub run : HasRunAll Did b.file given back s.front.service.copiers t.front.service.copiers t.movers t.planners movers planners
  pub since : IsSince faults b c
  pub shares : AreAllOf c.journal back.mine
  pub saw : IsPrefix back.seen c.journal
  pub told : back.last ≤ c.failures

-- what a drain that ended so did to a settled book: the rounds, and the cause of a fault of the admin, whose calls failed in the drain
pub record IsBehind {A : Type 0} (faults : A → ℕ) (b c : BookView A) (k l : Copies) (end : DrainEnd) : Type 0 where
  pub since : IsSince faults b c
  pub drained : HasDrainedAlone (known_by_owner b) (known_by_owner c) k l end
  pub cause : IsDrainCause (known_by_owner b) (known_by_owner c) end
  pub risen : (number : ℕ) → end ≡ drain.AdminFault number → HasRisen (faults b.admin) (faults c.admin)

-- the journal of a board that was empty is now what this caller asked, before and after: each place of it is in just one of the shares of those that asked it
pub record IsBoardOf (reviews : Bool) (journal : List BoardEvent) (d e : BoardCallerView) : Type 0 where
  pub reviewed : d.reviews ≡ reviews
  pub fresh : d.pass.mine ≡ []
  pub shares : AreAllOf journal e.pass.mine
  pub saw : IsPrefix e.pass.seen journal

-- a live service: what was asked was answered, and then Close was asked, which no other actor did; behind the shares of all come the
-- rounds of a drain over the settled book. What was asked of the board is its journal, and no fix stands in the book's where requests
-- are reviewed
pub record IsLive {A : Type 0} (faults : A → ℕ) (crew : CrewAsked) (board : List BoardEvent) (b c : BookView A) (s t : TeamView) (end : FrontEnd) (drain : DrainEnd) : Type 0 where
  pub board_given : BoardCallerView
  pub board_back : BoardCallerView
  pub board_is : IsBoardOf crew.reviews board board_given board_back
  pub unhealed : crew.reviews ≡ true → list_any is_heal c.journal ≡ false
  pub closed : BookView A
  pub between : TeamView
  pub between_is : between ≡ record t { front = record t.front { copier = between.front.copier } }
  pub shared : IsShared faults (λ xs ys. IsFront (HasAnswered b.file crew.serving board_given board_back (told_of s.front) (told_of between.front) end xs ys)) b closed s between crew.movers crew.planners
  pub settled : BookView A
  pub settled_is : settled ≡ record closed { settled = true }
  pub behind : IsBehind faults settled c between.front.copier t.front.copier drain
