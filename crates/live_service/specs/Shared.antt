-- What comes of a book that was shared, before it is settled and drained.
use Rattle.control_core.specs.Books.{BookView}
use Rattle.review_board.specs.declared.events.BoardEvent.{BoardEvent}
use Rattle.std.specs.Prelude.{ℕ, List}
use Rattle.live_service.specs.Asked.{CrewAsked}
use Rattle.live_service.specs.Boards.{BoardCallerView}
use Rattle.live_service.specs.Live.{IsBoardOf, IsShared}
use Rattle.live_service.specs.Runs.{Fronted}
use Rattle.live_service.specs.Views.{TeamView}
use Rattle.live_service.specs.declared.front.FrontEnd.{FrontEnd}

-- a front, movers and planners shared the book and the board
pub record WasShared {A : Type 0} (faults : A → ℕ) (crew : CrewAsked) (board : List BoardEvent) (b c : BookView A) (s t : TeamView) (end : FrontEnd) : Type 0 where
  pub board_given : BoardCallerView
  pub board_back : BoardCallerView
  pub board_is : IsBoardOf crew.reviews board board_given board_back
  pub shared : IsShared faults (Fronted b.file crew.serving board_given board_back s.front t.front end) b c s t crew.movers crew.planners
