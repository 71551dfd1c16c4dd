-- What a run works with outside its book, and what it leaves.
use Rattle.std.specs.Prelude.{List, [], Option, None}
use Rattle.control_core.specs.Books.{BookView}
use Rattle.review_board.specs.declared.events.BoardEvent.{BoardEvent}
use Rattle.live_service.specs.Views.{LaneView, LinkView, NetView, ServedView}
use Rattle.mover_rounds.specs.Made.{Copies}
use Rattle.mover_rounds.specs.declared.drains.DrainEnd.{DrainEnd}
use Rattle.mover_workers.specs.declared.loops.LoopEnd.{LoopEnd}

-- copiers, a console, and a listener
pub record OutsideView : Type 0 where
  pub copiers : List Copies
  pub console : LinkView
  pub net : NetView

-- the book, or the admin where none was begun; the journal of the board, where requests were reviewed; how the drain ended, where there was
-- one; the outside; the links that were accepted, or the threads that served any number of them; and how the loops of movers and planners
-- ended
pub record LeftView (A : Type 0) : Type 0 where
  pub book : Option (BookView A)
  pub admin : Option A
  pub board : Option (List BoardEvent)
  pub drain : Option DrainEnd
  pub outside : OutsideView
  pub links : List ServedView
  pub lanes : List LaneView
  pub movers : List LoopEnd
  pub planners : List LoopEnd

-- no book was begun, and nobody worked
abbrev pub idle : {A : Type 0} → Option A → OutsideView → LeftView A
idle admin outside = record { book = None; admin = admin; board = None; drain = None; outside = outside; links = []; lanes = []; movers = []; planners = [] }
