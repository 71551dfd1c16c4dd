-- A caller of a board's turn, where requests may be reviewed.
use Rattle.std.specs.Prelude.{◌≡◌, ℕ, Bool, true, false, List, Option, Some, None, map, take}
use Rattle.mover_workers.specs.Callers.{HasGrown, IsLater}
use Rattle.review_board.specs.Asked.{BoardEntry, BoardKnown}
use Rattle.review_board.specs.declared.events.BoardEvent.{BoardEvent}
use Rattle.turn_book.specs.Known.{IsPassOf, Known as PassView, Made}

-- what a pass of a board's turn knows
abbrev pub BoardPass : Type 0
BoardPass = PassView (Unit {0}) BoardEvent

-- the pass is one of a turn over a board
abbrev pub BelongsToBoard : Made (List BoardEvent) → BoardPass → Type 0
BelongsToBoard turn pass = IsPassOf (λ b. tt) turn pass

-- a caller of a board: its turn, its pass, and whether requests are reviewed
pub record BoardCallerView : Type 0 where
  pub turn : Made (List BoardEvent)
  pub pass : BoardPass
  pub reviews : Bool

-- the entries of a board at these places of its history
abbrev pub noted_at : List BoardEvent → List (ℕ × BoardEvent) → List BoardEntry
noted_at history places = map (λ x. record { before = take x.0 history; event = x.1 }) places

-- what a pass knows of the board
abbrev pub known_by_board_pass : BoardPass → BoardKnown
known_by_board_pass pass = record { seen = pass.seen; own = noted_at pass.seen pass.mine }

-- the board that a link sees: that of the pass, where requests are reviewed, and else none
abbrev pub board_seen : Bool → BoardPass → Option BoardKnown
board_seen true pass = Some (known_by_board_pass pass)
board_seen false pass = None

-- the same caller after a while
pub record IsBoardCallerSince (d e : BoardCallerView) : Type 0 where
  pub turn : e.turn ≡ d.turn
  pub reviews : e.reviews ≡ d.reviews
  pub grown : HasGrown d.pass e.pass

-- a caller of the same turn, which may have joined others
pub record HasBoardGoneOn (d e : BoardCallerView) : Type 0 where
  pub turn : e.turn ≡ d.turn
  pub reviews : e.reviews ≡ d.reviews
  pub later : IsLater d.pass e.pass
