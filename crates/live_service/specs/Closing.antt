-- What is known of a front's Close before the turn is closed: that it stands in the history, whoever asked it.
use Rattle.mover_workers.specs.Close.{IsClosed}
use Rattle.turn_book.specs.Rule.{ArePlaced}
use Rattle.live_service.specs.Workers.{Pass}

-- what was asked was answered, and then Close was asked
pub record HasFronted (Answered : Pass → Pass → Type 0) (v w : Pass) : Type 0 where
  pub served : Pass
  pub placed : ArePlaced served.seen served.mine
  pub answered : Answered v served
  pub closed : IsClosed served w
