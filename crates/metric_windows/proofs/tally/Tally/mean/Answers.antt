use Rattle.metric_windows.proofs.Bounds.{IsLoads-mean}
use Rattle.metric_windows.proofs.tally.Tally.mean.Goals as goal

pub returns-clause-loads : goal.returns-clause-loads
returns-clause-loads c = rw (c.divided.ensures, c.from.ensures) (IsLoads-mean c.args.self c.requires.some c.requires.tally)
