use Rattle.rest_stream.specs.Stream.{StopsBy}
use Rattle.rest_stream.proofs.Exits.{passed_on}
use Rattle.rest_stream.proofs.Windows.{stops_at_end}
use Rattle.rest_stream.proofs.search.last_head.Goals as goal

pub returns-in_err-try_head-clause-why : goal.returns-in_err-try_head-clause-why
returns-in_err-try_head-clause-why c =
    passed_on c.from_residual.result c.in_err-try_head.field-0.0 (StopsBy c.args.held.now) c.from_residual.ensures.1 (λ e q. q) (stops_at_end c.args.held.now c.in_err-try_head.field-0.0 c.in_err-try_head.ensures.why)
