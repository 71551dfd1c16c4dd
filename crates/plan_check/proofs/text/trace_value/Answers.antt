use Rattle.plan_check.specs.Text.{trace_view}
use Rattle.plan_check.proofs.ReadBack.{trace_read_back}
use Rattle.plan_check.proofs.text.trace_value.Goals as goal

pub returns-in-Ok-json-6-clause-reads : goal.returns-in-Ok-json-6-clause-reads
returns-in-Ok-json-6-clause-reads c =
    trace_read_back (trace_view c.args.trace.now) (rw c.deref.ensures.value at c.in_ok-turn_values.ensures.reads)
