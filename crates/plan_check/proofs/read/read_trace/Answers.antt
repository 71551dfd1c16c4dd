use Rattle.std.proofs.lemmas.Bool.{both_ways}
use Rattle.serde_json.specs.View.{view}
use Rattle.plan_check.specs.Text.{trace_view}
use Rattle.plan_check.proofs.ReadLemmas.{trace_of-read, trace_of-refused, Gives-IfOk, Gives-IfErr}
use Rattle.plan_check.proofs.read.read_trace.Goals as goal

pub returns-in-Ok-clause-ok : goal.returns-in-Ok-clause-ok
returns-in-Ok-clause-ok c =
    rw (trace_of-read c.args.bytes.now (view c.in-Ok.value) c.in-Ok.ensures.ok.0 c.in-Ok.ensures.ok.1) (Gives-IfOk trace_view _ _ c.trace_in.ensures)

pub returns-in-Ok-clause-err : goal.returns-in-Ok-clause-err
returns-in-Ok-clause-err c =
    rw (trace_of-read c.args.bytes.now (view c.in-Ok.value) c.in-Ok.ensures.ok.0 c.in-Ok.ensures.ok.1) (Gives-IfErr trace_view _ _ c.trace_in.ensures)

pub returns-in-Err-2-clause-err : goal.returns-in-Err-2-clause-err
returns-in-Err-2-clause-err c =
    λ _. trace_of-refused c.args.bytes.now (c.in-Err.ensures.err (λ oom. both_ways _ c.if-is_memory.false (c.is_memory.ensures.1 oom)))
