use Rattle.std.proofs.Common.{◌≤◌, ap, ◌∙◌}
use Rattle.serde_json.specs.Data.{depth}
use Rattle.serde_json.specs.View.{view}
use Rattle.serde_json.specs.Written.{has_float, compact_text}
use Rattle.plan_check.specs.Meaning.{trace_at}
use Rattle.plan_check.specs.Text.{trace_text, trace_view}
use Rattle.plan_check.proofs.Plain.{trace_no_float, trace_depth}
use Rattle.plan_check.proofs.ReadLemmas.{trace_of-read}
use Rattle.plan_check.proofs.text.trace_text.Goals as goal

pub returns-clause-text : goal.returns-clause-text
unfolding trace_text
returns-clause-text c =
    let is = c.in_ok-value.ensures.data in
    c.in_ok-to_vec.ensures.text (ap has_float is ∙ trace_no_float (trace_view c.args.trace.now)) ∙ ap compact_text is

pub returns-clause-reads_back : goal.returns-clause-reads_back
returns-clause-reads_back c =
    let is = c.in_ok-value.ensures.data in
    let shallow : depth (view c.in_ok-value.value) ≤ 127 = rw is (trace_depth (trace_view c.args.trace.now)) in
    trace_of-read _ _ c.in_ok-to_vec.ensures.utf8 (c.in_ok-to_vec.ensures.reads_back shallow) ∙ ap trace_at is ∙ c.in_ok-value.ensures.reads
