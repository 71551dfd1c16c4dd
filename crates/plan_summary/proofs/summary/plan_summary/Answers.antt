use Rattle.std.proofs.Common.{◌≡◌, ◌∙◌, ap, arith, length, map}
use Rattle.plan_terms.specs.Belongs.{Book}
use Rattle.plan_terms.specs.Change.{proposals}
use Rattle.goal_set.specs.declared.trace.Turned.{Turned}
use Rattle.plan_summary.specs.Summary.{goal_lines, plan_summary}
use Rattle.plan_summary.proofs.Told.{planned_whole}
use Rattle.plan_summary.proofs.summary.plan_summary.Goals as goal

pub returns : goal.returns
unfolding plan_summary
returns c =
    let p = c.args.plan.now in
    let changes = rw (c.start.ensures.value, c.end.ensures.value) at c.in_ok-proposals.ensures.changes in
    let count : c.len-changes.result ≡ length (proposals p.start p.end) = omega (arith, c.len-changes.ensures, c.in_ok-proposals.field-0.ok.0, ap length changes) in
    let end_is = ap (λ (b : Book). b.lists) c.in_ok-end.ensures ∙ c.end-2.ensures.value in
    let lines = goal_lines p.case p.start p.end (map (λ (t : Turned). t.goal) p.trace.turns.items) in
    let told = rw (c.case-case.ensures.value, c.start-2.ensures.value, end_is, c.as_slice.ensures.value, c.trace.ensures.value) at c.with_lines.ensures in
    rw (planned_whole _ lines _ _ c.in_ok-first_lines.ensures.ok count) at told
