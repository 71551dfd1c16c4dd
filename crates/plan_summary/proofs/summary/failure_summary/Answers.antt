use Rattle.std.proofs.Common.{map}
use Rattle.plan_terms.specs.Trace.{after_turns}
use Rattle.goal_set.specs.Kept.{actions_of}
use Rattle.goal_set.specs.declared.trace.Turned.{Turned}
use Rattle.plan_summary.specs.Summary.{failure_summary, goal_lines}
use Rattle.plan_summary.proofs.Told.{failed_whole}
use Rattle.plan_summary.proofs.Turns.{failure-legal}
use Rattle.plan_summary.proofs.summary.failure_summary.Goals as goal

pub book_after-requires-clause-legal : goal.book_after-requires-clause-legal
book_after-requires-clause-legal c =
    rw (c.case-case.ensures.value, c.start.ensures.value, c.as_slice-turns.ensures.value, c.trace.ensures.value) (failure-legal c.args.failure.now c.case-case.ensures.kept)

pub returns : goal.returns
unfolding failure_summary
returns c =
    let f = c.args.failure.now in
    let lines = goal_lines f.case f.start (after_turns (actions_of f.trace) f.start) (map (λ (t : Turned). t.goal) f.trace.turns.items) in
    let told = rw (c.in_ok-end.ensures.lists, c.case-case.ensures.value, c.start-2.ensures.value, c.start.ensures.value, c.as_slice-turns.ensures.value, c.trace.ensures.value) at c.with_lines.ensures in
    rw (failed_whole _ _ lines (rw c.name-name.ensures at c.in_ok-first_lines.ensures.ok)) at told
