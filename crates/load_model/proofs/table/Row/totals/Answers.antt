use Rattle.std.proofs.Common.{◌∙◌, ◌*◌, ◌+◌, ℕ, ap, take}
use Rattle.load_model.proofs.Sums.{Short-assignment}
use Rattle.load_model.proofs.Tabled.{Short-take}
use Rattle.load_model.proofs.Together.{AreTotals-more, AreTotals-none, totals-below}
use Rattle.load_model.proofs.table.Row.totals.Goals as goal

pub loop-part-init : goal.loop-part-init
loop-part-init c = AreTotals-none c.args.case.now.parts c.in_ok-row.row (c.in_ok-row.ensures.long ∙ ap (λ (n : ℕ). 2 * n + 8) c.topics.ensures.value) c.in_ok-row.ensures.nothing

pub add_places-requires-clause-fits : goal.add_places-requires-clause-fits
add_places-requires-clause-fits c =
    totals-below c.args.case.now (take c.loop-part.part c.args.lists.now) c.loop-part.row c.parts-parts.ensures.case
    (Short-take c.args.lists.now c.loop-part.part (Short-assignment c.args.lists.now c.lists-assignment.ensures.assignment)) c.loop-part.invariant

pub loop-part-preserved : goal.loop-part-preserved
loop-part-preserved c =
    let within = rw c.len-part-end.ensures.value at c.loop-part-test.true in
    AreTotals-more c.args.case.now.parts c.args.lists.now c.loop-part.part c.loop-part.row c.add_places.new.self within (rw (← c.requires) within) c.loop-part.invariant
    (rw c.list.ensures at c.add_places.ensures)
