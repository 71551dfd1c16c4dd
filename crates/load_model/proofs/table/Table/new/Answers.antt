use Rattle.std.proofs.Common.{take}
use Rattle.load_model.proofs.Sums.{Short-assignment}
use Rattle.load_model.proofs.Tabled.{AreBelow-table, IsTable-more, Short-take}
use Rattle.load_model.proofs.table.Table.new.Goals as goal

pub add_list-requires-clause-fits : goal.add_list-requires-clause-fits
add_list-requires-clause-fits c =
    AreBelow-table c.args.case.now (take c.loop-part.part c.args.lists.now) c.loop-part.table c.parts-parts.ensures.case
    (Short-take c.args.lists.now c.loop-part.part (Short-assignment c.args.lists.now c.lists-assignment.ensures.assignment)) c.loop-part.invariant

pub loop-part-preserved : goal.loop-part-preserved
loop-part-preserved c =
    let within = rw c.len-part-end.ensures.value at c.loop-part-test.true in
    IsTable-more c.args.case.now c.args.lists.now c.loop-part.part c.loop-part.table c.add_list.new.self within (rw (← c.requires) within) c.loop-part.invariant c.add_list.ensures.one_each
    (rw c.list.ensures at c.add_list.ensures.each)
