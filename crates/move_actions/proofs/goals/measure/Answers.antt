use Rattle.std.proofs.Common.{arith, suc}
use Rattle.plan_terms.specs.Goal.{measure}
use Rattle.plan_terms.proofs.GoalLemmas.{sum_below-le}
use Rattle.move_actions.proofs.goals.measure.Goals as goal

pub overflow_add-total : goal.overflow_add-total
unfolding measure
overflow_add-total g c =
    let meaning = g.G.Goal.meaning c.args.goal.now c.args.case.now in
    let whole = g.met.G.Goal.small c.args.goal.now c.args.case.now c.args.book.now.lists c.requires.made c.parts-parts.ensures.case c.requires.belongs.lists_belong in
    let part = sum_below-le (meaning.excess c.args.book.now.lists) (suc c.loop-unit.unit) meaning.units (omega (arith, c.units-end.ensures)) in
    omega (arith, whole, part, c.excess-total.ensures, c.loop-unit.invariant)

pub returns-clause-small : goal.returns-clause-small
unfolding measure
returns-clause-small g c =
    let meaning = g.G.Goal.meaning c.args.goal.now c.args.case.now in
    let whole = g.met.G.Goal.small c.args.goal.now c.args.case.now c.args.book.now.lists c.requires.made c.parts-parts.ensures.case c.requires.belongs.lists_belong in
    let part = sum_below-le (meaning.excess c.args.book.now.lists) c.loop-unit.unit meaning.units (omega (arith, c.loop-unit.auto, c.units-end.ensures)) in
    omega (arith, whole, part, c.loop-unit.invariant)
