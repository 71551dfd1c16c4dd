use Rattle.std.proofs.Common.{sym, refl, arith}
use Rattle.goal_terms.proofs.PlaceLemmas.{id-placed, at_id-unplaced}
use Rattle.broker_goals.proofs.sides.side_of.Goals as goal

pub overflow_sub-later : goal.overflow_sub-later
overflow_sub-later g c =
    let at = id-placed c.args.case.now.brokers c.args.id c.in-Some.place (sym c.in-Some.ensures.place) in
    let amount = rw at.1 at c.amount_at-amount.ensures.value in
    omega (arith, amount, c.from.ensures, c.from-in-Some.ensures, c.requires.had)

pub unit_excess-requires-in-Some-clause-amount : goal.unit_excess-requires-in-Some-clause-amount
unit_excess-requires-in-Some-clause-amount g c =
    let at = id-placed c.args.case.now.brokers c.args.id c.in-Some.place (sym c.in-Some.ensures.place) in
    let amount = rw at.1 at c.amount_at-amount.ensures.value in
    omega (arith, amount, c.from.ensures, c.from-in-Some.ensures, c.requires.small)

pub returns-in-None-clause-before : goal.returns-in-None-clause-before
returns-in-None-clause-before g c = sym (at_id-unplaced _ c.args.case.now.brokers c.args.id (sym c.in-None.ensures.place))

pub returns-in-None-clause-later : goal.returns-in-None-clause-later
returns-in-None-clause-later g c = sym (at_id-unplaced _ c.args.case.now.brokers c.args.id (sym c.in-None.ensures.place))

pub returns-in-Some-clause-before : goal.returns-in-Some-clause-before
returns-in-Some-clause-before g c =
    let at = id-placed c.args.case.now.brokers c.args.id c.in-Some.place (sym c.in-Some.ensures.place) in
    let amount = rw at.1 at c.amount_at-amount.ensures.value in
    rw (c.unit_excess.ensures.value, at.1, c.requires.all, amount) refl

pub returns-in-Some-clause-later : goal.returns-in-Some-clause-later
returns-in-Some-clause-later g c =
    let at = id-placed c.args.case.now.brokers c.args.id c.in-Some.place (sym c.in-Some.ensures.place) in
    let amount = rw at.1 at c.amount_at-amount.ensures.value in
    rw (c.unit_excess-in-Some.ensures.value, at.1, c.requires.all, amount, c.from.ensures, c.from-in-Some.ensures) refl
