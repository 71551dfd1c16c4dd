use Rattle.std.proofs.Common.{arith}
use Rattle.plan_terms.specs.Cluster.{id_at}
use Rattle.load_model.proofs.Sums.{Short-assignment, amount-below, amount-few}
use Rattle.load_model.proofs.book.LoadBook.amount.Goals as goal

pub returns-clause-small : goal.returns-clause-small
returns-clause-small c =
    let row = c.self.invariant.table_is.each c.args.broker (rw (← c.self.view_is) at c.requires.broker) in
    omega (
      arith,
      c.amount.ensures,
      row.each c.args.kind (rw (← c.self.view_is) at c.requires.range),
      amount-below c.args.kind c.self.inside.case (id_at c.self.inside.case.brokers c.args.broker) c.self.inside.lists c.parts-parts.ensures.case
          (Short-assignment c.self.inside.lists c.lists-assignment.ensures.assignment),
    )

pub returns-clause-few : goal.returns-clause-few
returns-clause-few c = λ one.
    let row = c.self.invariant.table_is.each c.args.broker (rw (← c.self.view_is) at c.requires.broker) in
    omega (
      arith,
      c.amount.ensures,
      row.each c.args.kind (rw (← c.self.view_is) at c.requires.range),
      amount-few c.args.kind c.self.inside.case (id_at c.self.inside.case.brokers c.args.broker) c.self.inside.lists c.parts-parts.ensures.case
          (Short-assignment c.self.inside.lists c.lists-assignment.ensures.assignment) one,
    )
