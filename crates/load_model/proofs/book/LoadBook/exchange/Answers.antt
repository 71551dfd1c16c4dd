use Rattle.std.proofs.Common.{◌≤◌, ◌^◌, ◌∙◌, arith, length, get_or}
use Rattle.std.proofs.lemmas.List.{length-set}
use Rattle.plan_terms.specs.Cluster.{list_of}
use Rattle.load_model.specs.Tables.{IsTable}
use Rattle.load_model.proofs.Sums.{Short-assignment}
use Rattle.load_model.proofs.Tabled.{AreBelow-more, AreBelow-table, IsTable-exchange, IsTable-shift, Short-half, exchange-enough, half, shift-enough}
use Rattle.load_model.proofs.Together.{AreTotals-set}
use Rattle.load_model.proofs.book.LoadBook.exchange.Goals as goal

pub shift-requires-clause-fits : goal.shift-requires-clause-fits
shift-requires-clause-fits c =
    AreBelow-more (2 ^ 49) (2 ^ 62) c.self.inside.case c.self.inside.table (omega arith)
    (AreBelow-table c.self.inside.case c.self.inside.lists c.self.inside.table c.parts-parts.ensures.case (Short-assignment c.self.inside.lists c.lists-assignment.ensures.assignment) c.self.invariant.table_is)

pub shift-requires-clause-enough : goal.shift-requires-clause-enough
shift-requires-clause-enough c =
    rw (c.list.ensures, c.list-2.ensures)
    (shift-enough c.self.inside.case c.self.inside.lists c.args.part c.args.place (get_or (list_of c.self.inside.lists c.args.part) 0 0) c.self.inside.table (rw (← c.self.view_is) at c.requires.part)
    (omega (arith, c.self.invariant.one_each)) (rw (← c.self.view_is) at c.requires.place) c.self.invariant.table_is)

pub shift-requires-2-clause-fits : goal.shift-requires-2-clause-fits
shift-requires-2-clause-fits c =
    let inside = rw (← c.self.view_is) at c.requires.part in
    let few : length c.self.inside.lists ≤ length c.self.inside.case.parts = omega (arith, c.self.invariant.one_each) in
    let place = rw (← c.self.view_is) at c.requires.place in
    let middle : IsTable c.self.inside.case (half c.self.inside.case c.self.inside.lists c.args.part c.args.place inside few place) c.shift.new.self =
    IsTable-shift c.self.inside.case c.self.inside.lists c.args.part c.args.place (get_or (list_of c.self.inside.lists c.args.part) 0 0) c.self.inside.table inside few place c.self.invariant.table_is
    c.shift.new.self c.shift.ensures.one_each (rw (c.list.ensures, c.list-2.ensures) at c.shift.ensures.each) in
    AreBelow-more (2 ^ 49) (2 ^ 62) c.self.inside.case c.shift.new.self (omega arith)
    (AreBelow-table c.self.inside.case _ c.shift.new.self c.parts-parts.ensures.case
    (Short-half c.self.inside.case c.self.inside.lists c.args.part c.args.place inside few place (Short-assignment c.self.inside.lists c.lists-assignment.ensures.assignment)) middle)

pub shift-requires-2-clause-enough : goal.shift-requires-2-clause-enough
shift-requires-2-clause-enough c =
    let inside = rw (← c.self.view_is) at c.requires.part in
    let few : length c.self.inside.lists ≤ length c.self.inside.case.parts = omega (arith, c.self.invariant.one_each) in
    let place = rw (← c.self.view_is) at c.requires.place in
    let middle : IsTable c.self.inside.case (half c.self.inside.case c.self.inside.lists c.args.part c.args.place inside few place) c.shift.new.self =
    IsTable-shift c.self.inside.case c.self.inside.lists c.args.part c.args.place (get_or (list_of c.self.inside.lists c.args.part) 0 0) c.self.inside.table inside few place c.self.invariant.table_is
    c.shift.new.self c.shift.ensures.one_each (rw (c.list.ensures, c.list-2.ensures) at c.shift.ensures.each) in
    rw (c.list.ensures, c.list-2.ensures) (exchange-enough c.self.inside.case c.self.inside.lists c.args.part c.args.place inside few place c.shift.new.self middle)

pub invariant_of-self : goal.invariant_of-self
invariant_of-self c =
    let inside = rw (← c.self.view_is) at c.requires.part in
    let few : length c.self.inside.lists ≤ length c.self.inside.case.parts = omega (arith, c.self.invariant.one_each) in
    let place = rw (← c.self.view_is) at c.requires.place in
    let middle : IsTable c.self.inside.case (half c.self.inside.case c.self.inside.lists c.args.part c.args.place inside few place) c.shift.new.self =
    IsTable-shift c.self.inside.case c.self.inside.lists c.args.part c.args.place (get_or (list_of c.self.inside.lists c.args.part) 0 0) c.self.inside.table inside few place c.self.invariant.table_is
    c.shift.new.self c.shift.ensures.one_each (rw (c.list.ensures, c.list-2.ensures) at c.shift.ensures.each) in
    rw c.exchange.ensures (record {
      one_each = rw length-set c.self.invariant.one_each;
      table_is =
          IsTable-exchange c.self.inside.case c.self.inside.lists c.args.part c.args.place inside few place c.shift.new.self middle c.shift-2.new.self c.shift-2.ensures.one_each
          (rw (c.list.ensures, c.list-2.ensures) at c.shift-2.ensures.each);
      totals_are =
          AreTotals-set c.self.inside.case.parts c.self.inside.lists c.args.part _ c.self.inside.totals (length-set _ _ _ ∙ length-set _ _ _) c.self.invariant.totals_are;
    })
