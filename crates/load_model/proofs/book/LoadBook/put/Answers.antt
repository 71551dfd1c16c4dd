use Rattle.std.proofs.Common.{◌^◌, arith}
use Rattle.std.proofs.lemmas.List.{length-set}
use Rattle.load_model.proofs.Sums.{Short-assignment}
use Rattle.load_model.proofs.Tabled.{AreBelow-more, AreBelow-table, IsTable-shift, shift-enough}
use Rattle.load_model.proofs.Together.{AreTotals-set}
use Rattle.load_model.proofs.book.LoadBook.put.Goals as goal

pub shift-requires-clause-fits : goal.shift-requires-clause-fits
shift-requires-clause-fits c =
    AreBelow-more (2 ^ 49) (2 ^ 62) c.self.inside.case c.self.inside.table (omega arith)
    (AreBelow-table c.self.inside.case c.self.inside.lists c.self.inside.table c.parts-parts.ensures.case (Short-assignment c.self.inside.lists c.lists-assignment.ensures.assignment) c.self.invariant.table_is)

pub shift-requires-clause-enough : goal.shift-requires-clause-enough
shift-requires-clause-enough c =
    rw c.list.ensures
    (shift-enough c.self.inside.case c.self.inside.lists c.args.part c.args.place c.args.broker c.self.inside.table (rw (← c.self.view_is) at c.requires.part) (omega (arith, c.self.invariant.one_each))
    (rw (← c.self.view_is) at c.requires.place) c.self.invariant.table_is)

pub invariant_of-self : goal.invariant_of-self
invariant_of-self c =
    rw c.put.ensures (record {
      one_each = rw length-set c.self.invariant.one_each;
      table_is =
          IsTable-shift c.self.inside.case c.self.inside.lists c.args.part c.args.place c.args.broker c.self.inside.table (rw (← c.self.view_is) at c.requires.part) (omega (arith, c.self.invariant.one_each))
          (rw (← c.self.view_is) at c.requires.place) c.self.invariant.table_is c.shift.new.self c.shift.ensures.one_each (rw c.list.ensures at c.shift.ensures.each);
      totals_are = AreTotals-set c.self.inside.case.parts c.self.inside.lists c.args.part _ c.self.inside.totals (length-set _ _ _) c.self.invariant.totals_are;
    })
