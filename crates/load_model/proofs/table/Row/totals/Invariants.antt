use Rattle.std.proofs.Common.{take}
use Rattle.load_model.specs.Tables.{AreTotals}
use Rattle.load_model.proofs.table.Row.totals.Given as goal

abbrev pub invariant-loop-part : goal.invariant-loop-part
invariant-loop-part l = AreTotals l.case.parts (take l.part l.lists) l.row
