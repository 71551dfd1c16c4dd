use Rattle.std.proofs.Common.{take}
use Rattle.load_model.specs.Tables.{IsTable}
use Rattle.load_model.proofs.table.Table.new.Given as goal

abbrev pub invariant-loop-part : goal.invariant-loop-part
invariant-loop-part l = IsTable l.case (take l.part l.lists) l.table
