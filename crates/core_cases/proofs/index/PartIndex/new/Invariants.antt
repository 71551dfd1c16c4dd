use Rattle.std.proofs.Common.{take}
use Rattle.core_cases.specs.Index.{IsIndexOf}
use Rattle.core_cases.proofs.index.PartIndex.new.Given as goal

abbrev pub invariant-loop-place : goal.invariant-loop-place
invariant-loop-place l = IsIndexOf (take l.place l.parts) l.index.numbers l.index.places
