use Rattle.std.proofs.Common.{◌≡◌, [], take, drop}
use Rattle.plan_terms.specs.Faults.{member_fault}
use Rattle.load_model.proofs.assign.first_member_fault.Given as goal

abbrev pub invariant-loop-i : goal.invariant-loop-i
invariant-loop-i l = member_fault l.case l.part (take l.i l.list) (drop l.i l.list) ≡ member_fault l.case l.part [] l.list
