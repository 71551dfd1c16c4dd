use Rattle.std.proofs.Common.{◌≡◌, drop}
use Rattle.plan_terms.specs.Faults.{lists_fault_from}
use Rattle.load_model.proofs.assign.check_lists.Given as goal

abbrev pub invariant-loop-part : goal.invariant-loop-part
invariant-loop-part l = lists_fault_from l.case l.part (drop l.part l.lists) ≡ lists_fault_from l.case 0 l.lists
