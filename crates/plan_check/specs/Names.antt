-- The names of the faults of a trace.
use Rattle.std.specs.Prelude.{ℕ, List, codes}
use Rattle.plan_check.specs.declared.faults.FaultKind.{FaultKind}
use Rattle.plan_check.specs.declared.faults.FaultKind.TheVariants.{WrongGoal, Illegal, NotAccepted, NotLessening, NotFinished, WrongResult}

abbrev pub fault_name : FaultKind → List ℕ
fault_name WrongGoal = codes "WRONG_GOAL"
fault_name Illegal = codes "ILLEGAL"
fault_name NotAccepted = codes "NOT_ACCEPTED"
fault_name NotLessening = codes "NOT_LESSENING"
fault_name NotFinished = codes "NOT_FINISHED"
fault_name WrongResult = codes "WRONG_RESULT"
