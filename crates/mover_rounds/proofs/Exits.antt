-- What the exit of a `?` returns.
use Rattle.std.proofs.Common.{◌≡◌, ◌∙◌, Result, Err, ap}
use Rattle.std.specs.Result.{IsErrAnd}
use Rattle.std.proofs.lemmas.Result.{err_from_is_err_and}
use Rattle.core_terms.specs.declared.faults.StepFault.{StepFault}

-- the fault that came is the one that is returned
pub passed_on : {T : Type 0} {Q : StepFault → Type 0} (result : Result T StepFault) (why : StepFault) → IsErrAnd result Q → ((e : StepFault) → Q e → e ≡ why) → result ≡ Err why
passed_on result why h same = let e = err_from_is_err_and result h in e.1 ∙ ap Err (same e.0 e.2)
