-- What the exit of a `?` returns.
use Rattle.std.proofs.Common.{◌≡◌, subst, sym}
use Rattle.std.specs.Prelude.{Result, IfErr}
use Rattle.std.specs.Result.{IsErrAnd}
use Rattle.std.proofs.lemmas.Result.{err_from_is_err_and}
use Rattle.rest_stream.specs.declared.raw.Stop.{Stop}

-- what holds of the error that came holds of the one that is returned
pub passed_on : {T : Type 0} {Q : Stop → Type 0} (r : Result T Stop) (why : Stop) (P : Stop → Type 0) → IsErrAnd r Q → ((e : Stop) → Q e → e ≡ why) → P why → IfErr r P
passed_on r why P h same p = let e = err_from_is_err_and r h in rw e.1 (subst P (sym (same e.0 e.2)) p)
