use Rattle.rest_stream.proofs.Reasons.{one_reason}
use Rattle.rest_stream.proofs.Unique.{refused_once}
use Rattle.rest_stream.proofs.laws.reasons_are_unique.Goals as goal

pub returns-clause-refused : goal.returns-clause-refused
returns-clause-refused c s why other x h = refused_once s why x other h

pub returns-clause-one : goal.returns-clause-one
returns-clause-one c = one_reason
