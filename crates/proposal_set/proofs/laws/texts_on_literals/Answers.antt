use Rattle.std.proofs.Common.{refl}
use Rattle.std.specs.Fmt.{digits}
use Rattle.serde_json.proofs.OnLiterals.{serde_json_on_literals}
use Rattle.proposal_set.specs.Text.{reassignment_text}
use Rattle.proposal_set.proofs.laws.texts_on_literals.Goals as goal

pub returns-clause-one : goal.returns-clause-one
unfolding serde_json_on_literals reassignment_text digits
returns-clause-one c = refl

pub returns-clause-none : goal.returns-clause-none
unfolding serde_json_on_literals reassignment_text digits
returns-clause-none c = refl
