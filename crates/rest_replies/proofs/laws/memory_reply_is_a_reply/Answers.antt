use Rattle.std.proofs.Common.{refl}
use Rattle.std.specs.Fmt.{digits}
use Rattle.serde_json.proofs.OnLiterals.{serde_json_on_literals}
use Rattle.rest_replies.specs.Texts.{head_text}
use Rattle.rest_replies.proofs.laws.memory_reply_is_a_reply.Goals as goal

pub returns-clause-step : goal.returns-clause-step
unfolding serde_json_on_literals head_text digits
returns-clause-step c = refl

pub returns-clause-pump : goal.returns-clause-pump
unfolding serde_json_on_literals head_text digits
returns-clause-pump c = refl

pub returns-clause-http : goal.returns-clause-http
unfolding serde_json_on_literals head_text digits
returns-clause-http c = refl
