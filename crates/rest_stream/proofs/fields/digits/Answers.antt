use Rattle.rest_stream.proofs.Digits.{no_number}
use Rattle.rest_stream.proofs.fields.digits.Goals as goal

pub returns-in-Err : goal.returns-in-Err
returns-in-Err c = no_number c.args.value.now c.in-Err.ensures.cases.0
