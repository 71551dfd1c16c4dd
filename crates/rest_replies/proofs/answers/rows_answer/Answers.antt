use Rattle.std.proofs.Common.{subst, sym}
use Rattle.rest_replies.specs.Plain.{IsPlain}
use Rattle.rest_replies.proofs.Plain.{rows_plain}
use Rattle.rest_replies.proofs.answers.rows_answer.Goals as goal

pub ok-requires : goal.ok-requires
ok-requires c = subst IsPlain (sym c.in_ok-body.ensures) (rows_plain c.args.rows.now)
