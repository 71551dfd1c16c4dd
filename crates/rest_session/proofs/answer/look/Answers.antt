use Rattle.rest_session.proofs.Detecting.{look_shown, shown_once}
use Rattle.rest_session.proofs.answer.look.Goals as goal

pub returns-in-Ok-decided-clause-done : goal.returns-in-Ok-decided-clause-done
returns-in-Ok-decided-clause-done g c = λ k.
    look_shown c.args.now c.args.alert c.args.heal_age k (g.X.Asker.known c.args.asker.now) (g.X.Asker.known c.ask.new.self) c.in-Ok.reply c.in-Ok-decided.decision c.in-Ok.ensures.asked c.in-Ok-decided.ensures.ok

pub returns-in-Err-decided-clause-done : goal.returns-in-Err-decided-clause-done
returns-in-Err-decided-clause-done g c = λ k.
    shown_once c.args.now c.args.alert c.args.heal_age k (g.X.Asker.known c.args.asker.now) (g.X.Asker.known c.ask.new.self) c.in-Ok.reply c.in-Err-decided.told c.in-Ok.ensures.asked c.in-Err-decided.ensures.told
