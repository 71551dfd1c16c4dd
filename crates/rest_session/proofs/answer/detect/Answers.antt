use Rattle.rest_session.proofs.Detecting.{followed, told_once}
use Rattle.rest_session.proofs.answer.detect.Goals as goal

pub returns-in-Ok-decided-clause-done : goal.returns-in-Ok-decided-clause-done
returns-in-Ok-decided-clause-done g c = λ k.
    followed c.args.now c.args.alert c.args.heal_age k (g.X.Asker.known c.args.asker.now) (g.X.Asker.known c.ask.new.self) (g.X.Asker.known c.heal.new.asker) c.in-Ok.reply c.in-Ok-decided.decision c.heal.result
    c.in-Ok.ensures.asked c.in-Ok-decided.ensures.ok c.heal.ensures.healed

pub returns-in-Err-decided-clause-done : goal.returns-in-Err-decided-clause-done
returns-in-Err-decided-clause-done g c = λ k.
    told_once c.args.now c.args.alert c.args.heal_age k (g.X.Asker.known c.args.asker.now) (g.X.Asker.known c.ask.new.self) c.in-Ok.reply c.in-Err-decided.told c.in-Ok.ensures.asked c.in-Err-decided.ensures.told
