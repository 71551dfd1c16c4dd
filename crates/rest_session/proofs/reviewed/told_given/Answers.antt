use Rattle.std.proofs.Common.{◌≡◌, Ok, sym, ◌∙◌}
use Rattle.rest_parse.specs.Calls.{meaning}
use Rattle.rest_session.specs.Reviewed.{given_request}
use Rattle.rest_session.proofs.Given.{given_done, given_fault, given_other, given_unread}
use Rattle.rest_session.proofs.reviewed.told_given.Goals as goal

pub returns-in_default-clause-given : goal.returns-in_default-clause-given
returns-in_default-clause-given g c = λ k. given_unread c.args.target (g.X.Asker.known c.args.asker.now) k

pub returns-in-Once-clause-given : goal.returns-in-Once-clause-given
returns-in-Once-clause-given g c =
    let call = c.in-Ok-request_of.call in
    let means : meaning (given_request c.args.target) ≡ Ok call = rw c.in-Ok.ensures at c.in-Ok-request_of.ensures.is in
    λ k. given_done c.args.target (g.X.Asker.known c.args.asker.now) (g.X.Asker.known c.ask_once.new.asker) k call c.in-Once.event c.ask_once.result means (sym c.starts.ensures ∙ c.if-starts.true) (sym c.in-Once.ensures) c.ask_once.ensures.asked

pub returns-in-Ok-2-clause-given : goal.returns-in-Ok-2-clause-given
returns-in-Ok-2-clause-given g c =
    let call = c.in-Ok-request_of.call in
    let means : meaning (given_request c.args.target) ≡ Ok call = rw c.in-Ok.ensures at c.in-Ok-request_of.ensures.is in
    λ k. given_other c.args.target (g.X.Asker.known c.args.asker.now) k call means (sym c.starts.ensures ∙ c.if-starts.false)

pub returns-clause-given : goal.returns-clause-given
returns-clause-given g c = λ k. given_fault c.args.target (g.X.Asker.known c.args.asker.now) k c.in-Err.fault (rw c.in-Ok.ensures at c.in-Err.ensures.is)
