use Rattle.std.proofs.Common.{rules, ◌∙◌, Err, ap, string_bytes, arith}
use Rattle.rest_session.specs.Heard.{paged}
use Rattle.live_service.specs.Asked.{asked_of}
use Rattle.live_service.specs.Views.{ServiceView}
use Rattle.live_service.proofs.Accepting.{none_accepted, unheard_by}
use Rattle.live_service.proofs.links.serve_links.Goals as goal

pub returns-in-Err-clause-accepted : goal.returns-in-Err-clause-accepted
returns-in-Err-clause-accepted g c =
    let rest = c.listen.ensures.rest in
    none_accepted (paged c.args.serving.now.page) c.args.callers.book c.args.callers.board c.args.service c.listen.new.self c.args.serving.now.links (Err _) c.listen.ensures.accepted (ap (λ (x : ServiceView). x.copiers) rest) (ap (λ (x : ServiceView). x.served) rest ∙ c.requires.space.none)
    (omega (arith, ap (λ (x : ServiceView). x.room) rest)) (omega (arith, ap (λ (x : ServiceView). x.places) rest)) (omega (arith, ap (λ (x : ServiceView). x.lane_room) rest)) (ap (λ (x : ServiceView). x.lanes) rest) c.listen.ensures.cause.later tt

pub returns-in-Ok-clause-unheard : goal.returns-in-Ok-clause-unheard
returns-in-Ok-clause-unheard g c = unheard_by c.accept_links.result.2 (string_bytes c.args.serving.now.address) c.args.service c.listen.new.self c.accept_links.result.1 (rw c.deref.ensures at c.in-Ok.ensures.heard) c.in-Ok.ensures.cause.kept c.accept_links.ensures.tried
