use Rattle.std.proofs.Common.{refl, subst}
use Rattle.core_terms.specs.declared.events.Event.TheVariants as event
use Rattle.mover_workers.specs.Callers.{CallerView, IsSince}
use Rattle.mover_workers.specs.Close.{IsClosed}
use Rattle.mover_workers.proofs.Asked.{closed_by}
use Rattle.mover_workers.proofs.Placing.{grown_act}
use Rattle.mover_workers.proofs.caller.Caller.close.Goals as goal

pub returns-clause-since : goal.returns-clause-since
returns-clause-since g c =
    let t = c.self.inside.turn.now in
    subst (λ (s : CallerView g.row.A.Denot). IsSince s (record { turn = t; pass = c.act.new.pass })) c.self.view_is
    (record { turn = refl; grown = grown_act t.start.file c.self.inside.pass c.act.new.pass event.Close c.self.invariant.placed c.act.result c.act.ensures.made c.act.ensures.refused })

pub returns-clause-closed : goal.returns-clause-closed
returns-clause-closed g c =
    let t = c.self.inside.turn.now in
    subst (λ (s : CallerView g.row.A.Denot). IsClosed s.pass c.act.new.pass) c.self.view_is
    (closed_by t.start.file c.every_history.ensures.closing c.self.inside.pass c.act.new.pass c.act.result c.act.ensures.made c.act.ensures.refused)
