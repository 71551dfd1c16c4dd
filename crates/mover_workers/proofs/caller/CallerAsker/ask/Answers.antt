use Rattle.std.proofs.Common.{IfErr, IfOk, refl, subst}
use Rattle.mover_rounds.specs.Asked.{HasAsked, IsUnasked}
use Rattle.mover_workers.specs.Callers.{CallerView, IsSince, known_by_caller, known_by_pass}
use Rattle.mover_workers.proofs.Placing.{asked_act, fits_act, grown_act, unasked_act}
use Rattle.mover_workers.proofs.caller.CallerAsker.ask.Goals as goal

pub returns-clause-since : goal.returns-clause-since
returns-clause-since g c =
    let t = c.self.inside.turn.now in
    subst (λ (s : CallerView g.row.A.Denot). IsSince s (record { turn = t; pass = c.act.new.pass })) c.self.view_is
    (record { turn = refl; grown = grown_act t.start.file c.self.inside.pass c.act.new.pass c.args.event c.self.invariant.placed c.act.result c.act.ensures.made c.act.ensures.refused })

pub returns-clause-asked : goal.returns-clause-asked
returns-clause-asked g c =
    let t = c.self.inside.turn.now in
    subst (λ (s : CallerView g.row.A.Denot). IfOk c.act.result (HasAsked (known_by_caller s) (known_by_pass t.start.file c.act.new.pass) c.args.event)) c.self.view_is
    (asked_act t.start.file c.self.inside.pass c.act.new.pass c.args.event c.self.invariant.placed c.act.result c.act.ensures.made)

pub returns-clause-unasked : goal.returns-clause-unasked
returns-clause-unasked g c =
    let t = c.self.inside.turn.now in
    subst (λ (s : CallerView g.row.A.Denot). IfErr c.act.result (λ e. IsUnasked (known_by_caller s) (known_by_pass t.start.file c.act.new.pass) c.args.event e.0)) c.self.view_is
    (unasked_act t.start.file c.self.inside.pass c.act.new.pass c.args.event c.self.invariant.placed c.act.result c.act.ensures.refused)

pub returns-clause-fits : goal.returns-clause-fits
returns-clause-fits g c =
    let t = c.self.inside.turn.now in
    fits_act t.start.file c.self.inside.pass c.act.new.pass c.args.event c.self.invariant.placed c.act.result c.act.ensures.made
