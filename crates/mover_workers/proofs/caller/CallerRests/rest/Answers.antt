use Rattle.std.proofs.Common.{subst}
use Rattle.mover_workers.specs.Callers.{CallerView, known_by_caller, known_by_pass}
use Rattle.mover_workers.specs.Steps.{HasRested}
use Rattle.mover_workers.proofs.Placing.{rested_looked}
use Rattle.mover_workers.proofs.caller.CallerRests.rest.Goals as goal

pub returns-clause-rested : goal.returns-clause-rested
returns-clause-rested g c =
    let t = c.self.inside.turn.now in
    subst (λ (s : CallerView g.row.A.Denot). HasRested (known_by_caller s) (known_by_pass t.start.file c.rest.new.pass)) c.self.view_is
    (rested_looked t.start.file c.self.inside.pass c.rest.new.pass c.self.invariant.placed c.rest.ensures.looked)
