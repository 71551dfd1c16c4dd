use Rattle.std.proofs.Common.{Option, ap, subst}
use Rattle.mover_rounds.specs.declared.drains.DrainEnd.{DrainEnd}
use Rattle.quiet_commands.specs.Ends.{IsTold, lines_of}
use Rattle.cc_program.specs.Outside.{LeftView}
use Rattle.cc_program.proofs.lives.run_live.Goals as goal

pub returns-clause-ended : goal.returns-clause-ended
returns-clause-ended g c =
    let r = c.run-end in
    let told = subst (λ (d : Option DrainEnd). IsTold (lines_of d r.result.0) (g.O.Sink.written c.args.err.now) (g.O.Sink.written c.conclude.new.err) (g.O.Sink.faults c.args.err.now) (g.O.Sink.faults c.conclude.new.err))
    (ap (λ (l : LeftView g.row.A.Denot). l.drain) c.left.view_is) c.conclude.ensures.told in
    (r.result.0, c.conclude.ensures.status, r.ensures.leaves, told)
