use Rattle.std.proofs.Common.{Ok, Err, refl, ◌∙◌}
use Rattle.core_terms.specs.declared.faults.StepFault.TheVariants.{AdminFault, Memory}
use Rattle.mover_rounds.specs.Made.{IsCause, copier_of}
use Rattle.mover_rounds.proofs.Ending.{cause_earlier}
use Rattle.mover_workers.specs.Loops.{IsMoveUnit}
use Rattle.mover_workers.specs.declared.steps.Step.TheVariants.{Closed}
use Rattle.mover_workers.proofs.Looping.{move_unit_later, moves_done, moves_end, moves_idle, units_none, units_rested}
use Rattle.mover_workers.proofs.loops.make_moves.Goals as goal

pub loop-init : goal.loop-init
loop-init g c = record {
  since = g.met.X.Asker.stays c.args.asker.now;
  did = units_none IsMoveUnit move_unit_later (g.X.Asker.known c.args.asker.now) (copier_of g.K.Copier.copies g.K.Copier.faults c.args.copier.now);
  kept = refl;
}

pub loop-preserved-in-Ok-Done : goal.loop-preserved-in-Ok-Done
loop-preserved-in-Ok-Done g c =
    let h = rw c.in-Ok-Done.field-0-is at c.in-Ok-Done.ensures.made in
    record {
      since = g.met.X.Asker.goes_on _ c.loop.asker _ c.loop.invariant.since c.move_step.ensures.since;
      did = moves_done _ (g.X.Asker.known c.loop.asker) _ _ (copier_of g.K.Copier.copies g.K.Copier.faults c.loop.copier) _ c.loop.invariant.did h;
      kept = c.in-Ok-Done.ensures.kept ∙ c.loop.invariant.kept;
    }

pub loop-preserved : goal.loop-preserved
loop-preserved g c =
    let h = rw c.in-Ok-Idle.field-0-is at c.in-Ok-Idle.ensures.made in
    record {
      since = g.met.X.Asker.goes_on _ c.move_step.new.asker _ (g.met.X.Asker.goes_on _ c.loop.asker _ c.loop.invariant.since c.move_step.ensures.since) c.rest.ensures.since;
      did = units_rested IsMoveUnit move_unit_later _ (g.X.Asker.known c.move_step.new.asker) _ (copier_of g.K.Copier.copies g.K.Copier.faults c.args.copier.now) (copier_of g.K.Copier.copies g.K.Copier.faults c.move_step.new.copier)
          (moves_idle _ (g.X.Asker.known c.loop.asker) (g.X.Asker.known c.move_step.new.asker) (copier_of g.K.Copier.copies g.K.Copier.faults c.args.copier.now) (copier_of g.K.Copier.copies g.K.Copier.faults c.loop.copier)
          (copier_of g.K.Copier.copies g.K.Copier.faults c.move_step.new.copier) c.loop.invariant.did h) c.rest.ensures.rested;
      kept = c.rest.ensures.rested.blamed ∙ (c.in-Ok-Idle.ensures.kept ∙ c.loop.invariant.kept);
    }

pub returns-in-Ok-Closed-clause-since : goal.returns-in-Ok-Closed-clause-since
returns-in-Ok-Closed-clause-since g c = g.met.X.Asker.goes_on _ c.loop.asker _ c.loop.invariant.since c.move_step.ensures.since

pub returns-in-Ok-Closed-clause-moved : goal.returns-in-Ok-Closed-clause-moved
returns-in-Ok-Closed-clause-moved g c =
    let h = rw c.in-Ok-Closed.field-0-is at c.in-Ok-Closed.ensures.made in
    moves_end _ (g.X.Asker.known c.loop.asker) _ _ (copier_of g.K.Copier.copies g.K.Copier.faults c.loop.copier) _ (Ok Closed) c.loop.invariant.did h

pub returns-in-Ok-Closed-clause-cause : goal.returns-in-Ok-Closed-clause-cause
returns-in-Ok-Closed-clause-cause g c = c.in-Ok-Closed.ensures.kept ∙ c.loop.invariant.kept

pub returns-in-Err-AdminFault-clause-since : goal.returns-in-Err-AdminFault-clause-since
returns-in-Err-AdminFault-clause-since g c = g.met.X.Asker.goes_on _ c.loop.asker _ c.loop.invariant.since c.move_step.ensures.since

pub returns-in-Err-AdminFault-clause-moved : goal.returns-in-Err-AdminFault-clause-moved
returns-in-Err-AdminFault-clause-moved g c =
    let h = rw c.in-Err-AdminFault.field-0-is at c.in-Err-AdminFault.ensures.made in
    rw c.in-Err-AdminFault.field-0-is (moves_end (g.X.Asker.known c.args.asker.now) (g.X.Asker.known c.loop.asker) (g.X.Asker.known c.move_step.new.asker) (copier_of g.K.Copier.copies g.K.Copier.faults c.args.copier.now)
    (copier_of g.K.Copier.copies g.K.Copier.faults c.loop.copier) (copier_of g.K.Copier.copies g.K.Copier.faults c.move_step.new.copier) (Err (AdminFault c.in-Err-AdminFault.number)) c.loop.invariant.did h)

pub returns-in-Err-AdminFault-clause-cause : goal.returns-in-Err-AdminFault-clause-cause
returns-in-Err-AdminFault-clause-cause g c =
    let h = c.loop.invariant in
    rw c.in-Err-AdminFault.field-0-is (cause_earlier (g.X.Asker.known c.args.asker.now) (g.X.Asker.known c.loop.asker) (g.X.Asker.known c.move_step.new.asker) (AdminFault c.in-Err-AdminFault.number) h.kept (rw c.in-Err-AdminFault.field-0-is at c.in-Err-AdminFault.ensures.cause))

pub returns-in-Err-Memory-clause-since : goal.returns-in-Err-Memory-clause-since
returns-in-Err-Memory-clause-since g c = g.met.X.Asker.goes_on _ c.loop.asker _ c.loop.invariant.since c.move_step.ensures.since

pub returns-in-Err-Memory-clause-moved : goal.returns-in-Err-Memory-clause-moved
returns-in-Err-Memory-clause-moved g c =
    let h = rw c.in-Err-Memory.field-0-is at c.in-Err-Memory.ensures.made in
    moves_end _ (g.X.Asker.known c.loop.asker) _ _ (copier_of g.K.Copier.copies g.K.Copier.faults c.loop.copier) _ (Err Memory) c.loop.invariant.did h

pub returns-in-Err-Memory-clause-cause : goal.returns-in-Err-Memory-clause-cause
returns-in-Err-Memory-clause-cause g c =
    let h : IsCause (g.X.Asker.known c.loop.asker) (g.X.Asker.known c.move_step.new.asker) Memory = rw c.in-Err-Memory.field-0-is at c.in-Err-Memory.ensures.cause in
    h ∙ c.loop.invariant.kept
