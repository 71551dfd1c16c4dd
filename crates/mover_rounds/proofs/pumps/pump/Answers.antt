use Rattle.std.proofs.Common.{◌∙◌, arith, refl}
use Rattle.core_terms.specs.declared.faults.StepFault.TheVariants.{AdminFault, Memory}
use Rattle.mover_rounds.specs.Made.{copier_of}
use Rattle.mover_rounds.proofs.Behind.{none_done}
use Rattle.mover_rounds.proofs.Ending.{cause_earlier}
use Rattle.mover_rounds.proofs.Pumping.{planned_more, worked_more, pumped_idle, pumped_fault, pumped_memory}
use Rattle.mover_rounds.proofs.pumps.pump.Goals as goal

pub loop-done-init : goal.loop-done-init
loop-done-init g c = record {
  within = omega arith;
  since = g.met.X.Asker.stays c.args.asker.now;
  did = none_done (g.X.Asker.known c.args.asker.now) (copier_of g.K.Copier.copies g.K.Copier.faults c.args.copier.now);
  kept = refl;
}

pub loop-done-preserved-in-Ok-Planned : goal.loop-done-preserved-in-Ok-Planned
loop-done-preserved-in-Ok-Planned g c =
    let h = rw c.in-Ok-Planned.field-0-is at c.in-Ok-Planned.ensures.round in
    record {
      within = omega arith;
      since = g.met.X.Asker.goes_on _ c.loop-done.asker _ c.loop-done.invariant.since c.one_round.ensures.since;
      did = planned_more _ (g.X.Asker.known c.loop-done.asker) _ _ (copier_of g.K.Copier.copies g.K.Copier.faults c.loop-done.copier) _ c.loop-done.done c.loop-done.invariant.did h;
      kept = c.in-Ok-Planned.ensures.kept ∙ c.loop-done.invariant.kept;
    }

pub loop-done-preserved : goal.loop-done-preserved
loop-done-preserved g c =
    let h = rw c.in-Ok-Worked.field-0-is at c.in-Ok-Worked.ensures.round in
    record {
      within = omega arith;
      since = g.met.X.Asker.goes_on _ c.loop-done.asker _ c.loop-done.invariant.since c.one_round.ensures.since;
      did = worked_more _ (g.X.Asker.known c.loop-done.asker) _ _ (copier_of g.K.Copier.copies g.K.Copier.faults c.loop-done.copier) _ c.loop-done.done c.loop-done.invariant.did h;
      kept = c.in-Ok-Worked.ensures.kept ∙ c.loop-done.invariant.kept;
    }

pub returns-in-Ok-Idle-clause-since : goal.returns-in-Ok-Idle-clause-since
returns-in-Ok-Idle-clause-since g c = g.met.X.Asker.goes_on _ c.loop-done.asker _ c.loop-done.invariant.since c.one_round.ensures.since

pub returns-in-Err-AdminFault-clause-since : goal.returns-in-Err-AdminFault-clause-since
returns-in-Err-AdminFault-clause-since g c = g.met.X.Asker.goes_on _ c.loop-done.asker _ c.loop-done.invariant.since c.one_round.ensures.since

pub returns-in-Err-Memory-clause-since : goal.returns-in-Err-Memory-clause-since
returns-in-Err-Memory-clause-since g c = g.met.X.Asker.goes_on _ c.loop-done.asker _ c.loop-done.invariant.since c.one_round.ensures.since

pub returns-in-Err-AdminFault-clause-cause : goal.returns-in-Err-AdminFault-clause-cause
returns-in-Err-AdminFault-clause-cause g c =
    let h = c.loop-done.invariant in
    rw c.in-Err-AdminFault.field-0-is (cause_earlier (g.X.Asker.known c.args.asker.now) (g.X.Asker.known c.loop-done.asker) (g.X.Asker.known c.one_round.new.asker) (AdminFault c.in-Err-AdminFault.number) h.kept (rw c.in-Err-AdminFault.field-0-is at c.in-Err-AdminFault.ensures.cause))

pub returns-in-Ok-Idle-clause-pumped : goal.returns-in-Ok-Idle-clause-pumped
returns-in-Ok-Idle-clause-pumped g c =
    let h = rw c.in-Ok-Idle.field-0-is at c.in-Ok-Idle.ensures.round in
    pumped_idle _ (g.X.Asker.known c.loop-done.asker) _ _ (copier_of g.K.Copier.copies g.K.Copier.faults c.loop-done.copier) _ c.loop-done.done c.args.steps c.in-Ok-Idle.field-0-0 c.in-Ok-Idle.field-0-1 c.loop-done-test.true c.loop-done.invariant.did h

pub returns-in-Err-AdminFault-clause-pumped : goal.returns-in-Err-AdminFault-clause-pumped
returns-in-Err-AdminFault-clause-pumped g c =
    pumped_fault _ (g.X.Asker.known c.loop-done.asker) _ _ (copier_of g.K.Copier.copies g.K.Copier.faults c.loop-done.copier) _ c.loop-done.done c.args.steps c.in-Err-AdminFault.number c.in-Err-AdminFault.field-0 c.loop-done-test.true c.loop-done.invariant.did c.in-Err-AdminFault.ensures.round

pub returns-in-Err-Memory-clause-pumped : goal.returns-in-Err-Memory-clause-pumped
returns-in-Err-Memory-clause-pumped g c =
    pumped_memory _ (g.X.Asker.known c.loop-done.asker) _ _ (copier_of g.K.Copier.copies g.K.Copier.faults c.loop-done.copier) _ c.loop-done.done c.args.steps c.in-Err-Memory.field-0 c.loop-done-test.true c.loop-done.invariant.did c.in-Err-Memory.ensures.round

pub returns-in-Err-Memory-clause-cause : goal.returns-in-Err-Memory-clause-cause
returns-in-Err-Memory-clause-cause g c =
    let h = c.loop-done.invariant in
    cause_earlier (g.X.Asker.known c.args.asker.now) (g.X.Asker.known c.loop-done.asker) (g.X.Asker.known c.one_round.new.asker) Memory h.kept (rw c.in-Err-Memory.field-0-is at c.in-Err-Memory.ensures.cause)
