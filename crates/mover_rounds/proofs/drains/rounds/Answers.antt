use Rattle.std.proofs.Common.{◌∙◌, refl}
use Rattle.core_terms.specs.declared.faults.StepFault.TheVariants.{AdminFault, Memory}
use Rattle.mover_rounds.specs.Made.{copier_of}
use Rattle.mover_rounds.specs.Owned.{known_by_owner}
use Rattle.control_core.specs.Since.{since_itself, since_on}
use Rattle.mover_rounds.proofs.Behind.{no_round, then_broken, then_idle, then_some}
use Rattle.mover_rounds.proofs.Ending.{cause_earlier}
use Rattle.mover_rounds.proofs.drains.rounds.Goals as goal

pub loop-number-init : goal.loop-number-init
loop-number-init g c = record {
  since = since_itself g.A.Admin.faults c.args.book.now;
  did = no_round (known_by_owner c.args.book.now) (copier_of g.K.Copier.copies g.K.Copier.faults c.args.copier.now);
  quiet = record { leases = c.requires.leases; tickets = c.requires.tickets };
  kept = refl;
}

pub loop-number-preserved-in-Ok-Planned : goal.loop-number-preserved-in-Ok-Planned
loop-number-preserved-in-Ok-Planned g c =
    let inv = c.loop-number.invariant in
    let h = rw c.in-Ok-Planned.field-0-is at c.in-Ok-Planned.ensures.found in
    let by = rw c.in-Ok-Planned.field-0-is at c.in-Ok-Planned.ensures.by in
    record {
      since = since_on g.A.Admin.faults c.args.book.now c.loop-number.book c.work.new.book inv.since c.work.ensures.since;
      did = then_some (known_by_owner c.args.book.now) (known_by_owner c.loop-number.book) (known_by_owner c.work.new.book) (copier_of g.K.Copier.copies g.K.Copier.faults c.args.copier.now) (copier_of g.K.Copier.copies g.K.Copier.faults c.loop-number.copier) (copier_of g.K.Copier.copies g.K.Copier.faults c.work.new.copier) inv.did h;
      quiet = by.1;
      kept = c.in-Ok-Planned.ensures.kept ∙ inv.kept;
    }

pub returns-in-Ok-Idle-clause-rounds : goal.returns-in-Ok-Idle-clause-rounds
returns-in-Ok-Idle-clause-rounds g c =
    let h = rw c.in-Ok-Idle.field-0-is at c.in-Ok-Idle.ensures.found in
    then_idle (known_by_owner c.args.book.now) (known_by_owner c.loop-number.book) (known_by_owner c.work.new.book) (copier_of g.K.Copier.copies g.K.Copier.faults c.args.copier.now) (copier_of g.K.Copier.copies g.K.Copier.faults c.loop-number.copier) (copier_of g.K.Copier.copies g.K.Copier.faults c.work.new.copier) c.loop-number.invariant.did c.in-Ok-Idle.field-0-0 c.in-Ok-Idle.field-0-1 h

pub returns-in-Err-AdminFault-clause-rounds : goal.returns-in-Err-AdminFault-clause-rounds
returns-in-Err-AdminFault-clause-rounds g c =
    then_broken (known_by_owner c.args.book.now) (known_by_owner c.loop-number.book) (known_by_owner c.work.new.book) (copier_of g.K.Copier.copies g.K.Copier.faults c.args.copier.now) (copier_of g.K.Copier.copies g.K.Copier.faults c.loop-number.copier) (copier_of g.K.Copier.copies g.K.Copier.faults c.work.new.copier) c.loop-number.invariant.did c.in-Err-AdminFault.field-0 c.in-Err-AdminFault.ensures.found

pub returns-in-Err-Memory-clause-rounds : goal.returns-in-Err-Memory-clause-rounds
returns-in-Err-Memory-clause-rounds g c =
    then_broken (known_by_owner c.args.book.now) (known_by_owner c.loop-number.book) (known_by_owner c.work.new.book) (copier_of g.K.Copier.copies g.K.Copier.faults c.args.copier.now) (copier_of g.K.Copier.copies g.K.Copier.faults c.loop-number.copier) (copier_of g.K.Copier.copies g.K.Copier.faults c.work.new.copier) c.loop-number.invariant.did c.in-Err-Memory.field-0 c.in-Err-Memory.ensures.found

pub returns-in-Err-AdminFault-clause-cause : goal.returns-in-Err-AdminFault-clause-cause
returns-in-Err-AdminFault-clause-cause g c =
    let inv = c.loop-number.invariant in
    rw c.in-Err-AdminFault.field-0-is (cause_earlier (known_by_owner c.args.book.now) (known_by_owner c.loop-number.book) (known_by_owner c.work.new.book) (AdminFault c.in-Err-AdminFault.number) inv.kept (rw c.in-Err-AdminFault.field-0-is at c.in-Err-AdminFault.ensures.cause))

pub returns-in-Err-Memory-clause-cause : goal.returns-in-Err-Memory-clause-cause
returns-in-Err-Memory-clause-cause g c =
    let inv = c.loop-number.invariant in
    cause_earlier (known_by_owner c.args.book.now) (known_by_owner c.loop-number.book) (known_by_owner c.work.new.book) Memory inv.kept (rw c.in-Err-Memory.field-0-is at c.in-Err-Memory.ensures.cause)
