use Rattle.std.proofs.Common.{Ok, ◌∙◌, arith, refl}
use Rattle.control_core.specs.Books.{state_of}
use Rattle.mover_rounds.specs.Drained.{IsFoundBy}
use Rattle.mover_rounds.specs.Made.{HasRound, copier_of}
use Rattle.mover_rounds.specs.Owned.{known_by_owner}
use Rattle.control_core.specs.Since.{since_itself, since_on}
use Rattle.mover_rounds.proofs.Behind.{each_stop, no_round, some_broken, some_found, some_worked}
use Rattle.mover_rounds.proofs.Draining.{quiet_planned, quiet_worked, round_idle, round_planned, round_worked}
use Rattle.mover_rounds.proofs.Ending.{cause_earlier}
use Rattle.mover_rounds.proofs.Exits.{passed_on}
use Rattle.mover_rounds.proofs.drains.work.Goals as goal

pub loop-found-init : goal.loop-found-init
loop-found-init g c = record {
  since = since_itself g.A.Admin.faults c.args.book.now;
  did = no_round (known_by_owner c.args.book.now) (copier_of g.K.Copier.copies g.K.Copier.faults c.args.copier.now);
  jobs = omega arith;
  quiet = record { leases = c.requires.leases; tickets = c.requires.tickets };
  kept = refl;
}

pub loop-found-smaller : goal.loop-found-smaller
loop-found-smaller g c =
    let h = rw c.in-Worked.is at c.in_ok-found.ensures.round in
    let j = c.entries-input.ensures in
    (round_worked c.loop-found.book c.one_round.new.asker (copier_of g.K.Copier.copies g.K.Copier.faults c.loop-found.copier) (copier_of g.K.Copier.copies g.K.Copier.faults c.one_round.new.copier)
    j.input j.legal c.one_round.ensures.since.file c.every_history.ensures.histories c.every_event.ensures.refusals c.every_round.ensures.worked h).work

pub loop-found-preserved : goal.loop-found-preserved
loop-found-preserved g c =
    let h = rw c.in-Worked.is at c.in_ok-found.ensures.round in
    let j = c.entries-input.ensures in
    let inv = c.loop-found.invariant in
    let less = round_worked c.loop-found.book c.one_round.new.asker (copier_of g.K.Copier.copies g.K.Copier.faults c.loop-found.copier) (copier_of g.K.Copier.copies g.K.Copier.faults c.one_round.new.copier)
    j.input j.legal c.one_round.ensures.since.file c.every_history.ensures.histories c.every_event.ensures.refusals c.every_round.ensures.worked h in
    record {
      since = since_on g.A.Admin.faults c.args.book.now c.loop-found.book c.one_round.new.asker inv.since c.one_round.ensures.since;
      did = some_worked (known_by_owner c.args.book.now) (known_by_owner c.loop-found.book) (known_by_owner c.one_round.new.asker) (copier_of g.K.Copier.copies g.K.Copier.faults c.args.copier.now) (copier_of g.K.Copier.copies g.K.Copier.faults c.loop-found.copier) (copier_of g.K.Copier.copies g.K.Copier.faults c.one_round.new.copier) inv.did h;
      jobs = omega (arith, inv.jobs, less.jobs);
      quiet = quiet_worked (state_of c.loop-found.book).desk (state_of c.one_round.new.asker).desk less inv.quiet;
      kept = c.in_ok-found.ensures.kept ∙ inv.kept;
    }

pub returns-in-Planned-clause-found : goal.returns-in-Planned-clause-found
returns-in-Planned-clause-found g c =
    some_found (known_by_owner c.args.book.now) (known_by_owner c.loop-found.book) (known_by_owner c.one_round.new.asker) (copier_of g.K.Copier.copies g.K.Copier.faults c.args.copier.now) (copier_of g.K.Copier.copies g.K.Copier.faults c.loop-found.copier) (copier_of g.K.Copier.copies g.K.Copier.faults c.one_round.new.copier) c.loop-found.invariant.did c.in_ok-found.found c.in-Planned.is c.in_ok-found.ensures.round

pub returns-in-Planned-clause-by : goal.returns-in-Planned-clause-by
returns-in-Planned-clause-by g c =
    let before = copier_of g.K.Copier.copies g.K.Copier.faults c.loop-found.copier in
    let behind = copier_of g.K.Copier.copies g.K.Copier.faults c.one_round.new.copier in
    let j = c.entries-input.ensures in
    let inv = c.loop-found.invariant in
    each_stop (λ found. HasRound (known_by_owner c.loop-found.book) (known_by_owner c.one_round.new.asker) before behind (Ok found) → IsFoundBy (state_of c.args.book.now).desk (state_of c.one_round.new.asker).desk found)
    c.in_ok-found.found c.in-Planned.is
    (λ h. let less = round_planned c.loop-found.book c.one_round.new.asker before behind j.input j.legal c.one_round.ensures.since.file c.every_history.ensures.histories c.every_event.ensures.refusals c.every_round.ensures.planned h in
    (omega (arith, inv.jobs, less.jobs), quiet_planned (state_of c.loop-found.book).desk (state_of c.one_round.new.asker).desk less inv.quiet))
    (λ why closing h. round_idle c.loop-found.book c.one_round.new.asker before behind j.input j.legal c.one_round.ensures.since.file c.every_history.ensures.histories c.every_event.ensures.refusals c.every_round.ensures.idle why closing inv.quiet h)
    c.in_ok-found.ensures.round

pub returns-in_err-found-clause-found : goal.returns-in_err-found-clause-found
returns-in_err-found-clause-found g c =
    rw (passed_on c.from_residual.result c.in_err-found.field-0.0 c.from_residual.ensures.1 (λ e q. q)) (some_broken (known_by_owner c.args.book.now) (known_by_owner c.loop-found.book) (known_by_owner c.one_round.new.asker) (copier_of g.K.Copier.copies g.K.Copier.faults c.args.copier.now) (copier_of g.K.Copier.copies g.K.Copier.faults c.loop-found.copier) (copier_of g.K.Copier.copies g.K.Copier.faults c.one_round.new.copier) c.loop-found.invariant.did c.in_err-found.field-0.0 c.in_err-found.ensures.round)

pub returns-in_err-found-clause-cause : goal.returns-in_err-found-clause-cause
returns-in_err-found-clause-cause g c =
    let inv = c.loop-found.invariant in
    rw (passed_on c.from_residual.result c.in_err-found.field-0.0 c.from_residual.ensures.1 (λ e q. q)) (cause_earlier (known_by_owner c.args.book.now) (known_by_owner c.loop-found.book) (known_by_owner c.one_round.new.asker) c.in_err-found.field-0.0 inv.kept c.in_err-found.ensures.cause)
