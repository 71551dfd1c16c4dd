use Rattle.mover_rounds.specs.Made.{copier_of}
use Rattle.mover_rounds.proofs.Exact.{drained_alone}
use Rattle.mover_rounds.proofs.drains.drain.Goals as goal

pub returns-clause-rounds : goal.returns-clause-rounds
returns-clause-rounds g c =
    drained_alone c.args.book.now c.rounds-end.new.book (copier_of g.K.Copier.copies g.K.Copier.faults c.args.copier.now) (copier_of g.K.Copier.copies g.K.Copier.faults c.rounds-end.new.copier)
    c.entries-input.ensures.input c.entries-legal.ensures.legal c.every_history.ensures.histories c.every_round.ensures.out c.rounds-end.result c.rounds-end.ensures.rounds
