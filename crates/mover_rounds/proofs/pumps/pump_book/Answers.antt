use Rattle.mover_rounds.specs.Made.{copier_of}
use Rattle.mover_rounds.proofs.Exact.{pumped_alone}
use Rattle.mover_rounds.proofs.pumps.pump_book.Goals as goal

pub returns-clause-pumped : goal.returns-clause-pumped
returns-clause-pumped g c =
    pumped_alone c.args.book.now c.pump-end.new.asker (copier_of g.K.Copier.copies g.K.Copier.faults c.args.copier.now) (copier_of g.K.Copier.copies g.K.Copier.faults c.pump-end.new.copier)
    c.entries-input.ensures.input c.entries-legal.ensures.legal c.every_history.ensures.histories c.every_round.ensures.out c.args.steps c.pump-end.result c.pump-end.ensures.pumped
