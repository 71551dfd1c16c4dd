use Rattle.std.proofs.Common.{refl, ap, ◌∙◌, Err}
use Rattle.exec_terms.specs.Words.{is_for}
use Rattle.exec_terms.specs.declared.work.WorkKind.TheVariants.{Copy as ForCopy}
use Rattle.mover_rounds.specs.Made.{copier_of}
use Rattle.mover_rounds.proofs.Working.{worked_back, worked_plain, worked_copy}
use Rattle.mover_rounds.proofs.work.copy_work.Goals as goal

pub returns-in-Ok-clause-worked : goal.returns-in-Ok-clause-worked
returns-in-Ok-clause-worked g c = worked_copy _ _ c.args.given (copier_of g.K.Copier.copies g.K.Copier.faults c.args.copier.now) (copier_of g.K.Copier.copies g.K.Copier.faults c.copy_chunk.new.copier) c.args.to c.args.chunk c.in-Ok.receipt c.end_with.result c.requires c.in-Ok.ensures.receipt c.in-Ok.ensures.made c.copy_chunk.ensures.later c.end_with.ensures.added c.end_with.ensures.failed

pub returns-in-Err-Failed-clause-worked : goal.returns-in-Err-Failed-clause-worked
returns-in-Err-Failed-clause-worked g c =
    let e = c.end_with-in-Err-Failed.ensures in
    worked_plain _ _ c.args.given (copier_of g.K.Copier.copies g.K.Copier.faults c.args.copier.now) (copier_of g.K.Copier.copies g.K.Copier.faults c.copy_chunk.new.copier) _ c.end_with-in-Err-Failed.result
    (ap (is_for ForCopy) c.requires, refl) refl c.in-Err-Failed.ensures.failed c.copy_chunk.ensures.later (c.copy_chunk.ensures.cause (c.in-Err-Failed.is ∙ ap Err c.in-Err-Failed.field-0-is)) e.added e.failed

pub returns-in-Err-Memory-clause-worked : goal.returns-in-Err-Memory-clause-worked
returns-in-Err-Memory-clause-worked g c = worked_back _ _ c.args.given (copier_of g.K.Copier.copies g.K.Copier.faults c.args.copier.now) (copier_of g.K.Copier.copies g.K.Copier.faults c.copy_chunk.new.copier) c.give_back.ensures.returned c.in-Err-Memory.ensures.failed c.copy_chunk.ensures.later
