use Rattle.std.proofs.Common.{Err}
use Rattle.std.proofs.lemmas.List.Sorted.{searched}
use Rattle.task_index.proofs.Holders.{searchable, not-found}
use Rattle.task_index.proofs.leases.place_of.Goals as goal

pub returns-in-Err-clause-none : goal.returns-in-Err-clause-none
returns-in-Err-clause-none c =
    let found = searched c.args.numbers.now c.args.number (Err c.in-Err.field-0) c.in-Err.ensures.position (searchable c.args.numbers.now c.requires) in
    λ _. not-found c.args.numbers.now c.args.number c.in-Err.field-0 found.1 found.2
