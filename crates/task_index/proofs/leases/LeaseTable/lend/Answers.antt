use Rattle.std.proofs.Common.{◌∙◌, ap, set, List, None, Some}
use Rattle.std.specs.Prelude.{Option, ℕ}
use Rattle.std.proofs.lemmas.List.{set-set}
use Rattle.task_index.proofs.leases.LeaseTable.lend.Goals as goal

pub returns-then-ne : goal.returns-then-ne
returns-then-ne c = c.append.ensures ∙ ap (λ (ls : List (Option ℕ)). set ls c.args.task (Some c.args.number)) c.release.ensures ∙ set-set c.args.self.now c.args.task None (Some c.args.number)
