use Rattle.std.proofs.Common.{◌∙◌}
use Rattle.std.specs.Prelude.{slice_index}
use Rattle.goal_terms.proofs.ReadingLemmas.{total-read}
use Rattle.broker_goals.proofs.amount.PotentialOutAmount.total.Goals as goal

pub returns : goal.returns
returns c = c.total_potential_out.ensures.value ∙ total-read (λ t l. slice_index l.lead 2) (λ t l. slice_index l.lead 2) c.args.book.now.cluster c.args._case.now c.args.book.now.lists c.requires.belongs.same_loads
