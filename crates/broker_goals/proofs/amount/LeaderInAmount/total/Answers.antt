use Rattle.std.proofs.Common.{◌∙◌}
use Rattle.std.specs.Prelude.{slice_index}
use Rattle.goal_terms.proofs.ReadingLemmas.{total-read}
use Rattle.broker_goals.proofs.amount.LeaderInAmount.total.Goals as goal

pub returns : goal.returns
returns c = c.total_leader_in.ensures.value ∙ total-read (λ t l. slice_index l.lead 1) (λ t l. 0) c.args.book.now.cluster c.args._case.now c.args.book.now.lists c.requires.belongs.same_loads
