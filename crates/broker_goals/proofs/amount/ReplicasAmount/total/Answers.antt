use Rattle.std.proofs.Common.{◌∙◌}
use Rattle.goal_terms.proofs.ReadingLemmas.{total-read}
use Rattle.broker_goals.proofs.amount.ReplicasAmount.total.Goals as goal

pub returns : goal.returns
returns c = c.from.ensures ∙ c.total_count.ensures.value ∙ total-read (λ t l. 1) (λ t l. 1) c.args.book.now.cluster c.args._case.now c.args.book.now.lists c.requires.belongs.same_loads
