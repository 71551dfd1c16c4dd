use Rattle.std.proofs.Common.{◌∙◌}
use Rattle.load_model.proofs.Readings.{amount-topic_leaders}
use Rattle.load_model.proofs.book.LoadBook.topic_leaders.Goals as goal

pub returns-clause-value : goal.returns-clause-value
returns-clause-value c = c.amount.ensures.value ∙ amount-topic_leaders c.args.self.now.cluster _ _ _
