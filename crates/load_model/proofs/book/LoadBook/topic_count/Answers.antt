use Rattle.std.proofs.Common.{◌∙◌}
use Rattle.load_model.proofs.Readings.{amount-topic_count}
use Rattle.load_model.proofs.book.LoadBook.topic_count.Goals as goal

pub returns-clause-value : goal.returns-clause-value
returns-clause-value c = c.amount.ensures.value ∙ amount-topic_count c.args.self.now.cluster _ _ _
