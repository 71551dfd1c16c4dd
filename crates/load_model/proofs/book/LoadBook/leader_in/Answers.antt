use Rattle.std.proofs.Common.{◌∙◌}
use Rattle.load_model.proofs.Readings.{amount-leader_in}
use Rattle.load_model.proofs.book.LoadBook.leader_in.Goals as goal

pub returns-clause-value : goal.returns-clause-value
returns-clause-value c = c.from.ensures ∙ c.amount.ensures.value ∙ amount-leader_in c.args.self.now.cluster _ _
