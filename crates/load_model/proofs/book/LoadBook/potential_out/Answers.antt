use Rattle.std.proofs.Common.{◌∙◌}
use Rattle.load_model.proofs.Readings.{amount-potential_out}
use Rattle.load_model.proofs.book.LoadBook.potential_out.Goals as goal

pub returns-clause-value : goal.returns-clause-value
returns-clause-value c = c.from.ensures ∙ c.amount.ensures.value ∙ amount-potential_out c.args.self.now.cluster _ _
