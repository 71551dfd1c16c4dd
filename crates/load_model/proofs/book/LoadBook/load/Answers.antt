use Rattle.std.proofs.Common.{◌∙◌}
use Rattle.load_model.proofs.Readings.{amount-load}
use Rattle.load_model.proofs.book.LoadBook.load.Goals as goal

pub returns-clause-value : goal.returns-clause-value
returns-clause-value c = c.from.ensures ∙ c.amount.ensures.value ∙ amount-load c.args.self.now.cluster _ _ _
