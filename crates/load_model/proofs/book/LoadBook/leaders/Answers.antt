use Rattle.std.proofs.Common.{◌∙◌}
use Rattle.load_model.proofs.Readings.{amount-leaders}
use Rattle.load_model.proofs.book.LoadBook.leaders.Goals as goal

pub returns-clause-value : goal.returns-clause-value
returns-clause-value c = c.amount.ensures.value ∙ amount-leaders _ _ _ c.lists-one_each.ensures.one_each
