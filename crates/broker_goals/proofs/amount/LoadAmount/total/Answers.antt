use Rattle.std.proofs.Common.{◌∙◌, ap}
use Rattle.std.specs.Prelude.{slice_index}
use Rattle.goal_terms.proofs.ReadingLemmas.{total-read}
use Rattle.goal_terms.specs.Quantity.{load_weights, total}
use Rattle.broker_goals.proofs.amount.LoadAmount.total.Goals as goal

pub returns : goal.returns
returns g c =
    c.total_load.ensures.value
    ∙ total-read (λ t l. slice_index l.lead c.place.result) (λ t l. slice_index l.follow c.place.result) c.args.book.now.cluster c.args._case.now c.args.book.now.lists c.requires.belongs.same_loads
    ∙ ap (λ r. total (load_weights r) c.args._case.now.parts c.args.book.now.lists) c.place.ensures.value
