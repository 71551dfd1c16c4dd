use Rattle.std.proofs.Common.{◌∙◌, ℕ, List, get_or, sym, ap}
use Rattle.goal_terms.proofs.ReadingLemmas.{quantity-load}
use Rattle.plan_terms.specs.Cluster.{id_at}
use Rattle.plan_terms.proofs.SameLemmas.{load-same}
use Rattle.plan_terms.specs.Load.{load}
use Rattle.broker_goals.proofs.amount.LoadAmount.amount.Goals as goal

pub returns : goal.returns
returns g c =
    c.load.ensures.value
    ∙ ap (λ (ids : List ℕ). load c.args.book.now.cluster c.place.result (get_or ids c.args.broker 0) c.args.book.now.lists) c.requires.belongs.same_loads.ids
    ∙ load-same c.args.book.now.cluster c.args._case.now c.place.result (id_at c.args._case.now.brokers c.args.broker) c.args.book.now.lists c.requires.belongs.same_loads
    ∙ ap (λ r. load c.args._case.now r (id_at c.args._case.now.brokers c.args.broker) c.args.book.now.lists) c.place.ensures.value
    ∙ sym (quantity-load c.args._case.now g.R.Resource.resource (id_at c.args._case.now.brokers c.args.broker) c.args.book.now.lists)
