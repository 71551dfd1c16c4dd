use Rattle.std.proofs.Common.{◌∙◌, ℕ, List, get_or, sym, ap}
use Rattle.goal_terms.proofs.ReadingLemmas.{quantity-leaders}
use Rattle.plan_terms.specs.Cluster.{id_at}
use Rattle.plan_terms.specs.Load.{leaders}
use Rattle.broker_goals.proofs.amount.LeadersAmount.amount.Goals as goal

pub returns : goal.returns
returns c =
    c.from.ensures ∙ c.leaders.ensures.value
    ∙ ap (λ (ids : List ℕ). leaders (get_or ids c.args.broker 0) c.args.book.now.lists) c.requires.belongs.same_loads.ids
    ∙ sym (quantity-leaders c.args._case.now.parts c.args.book.now.lists (id_at c.args._case.now.brokers c.args.broker) c.requires.belongs.lists_belong.one_each)
