use Rattle.std.proofs.Common.{◌∙◌, ℕ, List, get_or, sym, ap}
use Rattle.goal_terms.proofs.ReadingLemmas.{quantity-leader_in}
use Rattle.plan_terms.specs.Cluster.{id_at}
use Rattle.plan_terms.proofs.SameLemmas.{leader_in-same}
use Rattle.plan_terms.specs.Load.{leader_in}
use Rattle.broker_goals.proofs.amount.LeaderInAmount.amount.Goals as goal

pub returns : goal.returns
returns c =
    c.leader_in.ensures.value
    ∙ ap (λ (ids : List ℕ). leader_in c.args.book.now.cluster (get_or ids c.args.broker 0) c.args.book.now.lists) c.requires.belongs.same_loads.ids
    ∙ leader_in-same c.args.book.now.cluster c.args._case.now (id_at c.args._case.now.brokers c.args.broker) c.args.book.now.lists c.requires.belongs.same_loads
    ∙ sym (quantity-leader_in c.args._case.now (id_at c.args._case.now.brokers c.args.broker) c.args.book.now.lists)
