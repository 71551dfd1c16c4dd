use Rattle.std.proofs.Common.{◌∙◌, ℕ, List, get_or, sym, ap}
use Rattle.goal_terms.proofs.ReadingLemmas.{quantity-potential_out}
use Rattle.plan_terms.specs.Cluster.{id_at}
use Rattle.plan_terms.proofs.SameLemmas.{potential_out-same}
use Rattle.plan_terms.specs.Load.{potential_out}
use Rattle.broker_goals.proofs.amount.PotentialOutAmount.amount.Goals as goal

pub returns : goal.returns
returns c =
    c.potential_out.ensures.value
    ∙ ap (λ (ids : List ℕ). potential_out c.args.book.now.cluster (get_or ids c.args.broker 0) c.args.book.now.lists) c.requires.belongs.same_loads.ids
    ∙ potential_out-same c.args.book.now.cluster c.args._case.now (id_at c.args._case.now.brokers c.args.broker) c.args.book.now.lists c.requires.belongs.same_loads
    ∙ sym (quantity-potential_out c.args._case.now (id_at c.args._case.now.brokers c.args.broker) c.args.book.now.lists)
