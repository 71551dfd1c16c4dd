use Rattle.std.proofs.Common.{◌∙◌, ℕ, List, [], get_or, sym, ap}
use Rattle.goal_terms.proofs.LeastLemmas.{quantity-led}
use Rattle.plan_terms.specs.Cluster.{id_at}
use Rattle.load_model.specs.Places.{topic_at}
use Rattle.plan_terms.proofs.SameLemmas.{topic_leaders-same, topics_same}
use Rattle.plan_terms.specs.Load.{topic_leaders}
use Rattle.leader_goals.proofs.least.LedInTopicAmount.amount.Goals as goal

pub returns : goal.returns
returns c =
    c.from.ensures ∙ c.topic_leaders.ensures.value
    ∙ ap (λ (ids : List ℕ). topic_leaders c.args.book.now.cluster (topic_at c.args.book.now.cluster.parts c.args.self.now.place) (get_or ids c.args.broker 0) c.args.book.now.lists) c.requires.belongs.same_loads.ids
    ∙ ap (λ (ts : List (List ℕ)). topic_leaders c.args.book.now.cluster (get_or ts c.args.self.now.place []) (id_at c.args._case.now.brokers c.args.broker) c.args.book.now.lists) (topics_same _ _ c.requires.belongs.same_loads)
    ∙ topic_leaders-same c.args.book.now.cluster c.args._case.now (topic_at c.args._case.now.parts c.args.self.now.place) (id_at c.args._case.now.brokers c.args.broker) c.args.book.now.lists c.requires.belongs.same_loads
    ∙ ap (λ t. topic_leaders c.args._case.now t (id_at c.args._case.now.brokers c.args.broker) c.args.book.now.lists) c.requires.made.1
    ∙ sym (quantity-led c.args._case.now c.args.self.now.name.now (id_at c.args._case.now.brokers c.args.broker) c.args.book.now.lists)
