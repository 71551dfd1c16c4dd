use Rattle.std.proofs.Common.{◌∙◌, ℕ, List, [], get_or, sym, ap}
use Rattle.goal_terms.proofs.ReadingLemmas.{quantity-topic}
use Rattle.plan_terms.specs.Cluster.{id_at}
use Rattle.load_model.specs.Places.{topic_at}
use Rattle.plan_terms.proofs.SameLemmas.{topic_count-same, topics_same}
use Rattle.plan_terms.specs.Load.{topic_count}
use Rattle.distribution_goals.proofs.topic.TopicReplicasAmount.amount.Goals as goal

pub returns : goal.returns
returns c =
    c.from.ensures ∙ c.topic_count.ensures.value
    ∙ ap (λ (ids : List ℕ). topic_count c.args.book.now.cluster (topic_at c.args.book.now.cluster.parts c.args.self.now.place) (get_or ids c.args.broker 0) c.args.book.now.lists) c.requires.belongs.same_loads.ids
    ∙ ap (λ (ts : List (List ℕ)). topic_count c.args.book.now.cluster (get_or ts c.args.self.now.place []) (id_at c.args._case.now.brokers c.args.broker) c.args.book.now.lists) (topics_same _ _ c.requires.belongs.same_loads)
    ∙ topic_count-same c.args.book.now.cluster c.args._case.now (topic_at c.args._case.now.parts c.args.self.now.place) (id_at c.args._case.now.brokers c.args.broker) c.args.book.now.lists c.requires.belongs.same_loads
    ∙ ap (λ t. topic_count c.args._case.now t (id_at c.args._case.now.brokers c.args.broker) c.args.book.now.lists) c.requires.made.1
    ∙ sym (quantity-topic c.args._case.now c.args.self.now.name.now (id_at c.args._case.now.brokers c.args.broker) c.args.book.now.lists)
