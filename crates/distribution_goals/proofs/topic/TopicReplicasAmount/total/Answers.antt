use Rattle.std.proofs.Common.{◌∙◌, List, ℕ, [], get_or, ap}
use Rattle.std.specs.Prelude.{bytes_eq, if◌then◌else◌}
use Rattle.goal_terms.proofs.ReadingLemmas.{total-read}
use Rattle.goal_terms.specs.Quantity.{topic_weights, total}
use Rattle.load_model.specs.Places.{topic_at}
use Rattle.plan_terms.proofs.SameLemmas.{topics_same}
use Rattle.distribution_goals.proofs.topic.TopicReplicasAmount.total.Goals as goal

pub returns : goal.returns
returns c =
    let topic = topic_at c.args.book.now.cluster.parts c.args.self.now.place in
    let named = ap (λ (ts : List (List ℕ)). get_or ts c.args.self.now.place []) (topics_same _ _ c.requires.belongs.same_loads) ∙ c.requires.made.1 in
    c.from.ensures ∙ c.total_topic_count.ensures.value
    ∙ total-read (λ t l. if bytes_eq t topic then 1 else 0) (λ t l. if bytes_eq t topic then 1 else 0) c.args.book.now.cluster c.args._case.now c.args.book.now.lists c.requires.belongs.same_loads
    ∙ ap (λ t. total (topic_weights t) c.args._case.now.parts c.args.book.now.lists) named
