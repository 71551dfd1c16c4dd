use Rattle.std.proofs.Common.{◌∙◌, ◌-◌, ℕ, List, [], get_or, sym, ap}
use Rattle.goal_terms.proofs.LeastLemmas.{lack-at, quantity-led}
use Rattle.goal_terms.specs.LeastLeaders.{floor_of, led_weights}
use Rattle.plan_terms.specs.Cluster.{id_at}
use Rattle.goal_terms.specs.Quantity.{quantity}
use Rattle.leader_goals.proofs.least.MinTopicLeadersPerBrokerGoal.lack.Goals as goal

pub returns : goal.returns
returns c =
    let case = c.args.case.now in
    let topic = get_or c.args.self.now.topics.items c.args.place [] in
    let broker = id_at case.brokers c.args.broker in
    c.saturating_sub.ensures ∙ ap (λ n. n - c.amount_at-count.result) (c.from.ensures ∙ c.band-band.ensures.value)
    ∙ ap (λ q. floor_of case topic - q)
    (c.amount_at-count.ensures.value ∙ ap (λ (t : List ℕ). quantity (led_weights t) case.parts broker c.args.book.now.lists) c.led.ensures.name ∙ quantity-led case topic broker c.args.book.now.lists)
    ∙ sym (lack-at case c.args.book.now.lists topic c.args.broker c.requires.broker)
