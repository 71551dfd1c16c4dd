use Rattle.std.proofs.Common.{◌≡◌, ◌∙◌, ◌*◌, ◌≤◌, ℕ, List, length, ap, arith}
use Rattle.std.proofs.lemmas.List.{length-map}
use Rattle.std.specs.List.{filter}
use Rattle.std.specs.Prelude.{Option, is_some}
use Rattle.plan_terms.specs.Faults.{topics}
use Rattle.goal_terms.proofs.CaseLemmas.{Limits-case}
use Rattle.goal_terms.proofs.LeastLemmas.{few-floors, named-length}
use Rattle.goal_terms.specs.LeastLeaders.{floor_in, floor_topics, leading_brokers}
use Rattle.leader_goals.proofs.least.MinTopicLeadersPerBrokerGoalGoal.units.Goals as goal

pub overflow_mul-result : goal.overflow_mul-result
overflow_mul-result c =
    let case = c.args.case.now in
    let many : length c.args.self.now.floors.items ≡ length (topics case.parts) =
    ap (length {A = Option ℕ}) c.requires.floors_are ∙ length-map c.args.self.now.topics.items (floor_in case.options.min_leaders) ∙ ap (length {A = List ℕ}) c.requires.topics_are in
    let few : c.named_count.result ≤ length (topics case.parts) = rw many at (rw c.deref.ensures.value at c.named_count.ensures.within) in
    rw (c.leading_count.ensures, c.brokers-brokers.ensures.value) (omega (arith, few-floors case c.named_count.result (Limits-case case c.brokers-brokers.ensures.case) few))

pub returns : goal.returns
returns c =
    let case = c.args.case.now in
    let named : c.named_count.result ≡ length (floor_topics case (topics case.parts)) =
    c.named_count.ensures.value ∙ ap (λ fs. length (filter is_some fs)) (c.deref.ensures.value ∙ c.requires.floors_are)
    ∙ named-length case c.args.self.now.topics.items ∙ ap (λ ts. length (floor_topics case ts)) c.requires.topics_are in
    ap (λ n. n * c.leading_count.result) named ∙ ap (λ n. length (floor_topics case (topics case.parts)) * n) (c.leading_count.ensures ∙ ap (λ bs. length (leading_brokers bs)) c.brokers-brokers.ensures.value)
