use Rattle.std.proofs.Common.{◌≡◌, ◌∙◌, ◌+◌, ◌-◌, ◌*◌, ℕ, ◌<◌, ◌≤◌, [], length, drop, sym, ap, arith}
use Rattle.goal_terms.proofs.LeastLemmas.{floor-later, named-count, named-pass}
use Rattle.goal_terms.specs.LeastLeaders.{floor_topics, leading_brokers}
use Rattle.leader_goals.proofs.least.MinTopicLeadersPerBrokerGoalGoal.excess.Goals as goal
use Rattle.leader_goals.proofs.least.MinTopicLeadersPerBrokerGoalGoal.excess.Goals.{then-is_named+else-left-count, else-is_named}

-- a unit of a later topic is one of those left
less : (n m left count next : ℕ) → n ≡ m + 1 → left < n * count → count ≤ left → next ≡ left - count → next < m * count
less n m left count next e l k is = rw is (let w = rw e at l in omega arith)

pub loop-place-preserved : goal.loop-place-preserved
loop-place-preserved c =
    let case = c.args.case.now in
    let lists = c.args.book.now.lists in
    let ts = c.args.self.now.topics.items in
    let i = c.loop-place.place in
    let count = c.leading_count-count.ensures ∙ ap (λ bs. length (leading_brokers bs)) c.brokers.ensures.value in
    let within : i < length ts = omega (arith, c.loop-place-test.true, c.len-place-end.ensures) in
    elim c.if-is_named.branch [
      | then-is_named+else-left-count w ↦
          let named = sym c.is_named.ensures ∙ w.if-is_named.true in
          let many = rw count at w.if-left-count.false in
          let fewer = named-count case ts i [] within named in
          record {
            same = rw (w.left-is, count) (sym (floor-later case ts i [] within lists named c.loop-place.left many) ∙ c.loop-place.invariant.same);
            within = less (length (floor_topics case (drop i ts))) (length (floor_topics case (drop (i + 1) ts))) c.loop-place.left c.leading_count-count.result c.if-is_named.left fewer c.loop-place.invariant.within w.if-left-count.false w.left-is;
          }
      | else-is_named w ↦
          let pass = named-pass case ts i [] within (sym c.is_named.ensures ∙ w.if-is_named.false) in
          record {
            same = rw (w.left-is, ← pass) c.loop-place.invariant.same;
            within = rw (w.left-is, ← pass) c.loop-place.invariant.within;
          }
    ]
