use Rattle.std.proofs.Common.{◌≡◌, ◌*◌, ◌<◌, get_or, length, drop}
use Rattle.goal_terms.specs.LeastLeaders.{floor_excesses, floor_topics}
use Rattle.leader_goals.proofs.least.MinTopicLeadersPerBrokerGoalGoal.excess.Given as goal

abbrev pub invariant-loop-place : goal.invariant-loop-place
invariant-loop-place l = record {
  same : get_or (floor_excesses (floor_topics l.case (drop l.place l.self.topics.items)) l.case l.book.lists) l.left 0
      ≡ get_or (floor_excesses (floor_topics l.case l.self.topics.items) l.case l.book.lists) l.unit 0;
  within : l.left < length (floor_topics l.case (drop l.place l.self.topics.items)) * l.count;
}
