use Rattle.std.proofs.Common.{◌≡◌, map, take}
use Rattle.goal_terms.specs.LeastLeaders.{floor_in}
use Rattle.leader_goals.proofs.least.floors_of.Given as goal

abbrev pub invariant-loop-topic : goal.invariant-loop-topic
invariant-loop-topic l = l.floors.items ≡ map (floor_in l.min_leaders) (take l.topic-index l.topics)
