use Rattle.std.proofs.Common.{◌≡◌, map, take}
use Rattle.plan_terms.specs.Cluster.{id_at}
use Rattle.candidate_order.specs.Looks.{look_room}
use Rattle.candidate_order.proofs.looks.rooms_of.Given as goal

abbrev pub invariant-loop-k : goal.invariant-loop-k
invariant-loop-k g l = l.rooms.items ≡ map (λ x. look_room (g.G.Goal.weighs x) (g.G.Goal.room_at x l.case l.book.lists (id_at l.case.brokers l.broker))) (take l.k l.goals)
