use Rattle.std.proofs.Common.{◌<◌, ◌^◌, arith}
use Rattle.std.proofs.lemmas.List.{take_all}
use Rattle.std.proofs.lemmas.List.Elements.{All-more}
use Rattle.plan_terms.specs.declared.cluster.MinLeaders.{MinLeaders}
use Rattle.leader_goals.proofs.least.are_floors.Goals as goal

pub loop-entry-preserved : goal.loop-entry-preserved
loop-entry-preserved c =
    All-more (λ (m : MinLeaders). m.leaders < 2 ^ 32) c.args.min_leaders.now c.loop-entry.entry-index c.entry-item.result c.loop-entry-test.true c.loop-entry.invariant
    (rw c.entry-item.is at c.is_small.ensures)

pub returns : goal.returns
returns c = rw (take_all c.loop-entry.entry-index c.args.min_leaders.now (omega arith)) at c.loop-entry.invariant
