use Rattle.std.proofs.Common.{take}
use Rattle.core_cases.specs.Excluded.{HasTopics}
use Rattle.core_cases.proofs.asked.set_of.Given as goal

abbrev pub invariant-loop-topic : goal.invariant-loop-topic
invariant-loop-topic l = HasTopics l.set (take l.topic-index l.topics)
