use Rattle.std.proofs.Common.{arith}
use Rattle.plan_terms.proofs.EffectLemmas.{replace-first, has-none}
use Rattle.std.proofs.lemmas.Bool.{both_ways}
use Rattle.move_actions.proofs.effects.place_of.Goals as goal

pub returns-then-x-broker-clause-put : goal.returns-then-x-broker-clause-put
returns-then-x-broker-clause-put c = λ b. replace-first _ b _ _ c.loop-i-test.true c.loop-i.invariant c.if-x-broker.true

pub unreachable-requires : goal.unreachable-requires
unreachable-requires c = both_ways _ (has-none c.args.list.now c.args.broker (λ k h. c.loop-i.invariant k (omega arith))) c.requires
