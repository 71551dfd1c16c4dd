use Rattle.std.proofs.Common.{◌≡◌, map, take, drop}
use Rattle.plan_terms.specs.Faults.{first_repeat, repeat_from, same_id}
use Rattle.load_model.proofs.repeats.broker_ids.Given as goal

abbrev pub invariant-loop-broker : goal.invariant-loop-broker
invariant-loop-broker l = record {
  ids_are : l.ids.keys ≡ map (λ b. b.id) (take l.broker-index l.brokers);
  rest : repeat_from same_id (take l.broker-index l.brokers) l.broker-index (drop l.broker-index l.brokers) ≡ first_repeat same_id l.brokers;
}
