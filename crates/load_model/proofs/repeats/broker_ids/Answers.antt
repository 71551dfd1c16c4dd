use Rattle.std.proofs.Common.{◌≡◌, ◌∙◌, ap, sym, eqb, true, false, take}
use Rattle.std.specs.List.{list_any}
use Rattle.std.specs.Prelude.{option_map, map, get_or, Some}
use Rattle.plan_terms.specs.Faults.{broker_repeat, same_id}
use Rattle.plan_terms.specs.declared.faults.CaseFault.TheVariants.{DuplicateBroker}
use Rattle.plan_terms.specs.declared.cluster.Broker.{Broker}
use Rattle.std.proofs.lemmas.List.{get_or-map}
use Rattle.load_model.proofs.Listed.{true_from_not, false_from_not}
use Rattle.load_model.proofs.Repetition.{any_id, ids_more, repeat_from-here, repeat_from-next}
use Rattle.load_model.proofs.repeats.broker_ids.Goals as goal

pub returns-then-not-branch-clause-fault : goal.returns-then-not-branch-clause-fault
unfolding broker_repeat
returns-then-not-branch-clause-fault c =
    let b = c.broker-item.result in
    let has : list_any (same_id b) (take c.loop-broker.broker-index c.args.brokers.now) ≡ true = sym (any_id b _ _ c.loop-broker.invariant.ids_are) ∙ true_from_not _ (sym c.in_ok-insert.ensures.added ∙ c.if-not-branch.true) in
    let place = sym c.loop-broker.invariant.rest ∙ repeat_from-here same_id _ _ b c.loop-broker-test.true c.broker-item.is has in
    let id = get_or-map (λ (x : Broker). x.id) c.args.brokers.now c.loop-broker.broker-index b 0 c.loop-broker-test.true in
    λ _. ap (option_map (λ i. DuplicateBroker (get_or (map (λ b. b.id) c.args.brokers.now) i 0))) place ∙ ap (λ n. Some (DuplicateBroker n)) (id ∙ ap (λ (x : Broker). x.id) (sym c.broker-item.is))

pub loop-broker-preserved : goal.loop-broker-preserved
loop-broker-preserved c =
    let b = c.broker-item.result in
    let lacks : list_any (eqb b.id) c.loop-broker.ids.keys ≡ false = false_from_not _ (sym c.in_ok-insert.ensures.added ∙ c.if-not-branch.false) in
    let new = sym (any_id b _ _ c.loop-broker.invariant.ids_are) ∙ lacks in
    record {
      ids_are = c.in_ok-insert.ensures.keys ∙ ids_more _ _ _ b c.loop-broker-test.true c.broker-item.is c.loop-broker.invariant.ids_are lacks;
      rest = repeat_from-next same_id _ _ b c.loop-broker-test.true c.broker-item.is new ∙ c.loop-broker.invariant.rest;
    }
