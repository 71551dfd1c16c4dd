use Rattle.std.proofs.Common.{◌≡◌, ◌∙◌, ◌<◌, length, set, [], arith, rules}
use Rattle.std.proofs.lemmas.List.{get_or_default}
use Rattle.plan_terms.specs.Cluster.{list_of}
use Rattle.plan_terms.specs.Load.{count}
use Rattle.plan_terms.specs.declared.cluster.Broker.{Broker}
use Rattle.factor_change.proofs.Keeps.{counted_few, counts_more, recount_at}
use Rattle.factor_change.proofs.change.recount.Goals as goal

pub recounted-requires-clause-few : goal.recounted-requires-clause-few
recounted-requires-clause-few c =
    let l : c.loop-place.place < length c.args.case.now.brokers = rw c.brokers-broker-items.ensures.value at c.loop-place-test.true in
    omega (arith, c.index-in-loop-place.ensures, counted_few c.args.case.now c.args.draft.now.lists.items c.args.draft.now.counts.items c.loop-place.place c.index-in-loop-place.result.now c.requires.draft l)

pub loop-place-preserved : goal.loop-place-preserved
loop-place-preserved c =
    let case = c.args.case.now in
    let draft = c.args.draft.now in
    let l : c.loop-place.place < length case.brokers = rw c.brokers-broker-items.ensures.value at c.loop-place-test.true in
    let here : c.broker-item.result ≡ _ = rw c.brokers-broker-items.ensures.value at c.broker-item.is in
    let is : c.as_slice-old.result.now ≡ list_of draft.lists.items c.args.part = c.as_slice-old.ensures ∙ c.index.ensures ∙ get_or_default draft.lists.items c.args.part c.index.result.now [] c.requires.part in
    let pushed : c.push.new.self.items ≡ _ = search rules in
    pushed ∙ counts_more (λ (b : Broker). count b.id (set draft.lists.items c.args.part c.args.list.now)) case.brokers c.loop-place.place c.loop-place.counts.items c.recounted.result l c.loop-place.invariant
    (recount_at case draft.lists.items draft.counts.items c.args.part c.loop-place.place c.index-in-loop-place.result.now c.recounted.result c.args.list.now c.broker-item.result c.requires.draft c.requires.part l here c.index-in-loop-place.ensures
    (rw is at c.recounted.ensures))
