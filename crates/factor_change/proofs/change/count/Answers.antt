use Rattle.std.proofs.Common.{◌≡◌, ◌∙◌, ◌<◌, ℕ, map, length, get_or, ap, rules}
use Rattle.std.proofs.lemmas.List.{get_or-map, take_all}
use Rattle.plan_terms.specs.Load.{count}
use Rattle.plan_terms.specs.declared.cluster.Broker.{Broker}
use Rattle.factor_change.proofs.Keeps.{counts_more}
use Rattle.factor_change.proofs.Least.{no_broker}
use Rattle.factor_change.proofs.change.count.Goals as goal

pub loop-place-preserved : goal.loop-place-preserved
loop-place-preserved c =
    let case = c.args.case.now in
    let lists = c.args.lists.now in
    let l : c.loop-place.place < length case.brokers = rw c.brokers-place-end.ensures.value at c.loop-place-test.true in
    let pushed : c.push.new.self.items ≡ _ = search rules in
    let value : c.count.result ≡ count (get_or case.brokers c.loop-place.place no_broker).id lists =
    rw c.in_ok-book.ensures at c.count.ensures.value ∙ ap (λ (n : ℕ). count n lists) (get_or-map (λ (b : Broker). b.id) case.brokers c.loop-place.place no_broker 0 l) in
    pushed ∙ counts_more (λ (b : Broker). count b.id lists) case.brokers c.loop-place.place c.loop-place.counts.items c.count.result l c.loop-place.invariant value

pub returns : goal.returns
returns c =
    let case = c.args.case.now in
    c.loop-place.invariant ∙ ap (map (λ (b : Broker). count b.id c.args.lists.now)) (take_all c.loop-place.place case.brokers (rw c.brokers-place-end.ensures.value at c.loop-place-test.false))
