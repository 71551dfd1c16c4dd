use Rattle.std.proofs.Common.{List, ℕ, ◌++◌, ◌∷◌, [], map, take, get_or, ap, sym, ◌∙◌}
use Rattle.std.proofs.lemmas.List.{map-append, take_more}
use Rattle.plan_terms.specs.declared.cluster.Broker.{Broker}
use Rattle.candidate_order.specs.CandidateList.{replicas_of}
use Rattle.candidate_order.proofs.OrderLemmas.{replicas-only}
use Rattle.candidate_order.proofs.order.Order.new.Goals as goal

pub loop-broker-preserved : goal.loop-broker-preserved
loop-broker-preserved c =
    let f : Broker → List ℕ = λ x. replicas_of c.args.case.now c.args.book.now.lists x.id in
    let brokers = c.brokers-brokers.result.now in
    let i = c.loop-broker.broker-index in
    let x = c.broker-item.result in
    c.in_ok-push.ensures.items
    ∙ ap (λ rows. rows ++ c.in_ok-row.row ∷ []) c.loop-broker.invariant
    ∙ ap (λ row. map f (take i brokers) ++ row ∷ []) (replicas-only c.args.case.now c.args.book.now.lists x.id c.in_ok-row.row c.in_ok-row.ensures ∙ ap f c.broker-item.is)
    ∙ sym (map-append f (take i brokers) (get_or brokers i x ∷ []))
    ∙ ap (map f) (sym (take_more brokers i x c.loop-broker-test.true))
