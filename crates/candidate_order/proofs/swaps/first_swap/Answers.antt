use Rattle.std.proofs.Common.{◌≡◌, ℕ, ◌∙◌, map, arith, get_or, refl}
use Rattle.plan_terms.specs.Cluster.{ids_of}
use Rattle.std.proofs.lemmas.List.{take_all}
use Rattle.std.proofs.lemmas.List.Elements.{All-more, All-map}
use Rattle.plan_terms.specs.Trace.{Step}
use Rattle.plan_terms.specs.declared.cluster.Broker.{Broker}
use Rattle.plan_terms.specs.declared.actions.Action.TheVariants.{Swap}
use Rattle.candidate_order.specs.CandidateList.{replicas_of, NoStep}
use Rattle.candidate_order.specs.declared.kept.Row.{Row}
use Rattle.candidate_order.proofs.Firsts.{first-flat, none-flat}
use Rattle.candidate_order.proofs.RowLemmas.{by-rows, order-row, order-length, replicas_of-within}
use Rattle.candidate_order.proofs.swaps.first_swap.Goals as goal

pub row-others-requires : goal.row-others-requires
row-others-requires g c =
    omega (arith, c.loop-k-test.true, order-length c.args.case.now c.args.book.now.lists c.args.order.now (λ (r : Row). r.id) c.as_slice-rows.result.now c.requires.order (rw c.as_slice-rows.ensures.value c.requires.scan.brokers_are))

pub first_with-found-requires-clause-others : goal.first_with-found-requires-clause-others
first_with-found-requires-clause-others g c = λ k d l.
    let rows_are : map (λ (r : Row). r.id) c.as_slice-rows.result.now ≡ ids_of c.args.case.now.brokers = rw c.as_slice-rows.ensures.value c.requires.scan.brokers_are in
    let e = c.row-others.ensures ∙ order-row c.args.case.now c.args.book.now.lists c.args.order.now (λ (r : Row). r.id) c.as_slice-rows.result.now c.loop-k.k c.index-rows-k.result c.requires.order rows_are c.loop-k-test.true c.index-rows-k.is in
    let within = rw (← e) at (replicas_of-within c.args.case.now c.args.book.now.lists c.index-rows-k.result.id) in
    omega (arith, within k d l, c.requires.belongs.lists_belong.one_each)

pub returns-in-Some : goal.returns-in-Some
returns-in-Some g c =
    let case = c.args.case.now in
    let lists = c.args.book.now.lists in
    let rows_are : map (λ (r : Row). r.id) c.as_slice-rows.result.now ≡ ids_of c.args.case.now.brokers = rw c.as_slice-rows.ensures.value c.requires.scan.brokers_are in
    let e = c.row-others.ensures ∙ order-row case lists c.args.order.now (λ (r : Row). r.id) c.as_slice-rows.result.now c.loop-k.k c.index-rows-k.result c.requires.order rows_are c.loop-k-test.true c.index-rows-k.is in
    rw (by-rows (λ (r : Row). r.id) (λ (b : ℕ). map (λ q. Swap c.args.part c.args.source.now.id q b) (replicas_of case lists b)) c.as_slice-rows.result.now case.brokers rows_are)
    (first-flat (Step case (map (λ x. g.G.Goal.meaning x case) c.args.earlier.now) (g.G.Goal.meaning c.args.goal.now case) lists) (λ (r : Row). map (λ q. Swap c.args.part c.args.source.now.id q r.id) (replicas_of case lists r.id))
    c.as_slice-rows.result.now c.loop-k.k c.index-rows-k.result c.in-Some.action c.loop-k-test.true c.loop-k.invariant
    (rw c.index-rows-k.is at (rw (c.in-Some.is, e) at c.first_with-found.ensures)))

pub loop-k-preserved : goal.loop-k-preserved
loop-k-preserved g c =
    let case = c.args.case.now in
    let lists = c.args.book.now.lists in
    let rows_are : map (λ (r : Row). r.id) c.as_slice-rows.result.now ≡ ids_of c.args.case.now.brokers = rw c.as_slice-rows.ensures.value c.requires.scan.brokers_are in
    let e = c.row-others.ensures ∙ order-row case lists c.args.order.now (λ (r : Row). r.id) c.as_slice-rows.result.now c.loop-k.k c.index-rows-k.result c.requires.order rows_are c.loop-k-test.true c.index-rows-k.is in
    All-more (λ (r : Row). NoStep case (map (λ x. g.G.Goal.meaning x case) c.args.earlier.now) (g.G.Goal.meaning c.args.goal.now case) lists (map (λ q. Swap c.args.part c.args.source.now.id q r.id) (replicas_of case lists r.id)))
    c.as_slice-rows.result.now c.loop-k.k c.index-rows-k.result c.loop-k-test.true c.loop-k.invariant
    (rw c.index-rows-k.is at (rw (c.in_default.is, e) at c.first_with-found.ensures))

pub returns : goal.returns
returns g c =
    let case = c.args.case.now in
    let lists = c.args.book.now.lists in
    let rows_are : map (λ (r : Row). r.id) c.as_slice-rows.result.now ≡ ids_of c.args.case.now.brokers = rw c.as_slice-rows.ensures.value c.requires.scan.brokers_are in
    rw (by-rows (λ (r : Row). r.id) (λ (b : ℕ). map (λ q. Swap c.args.part c.args.source.now.id q b) (replicas_of case lists b)) c.as_slice-rows.result.now case.brokers rows_are)
    (none-flat (Step case (map (λ x. g.G.Goal.meaning x case) c.args.earlier.now) (g.G.Goal.meaning c.args.goal.now case) lists) (λ (r : Row). map (λ q. Swap c.args.part c.args.source.now.id q r.id) (replicas_of case lists r.id))
    c.as_slice-rows.result.now (rw (take_all c.loop-k.k c.as_slice-rows.result.now c.loop-k-test.false) at c.loop-k.invariant))

pub returns-then-not-may_serve : goal.returns-then-not-may_serve
returns-then-not-may_serve g c =
    let case = c.args.case.now in
    let lists = c.args.book.now.lists in
    let P = Step case (map (λ x. g.G.Goal.meaning x case) c.args.earlier.now) (g.G.Goal.meaning c.args.goal.now case) lists in
    none-flat P (λ (y : Broker). map (λ q. Swap c.args.part c.args.source.now.id q y.id) (replicas_of case lists y.id)) case.brokers
    (λ k y l. All-map (λ x. P x → ⊥) (λ (q : ℕ). Swap c.args.part c.args.source.now.id q (get_or case.brokers k y).id) (replicas_of case lists (get_or case.brokers k y).id)
    (λ j d m s. c.if-not-may_serve.ensures refl (get_or (replicas_of case lists (get_or case.brokers k y).id) j d) (get_or case.brokers k y).id s))
