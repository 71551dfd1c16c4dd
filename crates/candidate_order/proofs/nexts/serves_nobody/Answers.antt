use Rattle.std.proofs.Common.{ℕ, map, get_or}
use Rattle.std.proofs.lemmas.Bool.{not-true}
use Rattle.std.proofs.lemmas.List.Elements.{All-map}
use Rattle.plan_terms.specs.Trace.{Step}
use Rattle.plan_terms.specs.declared.actions.Action.{Action}
use Rattle.plan_terms.specs.declared.actions.Action.TheVariants.{Swap}
use Rattle.plan_terms.specs.declared.cluster.Broker.{Broker}
use Rattle.candidate_order.specs.CandidateList.{replicas_of}
use Rattle.candidate_order.proofs.Firsts.{none-flat}
use Rattle.candidate_order.proofs.nexts.serves_nobody.Goals as goal

pub returns-in-Swaps : goal.returns-in-Swaps
returns-in-Swaps g c = λ t p.
    let case = c.args.case.now in
    let lists = c.args.book.now.lists in
    let a = c.args.source.now.id in
    let step : Action → Type 0 = Step case (map (λ x. g.G.Goal.meaning x case) c.args.earlier.now) (g.G.Goal.meaning c.args.goal.now case) lists in
    rw c.in-Swaps.is (none-flat step (λ (y : Broker). map (λ q. Swap p a q y.id) (replicas_of case lists y.id)) case.brokers
    (λ k y l. All-map (λ x. step x → ⊥) (λ (q : ℕ). Swap p a q (get_or case.brokers k y).id) (replicas_of case lists (get_or case.brokers k y).id)
    (λ j q m s. c.may_trade.ensures (not-true _ t) lists p (get_or (replicas_of case lists (get_or case.brokers k y).id) j q) (get_or case.brokers k y).id s.legal)))
