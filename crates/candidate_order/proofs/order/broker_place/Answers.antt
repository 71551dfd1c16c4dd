use Rattle.std.proofs.Common.{◌≡◌, ℕ, Some, None, ◌∙◌, ap}
use Rattle.plan_terms.specs.Cluster.{id_at}
use Rattle.candidate_order.proofs.TurnLemmas.{known-place}
use Rattle.candidate_order.proofs.order.broker_place.Goals as goal

no_none : (k : ℕ) → None ≡ Some k → ⊥
no_none k e = cc

same_some : (i k : ℕ) → Some i ≡ Some k → i ≡ k
same_some i k e = cc

pub unreachable-requires : goal.unreachable-requires
unreachable-requires c =
    let k = known-place c.args.case.now.brokers c.args.broker c.requires in
    no_none k.0 (c.in-None.ensures.only k.0 k.1 k.2)

pub returns-clause-id : goal.returns-clause-id
returns-clause-id c =
    let k = known-place c.args.case.now.brokers c.args.broker c.requires in
    ap (id_at c.args.case.now.brokers) (same_some _ _ (c.in-Some.ensures.only k.0 k.1 k.2)) ∙ k.2
