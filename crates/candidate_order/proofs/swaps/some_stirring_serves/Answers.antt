use Rattle.std.proofs.Common.{map, ℕ, refl}
use Rattle.std.specs.List.{All}
use Rattle.std.proofs.lemmas.List.{take_all}
use Rattle.std.proofs.lemmas.List.Elements.{All-more}
use Rattle.plan_terms.specs.Cluster.{list_of}
use Rattle.plan_terms.specs.Trace.{Step}
use Rattle.plan_terms.specs.declared.actions.Action.TheVariants.{Swap}
use Rattle.candidate_order.proofs.swaps.some_stirring_serves.Goals as goal

pub loop-other-preserved : goal.loop-other-preserved
loop-other-preserved g c =
    let case = c.args.case.now in
    let lists = c.args.book.now.lists in
    All-more (λ (q : ℕ). All (λ (b : ℕ). Step case (map (λ x. g.G.Goal.meaning x case) c.args.earlier.now) (g.G.Goal.meaning c.args.goal.now case) lists (Swap c.args.part c.args.source.now.id q b) → ⊥) (list_of lists q))
    c.as_slice-stirring.result.now c.loop-other.other-index 0 c.loop-other-test.true c.loop-other.invariant
    (c.if-some_of_serves.ensures refl)

pub returns : goal.returns
returns g c = λ _. rw (take_all c.loop-other.other-index c.as_slice-stirring.result.now c.loop-other-test.false, c.as_slice-stirring.ensures.value) at c.loop-other.invariant
