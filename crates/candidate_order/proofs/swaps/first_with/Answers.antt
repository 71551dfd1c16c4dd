use Rattle.std.proofs.Common.{ℕ, map, get_or, refl, sym}
use Rattle.std.proofs.lemmas.Bool.{false≢true}
use Rattle.std.proofs.lemmas.List.{take_all}
use Rattle.std.proofs.lemmas.List.Elements.{All-more, All-map}
use Rattle.plan_terms.proofs.EffectLemmas.{fits-legal}
use Rattle.plan_terms.specs.Trace.{Step}
use Rattle.plan_terms.specs.declared.actions.Action.TheVariants.{Swap}
use Rattle.candidate_order.proofs.Firsts.{first-place}
use Rattle.candidate_order.proofs.SwapLemmas.{idle-meet}
use Rattle.candidate_order.proofs.swaps.first_with.Goals as goal

pub returns-then-not-may_meet : goal.returns-then-not-may_meet
returns-then-not-may_meet g c =
    let case = c.args.case.now in
    let lists = c.args.book.now.lists in
    let p = c.args.part in
    let a = c.args.source.now.id in
    let b = c.args.target.now.id in
    All-map (λ x. Step case (map (λ x. g.G.Goal.meaning x case) c.args.earlier.now) (g.G.Goal.meaning c.args.goal.now case) lists x → ⊥) (λ q. Swap p a q b) c.args.others.now
    (λ k d l s. idle-meet (g.G.Goal.weighs c.args.goal.now) (g.G.Goal.meaning c.args.goal.now case) (g.G.Goal.heat_at c.args.goal.now case lists) case.parts lists
    (g.met.G.Goal.cold_pairs c.args.goal.now case lists c.requires.made_goal c.brokers-brokers.ensures.case c.requires.belongs.lists_belong)
    (g.met.G.Goal.idle_trades c.args.goal.now case lists c.requires.made_goal c.brokers-brokers.ensures.case c.requires.belongs.lists_belong)
    p a (get_or c.args.others.now k d) b (fits-legal case lists (Swap p a (get_or c.args.others.now k d) b) s.legal)
    (rw (← c.requires.own, ← c.requires.source.heat_is, ← c.requires.target.heat_is) (sym c.if-not-may_meet.ensures)) s.lessens)

pub returns-then-swap_serves : goal.returns-then-swap_serves
returns-then-swap_serves g c =
    let case = c.args.case.now in
    let lists = c.args.book.now.lists in
    first-place (Step case (map (λ x. g.G.Goal.meaning x case) c.args.earlier.now) (g.G.Goal.meaning c.args.goal.now case) lists) (λ (q : ℕ). Swap c.args.part c.args.source.now.id q c.args.target.now.id) c.args.others.now
    c.loop-other.other-index 0 c.loop-other-test.true c.loop-other.invariant (c.if-swap_serves.ensures.0 refl)

pub loop-other-preserved : goal.loop-other-preserved
loop-other-preserved g c =
    let case = c.args.case.now in
    let lists = c.args.book.now.lists in
    All-more (λ (q : ℕ). Step case (map (λ x. g.G.Goal.meaning x case) c.args.earlier.now) (g.G.Goal.meaning c.args.goal.now case) lists (Swap c.args.part c.args.source.now.id q c.args.target.now.id) → ⊥)
    c.args.others.now c.loop-other.other-index 0 c.loop-other-test.true c.loop-other.invariant
    (λ s. false≢true (c.if-swap_serves.ensures.1 s))

pub returns : goal.returns
returns g c =
    let case = c.args.case.now in
    let lists = c.args.book.now.lists in
    All-map (λ a. Step case (map (λ x. g.G.Goal.meaning x case) c.args.earlier.now) (g.G.Goal.meaning c.args.goal.now case) lists a → ⊥) (λ (q : ℕ). Swap c.args.part c.args.source.now.id q c.args.target.now.id) c.args.others.now
    (rw (take_all c.loop-other.other-index c.args.others.now c.loop-other-test.false) at c.loop-other.invariant)
