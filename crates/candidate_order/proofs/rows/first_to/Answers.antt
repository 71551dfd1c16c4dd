use Rattle.std.proofs.Common.{refl, map, get_or}
use Rattle.std.proofs.lemmas.Bool.{false≢true}
use Rattle.std.proofs.lemmas.List.{take_all}
use Rattle.std.proofs.lemmas.List.Elements.{All-more, All-map}
use Rattle.plan_terms.proofs.EffectLemmas.{fits-legal}
use Rattle.plan_terms.specs.Trace.{Step}
use Rattle.plan_terms.specs.declared.actions.Action.TheVariants.{Move}
use Rattle.candidate_order.proofs.Firsts.{first-at}
use Rattle.candidate_order.specs.declared.kept.Row.{Row}
use Rattle.candidate_order.proofs.rows.first_to.Goals as goal

pub returns-then-not-may_leave : goal.returns-then-not-may_leave
returns-then-not-may_leave g c =
    let case = c.args.case.now in
    let lists = c.args.book.now.lists in
    All-map (λ a. Step case (map (λ x. g.G.Goal.meaning x case) c.args.earlier.now) (g.G.Goal.meaning c.args.goal.now case) lists a → ⊥) (λ (r : Row). Move c.args.part c.args.source.now.id r.id) c.args.rows.now
    (λ k r l s. c.if-not-may_leave.ensures refl (get_or c.args.rows.now k r).id (fits-legal case lists (Move c.args.part c.args.source.now.id (get_or c.args.rows.now k r).id) s.legal) s.accepted)

pub returns-then-fresh_serves : goal.returns-then-fresh_serves
returns-then-fresh_serves g c =
    let case = c.args.case.now in
    let lists = c.args.book.now.lists in
    first-at (Step case (map (λ x. g.G.Goal.meaning x case) c.args.earlier.now) (g.G.Goal.meaning c.args.goal.now case) lists) (λ (r : Row). Move c.args.part c.args.source.now.id r.id) c.args.rows.now c.loop-row.row-index c.row-item.result
    c.loop-row-test.true c.loop-row.invariant c.row-item.is (c.if-fresh_serves.ensures.0 refl)

pub loop-row-preserved : goal.loop-row-preserved
loop-row-preserved g c =
    let case = c.args.case.now in
    let lists = c.args.book.now.lists in
    let no : Step case (map (λ x. g.G.Goal.meaning x case) c.args.earlier.now) (g.G.Goal.meaning c.args.goal.now case) lists (Move c.args.part c.args.source.now.id c.row-item.result.id) → ⊥ =
    λ s. false≢true (c.if-fresh_serves.ensures.1 s) in
    All-more (λ (r : Row). Step case (map (λ x. g.G.Goal.meaning x case) c.args.earlier.now) (g.G.Goal.meaning c.args.goal.now case) lists (Move c.args.part c.args.source.now.id r.id) → ⊥)
    c.args.rows.now c.loop-row.row-index c.row-item.result c.loop-row-test.true c.loop-row.invariant
    (rw c.row-item.is at no)

pub returns : goal.returns
returns g c =
    let case = c.args.case.now in
    let lists = c.args.book.now.lists in
    All-map (λ a. Step case (map (λ x. g.G.Goal.meaning x case) c.args.earlier.now) (g.G.Goal.meaning c.args.goal.now case) lists a → ⊥) (λ (r : Row). Move c.args.part c.args.source.now.id r.id) c.args.rows.now
    (rw (take_all c.loop-row.row-index c.args.rows.now c.loop-row-test.false) at c.loop-row.invariant)
