use Rattle.std.proofs.Common.{map, get_or, sym}
use Rattle.std.proofs.lemmas.List.Elements.{All-map}
use Rattle.plan_terms.proofs.EffectLemmas.{fits-legal}
use Rattle.plan_terms.specs.Trace.{Step}
use Rattle.plan_terms.specs.declared.actions.Action.TheVariants.{Lead}
use Rattle.plan_terms.specs.declared.cluster.Broker.{Broker}
use Rattle.candidate_order.proofs.SwapLemmas.{idle-lead, nothing-trades}
use Rattle.candidate_order.proofs.nexts.first_lead_from.Goals as goal

pub returns-then-not-stirs : goal.returns-then-not-stirs
returns-then-not-stirs g c =
    let case = c.args.case.now in
    let lists = c.args.book.now.lists in
    let p = c.args.part in
    rw (← c.list.ensures, ← c.if-not-leads.ensures)
    (All-map (λ x. Step case (map (λ x. g.G.Goal.meaning x case) c.args.earlier.now) (g.G.Goal.meaning c.args.goal.now case) lists x → ⊥) (λ (y : Broker). Lead p y.id) case.brokers
    (λ k y l s. (g.met.G.Goal.still_parts c.args.goal.now case lists c.requires.made_goal c.brokers-brokers.ensures.case c.requires.belongs.lists_belong).none
    (Lead p (get_or case.brokers k y).id) (fits-legal case lists (Lead p (get_or case.brokers k y).id) s.legal) (sym c.if-not-stirs.ensures) s.lessens))

pub returns-then-trades_nothing : goal.returns-then-trades_nothing
returns-then-trades_nothing g c =
    let case = c.args.case.now in
    let lists = c.args.book.now.lists in
    let p = c.args.part in
    let a = c.args.source.now.id in
    let hot = g.G.Goal.heat_at c.args.goal.now case lists in
    rw (← c.list.ensures, ← c.if-not-leads.ensures)
    (All-map (λ x. Step case (map (λ x. g.G.Goal.meaning x case) c.args.earlier.now) (g.G.Goal.meaning c.args.goal.now case) lists x → ⊥) (λ (y : Broker). Lead p y.id) case.brokers
    (λ k y l s.
    let b = (get_or case.brokers k y).id in
    idle-lead (g.G.Goal.weighs c.args.goal.now) (g.G.Goal.meaning c.args.goal.now case) hot case.parts lists
    (g.met.G.Goal.cold_pairs c.args.goal.now case lists c.requires.made_goal c.brokers-brokers.ensures.case c.requires.belongs.lists_belong)
    (g.met.G.Goal.idle_trades c.args.goal.now case lists c.requires.made_goal c.brokers-brokers.ensures.case c.requires.belongs.lists_belong)
    p a b (fits-legal case lists (Lead p b) s.legal) (rw (← c.list.ensures) (sym c.if-not-leads.ensures))
    (rw (← c.weight-out.ensures, ← c.weight-back.ensures) (nothing-trades c.weight-out.result c.weight-back.result (hot a) (hot b) (sym c.if-trades_nothing.ensures))) s.lessens))
