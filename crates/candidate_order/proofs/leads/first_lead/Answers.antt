use Rattle.std.proofs.Common.{map, ℕ, get_or}
use Rattle.std.proofs.lemmas.Bool.{false≢true}
use Rattle.std.proofs.lemmas.List.{take_all}
use Rattle.std.proofs.lemmas.List.Elements.{All-more, All-map}
use Rattle.std.proofs.Common.{refl}
use Rattle.plan_terms.proofs.EffectLemmas.{fits-legal, fits-Lead}
use Rattle.plan_terms.specs.Cluster.{list_of}
use Rattle.plan_terms.specs.declared.cluster.Broker.{Broker}
use Rattle.plan_terms.specs.Trace.{Step}
use Rattle.plan_terms.specs.declared.actions.Action.TheVariants.{Lead}
use Rattle.candidate_order.proofs.Firsts.{first-at}
use Rattle.std.proofs.Common.{◌∙◌}
use Rattle.candidate_order.proofs.LeadLemmas.{All-has, leads-rows, lead-outs, lead-backs}
use Rattle.candidate_order.specs.declared.kept.Row.{Row}
use Rattle.candidate_order.proofs.leads.first_lead.Goals as goal

pub returns-then-trade_serves : goal.returns-then-trade_serves
returns-then-trade_serves g c =
    let case = c.args.case.now in
    let lists = c.args.book.now.lists in
    rw (leads-rows (λ (r : Row). r.id) c.as_slice-rows.result.now case c.args.part (rw c.as_slice-rows.ensures.value c.requires.scan.brokers_are))
    (first-at (Step case (map (λ x. g.G.Goal.meaning x case) c.args.earlier.now) (g.G.Goal.meaning c.args.goal.now case) lists) (λ (r : Row). Lead c.args.part r.id) c.as_slice-rows.result.now c.loop-row.row-index c.row-item.result
    c.loop-row-test.true c.loop-row.invariant c.row-item.is (c.if-trade_serves.ensures.0 refl))

pub loop-row-preserved : goal.loop-row-preserved
loop-row-preserved g c =
    let case = c.args.case.now in
    let lists = c.args.book.now.lists in
    let no : Step case (map (λ x. g.G.Goal.meaning x case) c.args.earlier.now) (g.G.Goal.meaning c.args.goal.now case) lists (Lead c.args.part c.row-item.result.id) → ⊥ =
    λ s. false≢true (c.if-trade_serves.ensures.1 s) in
    All-more (λ (r : Row). Step case (map (λ x. g.G.Goal.meaning x case) c.args.earlier.now) (g.G.Goal.meaning c.args.goal.now case) lists (Lead c.args.part r.id) → ⊥)
    c.as_slice-rows.result.now c.loop-row.row-index c.row-item.result c.loop-row-test.true c.loop-row.invariant
    (rw c.row-item.is at no)

pub returns : goal.returns
returns g c =
    let case = c.args.case.now in
    let lists = c.args.book.now.lists in
    rw (leads-rows (λ (r : Row). r.id) c.as_slice-rows.result.now case c.args.part (rw c.as_slice-rows.ensures.value c.requires.scan.brokers_are))
    (All-map (λ a. Step case (map (λ x. g.G.Goal.meaning x case) c.args.earlier.now) (g.G.Goal.meaning c.args.goal.now case) lists a → ⊥) (λ (r : Row). Lead c.args.part r.id) c.as_slice-rows.result.now
    (rw (take_all c.loop-row.row-index c.as_slice-rows.result.now c.loop-row-test.false) at c.loop-row.invariant))

pub trade_serves-requires-clause-outs : goal.trade_serves-requires-clause-outs
trade_serves-requires-clause-outs g c = c.column-outs.ensures ∙ lead-outs g.G.Goal.weighs c.args.case.now.parts c.args.book.now.lists c.args.part c.row-item.result.id c.args.earlier.now

pub trade_serves-requires-clause-backs : goal.trade_serves-requires-clause-backs
trade_serves-requires-clause-backs g c = c.column-backs.ensures ∙ lead-backs g.G.Goal.weighs c.args.case.now.parts c.args.book.now.lists c.args.part c.row-item.result.id c.args.earlier.now

pub returns-then-not-some_lead_serves : goal.returns-then-not-some_lead_serves
returns-then-not-some_lead_serves g c =
    let case = c.args.case.now in
    let lists = c.args.book.now.lists in
    let p = c.args.part in
    All-map (λ a. Step case (map (λ x. g.G.Goal.meaning x case) c.args.earlier.now) (g.G.Goal.meaning c.args.goal.now case) lists a → ⊥) (λ (y : Broker). Lead p y.id) case.brokers
    (λ k y l s.
    let b = (get_or case.brokers k y).id in
    All-has (λ (z : ℕ). Step case (map (λ x. g.G.Goal.meaning x case) c.args.earlier.now) (g.G.Goal.meaning c.args.goal.now case) lists (Lead p z) → ⊥) (list_of lists p) b
    (c.if-not-some_lead_serves.ensures refl) (fits-Lead lists p b (fits-legal case lists (Lead p b) s.legal)).member s)
