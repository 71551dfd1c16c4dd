use Rattle.std.proofs.Common.{ℕ, map, refl, inl, inr, arith}
use Rattle.std.specs.List.{All}
use Rattle.std.proofs.lemmas.Bool.{cases_Bool}
use Rattle.plan_terms.proofs.EffectLemmas.{fits-legal, fits-Swap}
use Rattle.plan_terms.specs.Cluster.{list_of}
use Rattle.plan_terms.specs.Trace.{Step}
use Rattle.plan_terms.specs.declared.actions.Action.TheVariants.{Swap}
use Rattle.candidate_order.proofs.LeadLemmas.{All-has}
use Rattle.candidate_order.proofs.swaps.may_serve.Goals as goal

pub returns-then-not-may_be_swapped : goal.returns-then-not-may_be_swapped
returns-then-not-may_be_swapped g c = λ _ q b s. c.if-not-may_be_swapped.ensures refl c.args.book.now.lists q b s.legal

pub returns : goal.returns
returns g c = λ e q b s.
    let case = c.args.case.now in
    let lists = c.args.book.now.lists in
    let p = c.args.part in
    let a = c.args.source.now.id in
    let stirs = g.G.Goal.stirs_at c.args.goal.now case lists in
    let fit = fits-legal case lists (Swap p a q b) s.legal in
    let swap = fits-Swap lists p a q b fit in
    elim (cases_Bool (stirs q)) as (λ _. ⊥) [
      | inl t ↦
          let listed = c.requires.scan.stirring_are.each q (omega (arith, swap.second, c.requires.belongs.lists_belong.one_each)) t in
          All-has (λ (k : ℕ). Step case (map (λ x. g.G.Goal.meaning x case) c.args.earlier.now) (g.G.Goal.meaning c.args.goal.now case) lists (Swap p a q k) → ⊥) (list_of lists q) b
          (All-has (λ (z : ℕ). All (λ (k : ℕ). Step case (map (λ x. g.G.Goal.meaning x case) c.args.earlier.now) (g.G.Goal.meaning c.args.goal.now case) lists (Swap p a z k) → ⊥) (list_of lists z)) c.args.scan.now.stirring.items q (c.some_stirring_serves.ensures e) listed) swap.target s
      | inr f ↦
          (g.met.G.Goal.still_parts c.args.goal.now case lists c.requires.made_goal c.brokers-brokers.ensures.case c.requires.belongs.lists_belong).none
          (Swap p a q b) fit (rw (← c.if-stirs.ensures, f) refl) s.lessens
    ]
