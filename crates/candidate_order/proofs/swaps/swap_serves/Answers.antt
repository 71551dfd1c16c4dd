use Rattle.std.proofs.Common.{sym, arith}
use Rattle.std.proofs.lemmas.Bool.{false≢true}
use Rattle.plan_terms.proofs.EffectLemmas.{fits-legal}
use Rattle.plan_terms.specs.declared.actions.Action.TheVariants.{Swap}
use Rattle.candidate_order.proofs.SwapLemmas.{swap-rises, idle-swap}
use Rattle.candidate_order.proofs.swaps.swap_serves.Goals as goal

pub returns-then-part-other : goal.returns-then-part-other
returns-then-part-other g c = (
  λ t. absurd (false≢true t),
  λ s. absurd (omega (arith, swap-rises c.args.case.now c.args.book.now.lists c.args.part c.args.source.now.id c.args.other c.args.target.now.id s.legal)),
)

pub returns-then-not-may_swap : goal.returns-then-not-may_swap
returns-then-not-may_swap g c =
    let lists = c.args.book.now.lists in
    let case = c.args.case.now in
    let p = c.args.part in
    let q = c.args.other in
    let a = c.args.source.now.id in
    let b = c.args.target.now.id in (
      λ t. absurd (false≢true t),
      λ s. absurd (idle-swap (g.G.Goal.weighs c.args.goal.now) (g.G.Goal.meaning c.args.goal.now case) (g.G.Goal.heat_at c.args.goal.now case lists) case.parts lists
          (g.met.G.Goal.cold_pairs c.args.goal.now case lists c.requires.made_goal c.brokers-brokers.ensures.case c.requires.belongs.lists_belong)
          (g.met.G.Goal.idle_trades c.args.goal.now case lists c.requires.made_goal c.brokers-brokers.ensures.case c.requires.belongs.lists_belong)
          p a q b (fits-legal case lists (Swap p a q b) s.legal)
          (rw (← c.requires.own, ← c.requires.source.heat_is, ← c.requires.target.heat_is, ← c.list.ensures, ← c.leads-first.ensures, ← c.weight-back.ensures) (sym c.if-not-may_swap.ensures)) s.lessens),
    )
