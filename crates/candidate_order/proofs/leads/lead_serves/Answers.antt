use Rattle.std.proofs.Common.{◌∙◌, sym}
use Rattle.std.proofs.lemmas.Bool.{false≢true}
use Rattle.plan_terms.proofs.EffectLemmas.{fits-legal}
use Rattle.plan_terms.specs.declared.actions.Action.TheVariants.{Lead}
use Rattle.candidate_order.proofs.LeadLemmas.{lead-outs, lead-backs}
use Rattle.candidate_order.proofs.SwapLemmas.{idle-lead}
use Rattle.candidate_order.proofs.leads.lead_serves.Goals as goal

pub returns-then-not-may_swap : goal.returns-then-not-may_swap
returns-then-not-may_swap g c =
    let lists = c.args.book.now.lists in
    let case = c.args.case.now in
    let p = c.args.part in
    let a = c.args.source.now.id in
    let b = c.args.to in (
      λ t. absurd (false≢true t),
      λ s. absurd (idle-lead (g.G.Goal.weighs c.args.goal.now) (g.G.Goal.meaning c.args.goal.now case) (g.G.Goal.heat_at c.args.goal.now case lists) case.parts lists
          (g.met.G.Goal.cold_pairs c.args.goal.now case lists c.requires.made_goal c.brokers-brokers.ensures.case c.requires.belongs.lists_belong)
          (g.met.G.Goal.idle_trades c.args.goal.now case lists c.requires.made_goal c.brokers-brokers.ensures.case c.requires.belongs.lists_belong)
          p a b (fits-legal case lists (Lead p b) s.legal) c.requires.first
          (rw (← c.requires.source.heat_is, ← c.row_of-target.ensures.id, ← c.row_of-target.ensures.row.heat_is, ← c.weight-out.ensures, ← c.weight-back.ensures) (sym c.if-not-may_swap.ensures)) s.lessens),
    )

pub trade_serves-requires-clause-outs : goal.trade_serves-requires-clause-outs
trade_serves-requires-clause-outs g c = c.column-outs.ensures ∙ lead-outs g.G.Goal.weighs c.args.case.now.parts c.args.book.now.lists c.args.part c.args.to c.args.earlier.now

pub trade_serves-requires-clause-backs : goal.trade_serves-requires-clause-backs
trade_serves-requires-clause-backs g c = c.column-backs.ensures ∙ lead-backs g.G.Goal.weighs c.args.case.now.parts c.args.book.now.lists c.args.part c.args.to c.args.earlier.now
