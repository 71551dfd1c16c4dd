use Rattle.std.proofs.Common.{sym, ap, ◌∙◌}
use Rattle.std.proofs.lemmas.Bool.{false≢true, not-true}
use Rattle.plan_terms.specs.declared.cluster.Options.{Options}
use Rattle.candidate_order.proofs.SwapLemmas.{swap-live, swap-balances, swap-old}
use Rattle.candidate_order.proofs.swaps.may_trade.Goals as goal
use Rattle.candidate_order.proofs.swaps.may_trade.Goals.{then-options-via-then-options, then-options-via-else-options+then-any_new}

pub returns-then-options : goal.returns-then-options
returns-then-options c = λ _ lists p q b legal. elim c.then-options.branch [
  | then-options-via-then-options w ↦
      false≢true (sym (not-true _ (swap-balances c.args.case.now lists p c.args.from q b legal)) ∙ ap (λ (o : Options). o.leads_only) (sym c.options.ensures) ∙ w.if-options.true)
  | then-options-via-else-options+then-any_new w ↦
      false≢true (sym (not-true _ (swap-old c.args.case.now lists p c.args.from q b legal)) ∙ sym w.any_new.ensures ∙ w.if-any_new.true)
]

pub returns : goal.returns
returns c = λ e lists p q b legal. false≢true (sym e ∙ c.is_live.ensures ∙ swap-live c.args.case.now lists p c.args.from q b legal)
