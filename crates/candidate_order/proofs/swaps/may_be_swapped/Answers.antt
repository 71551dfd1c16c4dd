use Rattle.std.proofs.Common.{refl, sym, ◌∙◌}
use Rattle.std.proofs.lemmas.Bool.{false≢true}
use Rattle.candidate_order.proofs.SwapLemmas.{swap-open}
use Rattle.candidate_order.proofs.swaps.may_be_swapped.Goals as goal

pub returns-then-not-may_trade : goal.returns-then-not-may_trade
returns-then-not-may_trade c = λ _ lists q b legal. c.if-not-may_trade.ensures refl lists c.args.part q b legal

pub returns : goal.returns
returns c = λ e lists q b legal. false≢true (sym e ∙ c.is_open.ensures ∙ swap-open c.args.case.now lists c.args.part c.args.from q b legal)
