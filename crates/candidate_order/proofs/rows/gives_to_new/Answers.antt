use Rattle.std.proofs.Common.{sym, ◌∙◌}
use Rattle.std.proofs.lemmas.Bool.{not-true}
use Rattle.candidate_order.proofs.LookLemmas.{move-gains}
use Rattle.candidate_order.proofs.rows.gives_to_new.Goals as goal

pub returns : goal.returns
returns c = λ e lists p b legal.
    move-gains c.args.case.now lists p c.args.from b legal (sym c.is_lost.ensures ∙ not-true _ e) (sym c.any_new.ensures ∙ c.if-not-any_new.false)
