use Rattle.std.proofs.Common.{◌≡◌, sym}
use Rattle.std.proofs.lemmas.List.{take_all}
use Rattle.std.proofs.lemmas.List.Elements.{All-more}
use Rattle.goal_terms.specs.declared.heat.Heat.TheVariants.{Cold}
use Rattle.candidate_order.specs.declared.kept.Row.{Row}
use Rattle.candidate_order.proofs.LookLemmas.{cold-is}
use Rattle.candidate_order.proofs.kept.all_cold.Goals as goal

pub loop-row-preserved : goal.loop-row-preserved
loop-row-preserved c =
    let cold : c.row-item.result.heat ≡ Cold = cold-is c.row-item.result.heat (sym c.if-not-is_cold.ensures) in
    All-more (λ (r : Row). r.heat ≡ Cold) c.args.rows.now c.loop-row.row-index c.row-item.result c.loop-row-test.true c.loop-row.invariant (rw c.row-item.is at cold)

pub returns : goal.returns
returns c = λ _. rw (take_all c.loop-row.row-index c.args.rows.now c.loop-row-test.false) at c.loop-row.invariant
