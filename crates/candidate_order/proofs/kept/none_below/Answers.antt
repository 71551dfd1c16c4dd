use Rattle.std.proofs.Common.{◌≡◌, sym, false}
use Rattle.std.proofs.lemmas.List.{take_all}
use Rattle.std.proofs.lemmas.List.Elements.{All-more}
use Rattle.candidate_order.specs.Looks.{is_below}
use Rattle.candidate_order.specs.declared.kept.Row.{Row}
use Rattle.candidate_order.proofs.kept.none_below.Goals as goal

pub loop-row-preserved : goal.loop-row-preserved
loop-row-preserved c =
    let cool : is_below c.row-item.result.heat ≡ false = sym c.if-is_below.ensures in
    All-more (λ (r : Row). is_below r.heat ≡ false) c.args.rows.now c.loop-row.row-index c.row-item.result c.loop-row-test.true c.loop-row.invariant (rw c.row-item.is at cool)

pub returns : goal.returns
returns c = λ _. rw (take_all c.loop-row.row-index c.args.rows.now c.loop-row-test.false) at c.loop-row.invariant
