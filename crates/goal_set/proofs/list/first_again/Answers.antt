use Rattle.std.proofs.Common.{◌∙◌, sym, ap, take}
use Rattle.goal_set.specs.Read.{among}
use Rattle.goal_set.proofs.ReadLemmas.{first_again-here, first_again-next}
use Rattle.goal_set.proofs.list.first_again.Goals as goal

pub returns-then-is_among : goal.returns-then-is_among
returns-then-is_among c =
    let stands = ap (among (take c.loop-i.i c.args.names.now)) (sym c.as_str.ensures) ∙ sym c.is_among.ensures ∙ c.if-is_among.true in
    sym (sym c.loop-i.invariant ∙ first_again-here c.args.names.now c.loop-i.i c.index-names-i.result c.loop-i-test.true c.index-names-i.is stands)

pub loop-i-preserved : goal.loop-i-preserved
loop-i-preserved c =
    let new = ap (among (take c.loop-i.i c.args.names.now)) (sym c.as_str.ensures) ∙ sym c.is_among.ensures ∙ c.if-is_among.false in
    first_again-next c.args.names.now c.loop-i.i c.index-names-i.result c.loop-i-test.true c.index-names-i.is new ∙ c.loop-i.invariant
