use Rattle.std.proofs.Common.{ℕ, cond, arith}
use Rattle.load_model.specs.declared.amounts.Amount.{Amount}
use Rattle.load_model.specs.Tables.{weight_at}
use Rattle.load_model.proofs.Tabled.{IsChanged-places, nothing_if}
use Rattle.load_model.proofs.table.Row.change.Goals as goal

pub returns : goal.returns
returns c =
    let weight : Amount → ℕ = λ kind. weight_at kind c.args.case.now.parts c.args.part c.args.first in
    IsChanged-places c.args.case.now.parts c.args.part c.topic-topic.result c.args.first (λ kind. cond c.args.gains 0 (weight kind)) (λ kind. cond c.args.gains (weight kind) 0)
    c.args.self.now c.loop-j.self c.change_kind-2.new.self c.change_kind-3.new.self c.requires.part c.topic-topic.ensures.within c.topic-topic.ensures.named c.topic-topic.ensures.only
    (λ kind z. nothing_if c.args.gains (weight kind) z) c.loop-j.invariant.long (λ j l. c.loop-j.invariant.done j (omega arith)) (λ j l. c.loop-j.invariant.rest j (omega arith))
    c.change_kind-2.ensures.long c.change_kind-2.ensures.here c.change_kind-2.ensures.others
    c.change_kind-3.ensures.long c.change_kind-3.ensures.here c.change_kind-3.ensures.others
