use Rattle.std.proofs.Common.{◌*◌, ◌≡◌, ◌∙◌, ℕ, ◌+◌, length, ap, arith}
use Rattle.load_model.proofs.Tabled.{IsTable-none}
use Rattle.load_model.proofs.table.Table.empty.Goals as goal

pub returns : goal.returns
returns c =
    let ended : c.loop-broker._broker-index ≡ length c.args.case.now.brokers = rw (← c.brokers-broker-items.ensures.value) (omega (arith, c.loop-broker-test.false)) in
    IsTable-none c.args.case.now c.loop-broker.rows.items (c.loop-broker.invariant.one_each ∙ ended)
    (λ k l. c.loop-broker.invariant.long k (rw ended l) ∙ ap (λ (n : ℕ). 2 * n + 8) c.topics.ensures.value) (λ k j l. c.loop-broker.invariant.nothing k j (rw ended l))
