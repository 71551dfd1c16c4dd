use Rattle.std.proofs.Common.{◌≡◌, ◌<◌, arith, get_or, refl, true}
use Rattle.std.proofs.lemmas.List.{take_all}
use Rattle.std.proofs.lemmas.List.Elements.{All-more}
use Rattle.candidate_order.specs.Looks.{is_below}
use Rattle.candidate_order.specs.declared.kept.Row.{Row}
use Rattle.candidate_order.proofs.rows.since_unless_fresh.Goals as goal

pub is_fresh_below-requires : goal.is_fresh_below-requires
is_fresh_below-requires c = rw (← c.row-item.is) at (c.requires c.loop-row.row-index c.row-item.result c.loop-row-test.true)

pub returns-then-is_fresh_below : goal.returns-then-is_fresh_below
returns-then-is_fresh_below c = record { within = omega arith; none = λ known. absurd (omega arith) }

pub loop-row-preserved : goal.loop-row-preserved
loop-row-preserved c =
    let brokers = c.args.rests.now.brokers.items in
    let old : is_below c.row-item.result.heat ≡ true → get_or brokers c.row-item.result.place 0 < c.args.since = c.if-is_fresh_below.ensures refl in
    All-more (λ (r : Row). is_below r.heat ≡ true → get_or brokers r.place 0 < c.args.since) c.args.rows.now c.loop-row.row-index c.row-item.result c.loop-row-test.true c.loop-row.invariant
    (rw c.row-item.is at old)

pub returns : goal.returns
returns c = record { within = omega arith; none = λ _. rw (take_all c.loop-row.row-index c.args.rows.now c.loop-row-test.false) at c.loop-row.invariant }
