use Rattle.std.proofs.Common.{◌≡◌, ◌∙◌, arith, get_or}
use Rattle.std.proofs.lemmas.Bool.{false≢true, true≢false}
use Rattle.candidate_order.proofs.RestLemmas.{read}
use Rattle.candidate_order.proofs.rows.is_fresh_below.Goals as goal

pub returns-then-not-is_below : goal.returns-then-not-is_below
returns-then-not-is_below c = λ _ below. absurd (false≢true (c.if-not-is_below.ensures ∙ below))

pub returns-then-index-since : goal.returns-then-index-since
returns-then-index-since c = λ _ _.
    let brokers = c.args.rests.now.brokers.items in
    let k = c.args.row.now.place in
    let at : c.index.result.now ≡ get_or brokers k 0 = read brokers k c.index.result.now c.requires c.index.ensures in
    omega (arith, at, c.if-index-since.true)

pub returns : goal.returns
returns c = λ e. absurd (true≢false e)
