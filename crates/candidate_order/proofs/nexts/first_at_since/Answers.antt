use Rattle.std.proofs.Common.{◌≡◌, arith, get_or}
use Rattle.candidate_order.proofs.RestLemmas.{read}
use Rattle.candidate_order.proofs.nexts.first_at_since.Goals as goal

pub returns-then-index-since : goal.returns-then-index-since
returns-then-index-since g c =
    let parts = c.args.scan.now.rests.parts.items in
    let p = c.args.part in
    let at : c.index.result.now ≡ get_or parts p 0 = read parts p c.index.result.now (omega (arith, c.requires.part, c.requires.scan.rests_are.part_each)) c.index.ensures in
    c.requires.since (omega (arith, at, c.if-index-since.true))
