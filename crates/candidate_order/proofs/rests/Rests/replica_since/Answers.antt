use Rattle.std.proofs.Common.{◌≡◌, arith, get_or}
use Rattle.candidate_order.proofs.RestLemmas.{no-targets, read}
use Rattle.candidate_order.proofs.rests.Rests.replica_since.Goals as goal

pub returns-then-index-since : goal.returns-then-index-since
returns-then-index-since g c = no-targets _ _ _ _ _

pub returns : goal.returns
returns g c =
    let parts = c.args.self.now.parts.items in
    let p = c.args.part in
    let at : c.index.result.now ≡ get_or parts p 0 = read parts p c.index.result.now (omega (arith, c.requires.part, c.requires.rests.part_each)) c.index.ensures in
    c.moves_since-since.ensures.each p c.requires.part (omega (arith, at, c.if-index-since.false))
