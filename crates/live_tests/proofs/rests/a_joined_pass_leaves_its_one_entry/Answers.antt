use Rattle.std.proofs.Common.{arith}
use Rattle.mover_workers.proofs.Placing.{grown_act}
use Rattle.live_tests.proofs.rests.a_joined_pass_leaves_its_one_entry.Goals as goal

-- the parts that one call gives away come back by another, and no event changes any
pub close-book-requires-clause-parts : goal.close-book-requires-clause-parts
close-book-requires-clause-parts g c =
    let file = c.in-Ok.turn.start.file in
    let closed = grown_act file c.split-other.result c.act.new.pass _ c.split-other.ensures.new.placed c.act.result c.act.ensures.made c.act.ensures.refused in
    let cut = c.split-other.ensures.cut in
    omega (arith, c.in-Ok.ensures.first.parts, cut.parts.0, cut.parts.1, closed.parts, c.join.ensures.joined.parts)
