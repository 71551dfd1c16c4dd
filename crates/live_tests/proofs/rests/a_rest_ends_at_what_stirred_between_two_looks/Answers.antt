use Rattle.std.proofs.Common.{arith}
use Rattle.mover_workers.proofs.Placing.{grown_act}
use Rattle.live_tests.proofs.rests.a_rest_ends_at_what_stirred_between_two_looks.Goals as goal

-- none of these calls changes how many parts a pass has, but that which gives one away and that which takes it back
pub close-requires-clause-parts : goal.close-requires-clause-parts
close-requires-clause-parts g c =
    let file = c.in-Ok.turn.start.file in
    let work = grown_act file c.split-other.new.pass c.act.new.pass _ c.split-other.ensures.own.placed c.act.result c.act.ensures.made c.act.ensures.refused in
    let closed = grown_act file c.split-other.result c.act-2.new.pass _ c.split-other.ensures.new.placed c.act-2.result c.act-2.ensures.made c.act-2.ensures.refused in
    let job = grown_act file c.act.new.pass c.act-3.new.pass _ c.act.ensures.own.placed c.act-3.result c.act-3.ensures.made c.act-3.ensures.refused in
    let cut = c.split-other.ensures.cut in
    omega (arith, c.in-Ok.ensures.first.parts, cut.parts.0, cut.parts.1, work.parts, closed.parts, job.parts, c.rest.ensures.looked.parts, c.join.ensures.joined.parts)
