use Rattle.std.proofs.Common.{map, string_bytes, arith}
use Rattle.cc_program.proofs.Crowds.{few_workers}
use Rattle.cc_program.proofs.Inserted.{links_counted}
use Rattle.cc_program.proofs.lives.asked_live.Goals as goal

pub copiers_before-requires : goal.copiers_before-requires
copiers_before-requires c =
    let few = few_workers (map string_bytes c.args.words.now) _ c.in_ok-request.ensures.ok in
    let same = links_counted c.in_ok-request.request.crew.serving in
    omega (arith, few.0, few.2, same)
