use Rattle.std.proofs.Common.{◌≡◌, ◌+◌, ◌/◌, arith}
use Rattle.task_index.proofs.Trees.{made-more}
use Rattle.task_index.proofs.flags.empty_levels.Goals as goal

pub loop-width-preserved : goal.loop-width-preserved
loop-width-preserved c =
    let half : c.div_ceil-width.result ≡ (c.loop-width.width + 1) / 2 = omega (arith, c.div_ceil-width.ensures) in
    rw (c.in_ok-push-2.ensures.items, c.in_ok-new-2.ensures) (made-more c.args.flags c.loop-width.width c.div_ceil-width.result c.loop-width.levels.items (omega arith) half c.loop-width.invariant)
