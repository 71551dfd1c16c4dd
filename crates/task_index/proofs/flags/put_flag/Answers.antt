use Rattle.std.proofs.Common.{◌≡◌, ◌-◌, ◌+◌, ◌<◌, ◌/◌, ℕ, Bool, List, [], set, length, arith, subst}
use Rattle.std.proofs.lemmas.List.{get_or_read}
use Rattle.task_index.specs.Trees.{level_at, pair_at}
use Rattle.task_index.proofs.Writes.{ArePut, put-step, put_at}
use Rattle.task_index.proofs.flags.put_flag.Goals as goal

pub loop-height-preserved : goal.loop-height-preserved
loop-height-preserved c =
    let old : List (List Bool) = c.args.levels.now.items in
    let levels : List (List Bool) = c.loop-height.levels.items in
    let h : ℕ = c.loop-height.height in
    let at : ℕ = c.loop-height.at in
    let up : h - 1 + 1 ≡ h = omega arith in
    let more : h - 1 + 1 < length levels = omega arith in
    let below : c.index.result.now ≡ level_at levels (h - 1) = get_or_read levels (h - 1) c.index.result.now (omega arith) c.index.ensures [] in
    let here : c.index_mut-in-loop-height.result.now ≡ level_at levels h = get_or_read levels h c.index_mut-in-loop-height.result.now (omega arith) c.index_mut-in-loop-height.ensures.value [] in
    let is : c.pair-pair.result ≡ pair_at levels (h - 1) (at / 2) = rw (← below) c.pair-pair.ensures in
    let step = put-step old c.args.place c.args.flag (h - 1) at levels c.pair-pair.result c.requires.levels more is c.loop-height.invariant in
    let level : c.put-in-loop-height.new.self ≡ set (level_at levels h) (at / 2) c.pair-pair.result = rw (← here) c.put-in-loop-height.ensures in
    let down : h + 1 - 1 ≡ h = omega arith in
    rw (down, level) (subst (λ (g : ℕ). ArePut old c.args.place c.args.flag g (at / 2) (put_at levels g (at / 2) c.pair-pair.result)) up step)
