use Rattle.std.proofs.Common.{◌≡◌, ◌-◌, ◌+◌, ◌<◌, ℕ, Bool, List, [], length, get_or, arith, sym, ap, ◌∙◌, false, subst}
use Rattle.std.proofs.lemmas.List.{get_or_read}
use Rattle.task_index.specs.Trees.{level_at, flag_at}
use Rattle.task_index.proofs.Firsts.{IsFirst, first-step, none-first, is-first}
use Rattle.task_index.proofs.flags.FlagTree.first.Goals as goal

pub returns-then-not-flag : goal.returns-then-not-flag
returns-then-not-flag c =
    let levels : List (List Bool) = c.self.inside.levels.items in
    let top : c.len-top.result - 1 ≡ length levels - 1 = omega arith in
    let here : c.index.result.now ≡ level_at levels (c.len-top.result - 1) = get_or_read levels (c.len-top.result - 1) c.index.result.now (omega (arith, c.self.invariant.some)) c.index.ensures [] in
    let down : flag_at levels (length levels - 1) 0 ≡ false = ap (λ (h : ℕ). flag_at levels h 0) (sym top) ∙ ap (λ (level : List Bool). get_or level 0 false) (sym here) ∙ sym c.flag.ensures ∙ c.if-not-flag.true in
    rw (← c.self.view_is) (none-first levels c.self.invariant down)

pub loop-step-preserved : goal.loop-step-preserved
loop-step-preserved c =
    let levels : List (List Bool) = c.self.inside.levels.items in
    let h : ℕ = c.len-top.result - 1 - (c.loop-step.step + 1) in
    let next : c.len-top.result - 1 - c.loop-step.step ≡ h + 1 = omega arith in
    let same : c.len-top.result - 1 - 1 - c.loop-step.step ≡ h = omega arith in
    let read : c.index-in-loop-step.result.now ≡ level_at levels (c.len-top.result - 1 - 1 - c.loop-step.step) = get_or_read levels (c.len-top.result - 1 - 1 - c.loop-step.step) c.index-in-loop-step.result.now (omega arith) c.index-in-loop-step.ensures [] in
    let here : c.index-in-loop-step.result.now ≡ level_at levels h = read ∙ ap (level_at levels) same in
    let more : h + 1 < length levels = omega arith in
    rw (c.first_of_pair-place.ensures, here) (first-step levels h c.loop-step.place c.self.invariant more (subst (λ (g : ℕ). IsFirst levels g c.loop-step.place) next c.loop-step.invariant))

pub returns : goal.returns
returns c =
    let levels : List (List Bool) = c.self.inside.levels.items in
    let lowest : c.len-top.result - 1 - c.loop-step.step ≡ 0 = omega arith in
    rw (← c.self.view_is) (is-first levels c.loop-step.place (subst (λ (g : ℕ). IsFirst levels g c.loop-step.place) lowest c.loop-step.invariant))
