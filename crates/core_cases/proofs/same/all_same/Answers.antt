use Rattle.std.proofs.Common.{◌∙◌, ◌+◌, ◌&&◌, sym, ap, arith, drop}
use Rattle.std.specs.Cmp.Lexicographic.{pointwise}
use Rattle.core_cases.proofs.Members.{pointwise-next, pointwise-end}
use Rattle.core_cases.proofs.same.all_same.Goals as goal

pub returns-then-not-is_same : goal.returns-then-not-is_same
returns-then-not-is_same g c =
    let rest = pointwise g.S.Same.same (drop (c.loop-place.place + 1) c.args.one.now) (drop (c.loop-place.place + 1) c.args.other.now) in
    sym (sym c.loop-place.invariant
    ∙ pointwise-next g.S.Same.same c.args.one.now c.args.other.now c.loop-place.place c.index-one-place.result c.index-other-place.result c.loop-place-test.true c.if-one-other.false c.index-one-place.is c.index-other-place.is
    ∙ ap (λ b. b && rest) (sym c.is_same.ensures ∙ c.if-not-is_same.true))

pub loop-place-preserved : goal.loop-place-preserved
loop-place-preserved g c =
    let rest = pointwise g.S.Same.same (drop (c.loop-place.place + 1) c.args.one.now) (drop (c.loop-place.place + 1) c.args.other.now) in
    sym (pointwise-next g.S.Same.same c.args.one.now c.args.other.now c.loop-place.place c.index-one-place.result c.index-other-place.result c.loop-place-test.true c.if-one-other.false c.index-one-place.is c.index-other-place.is
    ∙ ap (λ b. b && rest) (sym c.is_same.ensures ∙ c.if-not-is_same.false)) ∙ c.loop-place.invariant

pub returns : goal.returns
returns g c = sym (sym c.loop-place.invariant ∙ pointwise-end g.S.Same.same c.args.one.now c.args.other.now c.loop-place.place (omega (arith, c.loop-place.auto)) c.if-one-other.false)
