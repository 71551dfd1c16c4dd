use Rattle.std.proofs.Common.{ℕ, ◌<◌, length, ap, sym, arith, ◌∙◌}
use Rattle.std.specs.Prelude.{Some, option_map}
use Rattle.plan_terms.specs.Cluster.{list_of}
use Rattle.factor_change.specs.Refused.{falls_short, reach}
use Rattle.factor_change.proofs.Least.{first_place, no_place}
use Rattle.factor_change.proofs.refuse.first_short.Goals as goal

pub returns-then-falls_short : goal.returns-then-falls_short
returns-then-falls_short c =
    let case = c.args.case.now in
    let lists = c.args.lists.now in
    let l : c.loop-part.part < length lists = rw c.len-part-end.ensures.value at c.loop-part-test.true in
    ap Some (c.reach.ensures.value ∙ ap (reach case) c.list.ensures)
    ∙ sym (ap (option_map (λ (p : ℕ). reach case (list_of lists p)))
    (first_place (falls_short case c.args.topics.now c.args.factor lists) (length lists) c.loop-part.part l (sym c.falls_short.ensures ∙ c.if-falls_short.true) c.loop-part.invariant))

pub returns : goal.returns
returns c =
    let case = c.args.case.now in
    let lists = c.args.lists.now in
    sym (ap (option_map (λ (p : ℕ). reach case (list_of lists p)))
    (no_place (falls_short case c.args.topics.now c.args.factor lists) (length lists) (λ j m. c.loop-part.invariant j (omega (arith, m, c.loop-part-test.false, c.len-part-end.ensures.value)))))
