use Rattle.std.proofs.Common.{◌∙◌, List, ◌++◌, ◌∷◌, [], map, take, ap, sym}
use Rattle.std.specs.List.{enumerate_from}
use Rattle.core_terms.specs.Shows.{part_shown}
use Rattle.core_terms.specs.declared.shows.PartShown.{PartShown}
use Rattle.core_cases.proofs.Listed.{placed-more}
use Rattle.core_cases.proofs.shows.parts_shown.Goals as goal

pub loop-place-preserved : goal.loop-place-preserved
loop-place-preserved c =
    let front = map (part_shown c.args.exec.now) (enumerate_from 0 (take c.loop-place.place c.args.parts.now)) in
    c.in_ok-push.ensures.items ∙ ap (λ (xs : List PartShown). xs ++ c.in_ok-part_shown.field-0 ∷ []) c.loop-place.invariant
    ∙ ap (λ (s : PartShown). front ++ s ∷ []) c.in_ok-part_shown.ensures
    ∙ sym (placed-more (part_shown c.args.exec.now) c.args.parts.now c.loop-place.place c.index-parts-place.result c.loop-place-test.true c.index-parts-place.is)
