use Rattle.std.proofs.Common.{le-ltb, ◌∙◌, sym}
use Rattle.plan_terms.proofs.LegalLemmas.{is_open-at, is_open-past}
use Rattle.move_actions.proofs.legality.is_open.Goals as goal

pub returns-then-place-parts : goal.returns-then-place-parts
returns-then-place-parts c = rw c.parts-parts.ensures.value (is_open-at _ _ _ (rw c.parts-parts.ensures.value at c.if-place-parts.true))

pub returns-else-place-parts : goal.returns-else-place-parts
returns-else-place-parts c =
    let past = rw c.parts-parts.ensures.value at c.if-place-parts.false in
    rw c.parts-parts.ensures.value (le-ltb _ _ past ∙ sym (is_open-past _ _ past))
