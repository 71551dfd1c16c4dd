use Rattle.std.proofs.Common.{◌∙◌, Option, ap, is_some}
use Rattle.plan_terms.specs.declared.actions.Action.{Action}
use Rattle.rayon.proofs.ToStd.{answers-by_ref, filter_by_mask-find}
use Rattle.candidate_order.proofs.blocks.first_answer.Goals as goal

pub returns : goal.returns
returns g c =
    let done = c.find_first.ensures in
    let based = rw (c.map.ensures.base, c.with_min_len.ensures.base) at done.2.1 in
    let zipped = rw c.map.ensures.f at done.2.2 in
    let list = based.2 ∙ based.1 ∙ ap (λ it. it.slice.now) c.copied.ensures ∙ c.par_iter.ensures in
    let has = λ (o : Option Action). is_some o in
    (done.0, rw list at zipped, done.4 ∙ filter_by_mask-find has done.0 done.1 (answers-by_ref has done.0 done.1 done.3))
