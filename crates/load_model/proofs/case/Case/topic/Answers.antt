use Rattle.std.proofs.Common.{◌∙◌, sym}
use Rattle.std.proofs.lemmas.List.{get_or_read}
use Rattle.load_model.proofs.Numbered.{topics-once}
use Rattle.load_model.proofs.case.Case.topic.Goals as goal

pub returns-clause-only : goal.returns-clause-only
returns-clause-only c =
    let within = rw (← c.self.view_is) at c.requires in
    let place = c.self.invariant.places_are.each c.args.part within in
    rw (← c.self.view_is) (λ t l e. topics-once c.self.inside.parts.items t _ l place.within (e ∙ sym place.is) ∙ sym (get_or_read c.self.inside.topics.places.items c.args.part c.index.result.now (rw c.self.invariant.places_are.one_each within) c.index.ensures 0))
