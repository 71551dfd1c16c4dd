use Rattle.std.proofs.Common.{◌∙◌, ap}
use Rattle.core_cases.specs.Index.{place_behind, place_in}
use Rattle.core_cases.proofs.index.PartIndex.place.Goals as goal

pub returns-in_err-topic : goal.returns-in_err-topic
returns-in_err-topic c = λ parts h.
    c.from_residual.ensures ∙ ap (place_behind (λ t. place_in c.args.self.now.places t c.args.number)) c.in_err-topic.ensures.value ∙ h.finds c.args.topic.now c.args.number

pub returns : goal.returns
returns c = λ parts h.
    c.copied.ensures ∙ c.get-2.ensures.value ∙ ap (place_behind (λ t. place_in c.args.self.now.places t c.args.number)) c.in_ok-topic.ensures.value ∙ h.finds c.args.topic.now c.args.number
