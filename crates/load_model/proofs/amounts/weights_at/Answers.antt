use Rattle.load_model.proofs.Sums.{LightPart-case, topic_test}
use Rattle.load_model.proofs.amounts.weights_at.Goals as goal

pub returns-in-Load-clause-small_lead : goal.returns-in-Load-clause-small_lead
returns-in-Load-clause-small_lead c = (LightPart-case c.args.case.now c.parts.result.now c.args.part c.index-parts-part.result c.parts.ensures.case c.parts.ensures.value c.requires.part).lead c.in-Load.res

pub returns-in-Load-clause-small_follow : goal.returns-in-Load-clause-small_follow
returns-in-Load-clause-small_follow c = (LightPart-case c.args.case.now c.parts.result.now c.args.part c.index-parts-part.result c.parts.ensures.case c.parts.ensures.value c.requires.part).follow c.in-Load.res

pub returns-in-PotentialOut-clause-small_lead : goal.returns-in-PotentialOut-clause-small_lead
returns-in-PotentialOut-clause-small_lead c =
    rw c.evenly-in-PotentialOut.ensures
    ((LightPart-case c.args.case.now c.parts.result.now c.args.part c.index-parts-part.result c.parts.ensures.case c.parts.ensures.value c.requires.part).lead 2)

pub returns-in-PotentialOut-clause-small_follow : goal.returns-in-PotentialOut-clause-small_follow
returns-in-PotentialOut-clause-small_follow c =
    rw c.evenly-in-PotentialOut.ensures
    ((LightPart-case c.args.case.now c.parts.result.now c.args.part c.index-parts-part.result c.parts.ensures.case c.parts.ensures.value c.requires.part).lead 2)

pub returns-in-LeaderIn-clause-small_lead : goal.returns-in-LeaderIn-clause-small_lead
returns-in-LeaderIn-clause-small_lead c =
    rw c.at_first-in-LeaderIn.ensures
    ((LightPart-case c.args.case.now c.parts.result.now c.args.part c.index-parts-part.result c.parts.ensures.case c.parts.ensures.value c.requires.part).lead 1)

pub returns-in-OfTopic-clause-lead : goal.returns-in-OfTopic-clause-lead
returns-in-OfTopic-clause-lead c =
    rw (c.evenly-in-OfTopic.ensures, c.one_if.ensures, c.in-OfTopic.is)
    (topic_test c.args.case.now.parts c.args.part c.topic.result c.in-OfTopic.topic c.requires.part (rw c.in-OfTopic.is at c.requires.range) c.topic.ensures.named c.topic.ensures.only)

pub returns-in-OfTopic-clause-follow : goal.returns-in-OfTopic-clause-follow
returns-in-OfTopic-clause-follow c =
    rw (c.evenly-in-OfTopic.ensures, c.one_if.ensures, c.in-OfTopic.is)
    (topic_test c.args.case.now.parts c.args.part c.topic.result c.in-OfTopic.topic c.requires.part (rw c.in-OfTopic.is at c.requires.range) c.topic.ensures.named c.topic.ensures.only)

pub returns-in-LedInTopic-clause-lead : goal.returns-in-LedInTopic-clause-lead
returns-in-LedInTopic-clause-lead c =
    rw (c.at_first-in-LedInTopic.ensures, c.one_if-in-LedInTopic.ensures, c.in-LedInTopic.is)
    (topic_test c.args.case.now.parts c.args.part c.topic-in-LedInTopic.result c.in-LedInTopic.topic c.requires.part (rw c.in-LedInTopic.is at c.requires.range) c.topic-in-LedInTopic.ensures.named c.topic-in-LedInTopic.ensures.only)
