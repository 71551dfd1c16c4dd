use Rattle.std.proofs.Common.{arith}
use Rattle.plan_terms.proofs.FaultLemmas.{WithinLimits-faultless}
use Rattle.load_model.proofs.case.Case.topics.Goals as goal

pub returns-clause-few : goal.returns-clause-few
returns-clause-few c = omega (arith, c.self.invariant.places_are.count_is, (WithinLimits-faultless _ _ c.self.invariant.case_is.faultless).few_topics)
