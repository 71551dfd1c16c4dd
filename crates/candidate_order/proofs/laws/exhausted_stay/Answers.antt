use Rattle.candidate_order.proofs.ExhaustLemmas.{exhausted-after, exhausted-more, before-passed}
use Rattle.candidate_order.proofs.laws.exhausted_stay.Goals as goal

pub returns : goal.returns
returns c = λ cluster earlier goal' lists st time. record {
  before = before-passed cluster earlier goal' lists st time;
  after = exhausted-after cluster earlier goal' lists st time;
  more = exhausted-more cluster earlier goal' lists st time;
}
