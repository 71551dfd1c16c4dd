use Rattle.goal_terms.proofs.BandLemmas.{at_most-small, within_capacity-small, even-small, near_use-small, below_use-small}
use Rattle.goal_terms.proofs.CaseLemmas.{Limits-case}
use Rattle.goal_terms.proofs.laws.bounds_are_small.Goals as goal

pub returns : goal.returns
returns c = record {
  few = at_most-small;
  capacity = within_capacity-small;
  shares = even-small;
  near = λ ratio r cluster h case. near_use-small ratio r cluster h (Limits-case cluster case);
  below = λ ratio r cluster h case. below_use-small ratio r cluster h (Limits-case cluster case);
}
