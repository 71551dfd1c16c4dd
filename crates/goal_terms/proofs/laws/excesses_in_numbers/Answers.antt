use Rattle.std.proofs.Common.{arith}
use Rattle.goal_terms.specs.PerBroker.{bound_excess}
use Rattle.goal_terms.proofs.laws.excesses_in_numbers.Goals as goal

pub returns : goal.returns
unfolding bound_excess
returns c = record {
  few = λ most all q x. omega arith;
  capacity = λ ratio r all q x. omega arith;
  shares = λ ratio n all q x. omega arith;
  near = λ ratio r t all q x. omega arith;
  below = λ ratio r t all q x. omega arith;
}
