use Rattle.candidate_order.proofs.Firsts.{kept-first, none-kept, IsFirst-in_front, IsFirst-passed}
use Rattle.plan_terms.specs.Trace.{Step}
use Rattle.candidate_order.proofs.laws.filters_keep_the_first.Goals as goal

pub returns : goal.returns
returns c = λ cluster earlier goal' lists. record {
  first = λ keep xs a. kept-first (Step cluster earlier goal' lists) keep xs a;
  none = λ keep xs. none-kept (Step cluster earlier goal' lists) keep xs;
  in_front = λ xs ys a. IsFirst-in_front (Step cluster earlier goal' lists) xs ys a;
  passed = λ xs ys a. IsFirst-passed (Step cluster earlier goal' lists) xs ys a;
}
