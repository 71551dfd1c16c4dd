use Rattle.std.proofs.Common.{arith}
use Rattle.goal_terms.proofs.BrokerLemmas.{measure-sides}
use Rattle.goal_terms.proofs.CaseLemmas.{distinct-case}
use Rattle.goal_terms.proofs.laws.two_brokers_lessen.Goals as goal

pub returns : goal.returns
returns c = λ hard w b cluster lists a case belongs fit.
    let same = measure-sides hard w b cluster lists (distinct-case cluster case) belongs.one_each a fit in
    ((λ h. omega arith), (λ h. omega arith))
