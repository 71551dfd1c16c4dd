use Rattle.goal_terms.proofs.BrokerLemmas.{accepts-sides, sides-accepts}
use Rattle.goal_terms.proofs.CaseLemmas.{distinct-case}
use Rattle.goal_terms.proofs.laws.two_brokers_accept.Goals as goal

pub returns : goal.returns
returns c = λ hard w b cluster lists a case belongs fit. (
  (λ h. accepts-sides hard w b cluster lists (distinct-case cluster case) belongs.one_each a fit h.0 h.1),
  sides-accepts hard w b cluster lists (distinct-case cluster case) belongs.one_each a fit,
)
