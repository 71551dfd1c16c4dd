use Rattle.goal_terms.proofs.TopicLemmas.{topics-accept, accept-first, accept-second}
use Rattle.goal_terms.proofs.CaseLemmas.{distinct-case}
use Rattle.goal_terms.proofs.laws.touched_topics_accept.Goals as goal

pub returns : goal.returns
returns c = λ hard b cluster lists a case belongs fit.
    let ids = distinct-case cluster case in (
      (λ h. topics-accept hard b cluster lists ids belongs.one_each a fit h.0 h.1),
      (λ h. (accept-first hard b cluster lists ids belongs.one_each a fit h, accept-second hard b cluster lists ids belongs.one_each a fit h)),
    )
