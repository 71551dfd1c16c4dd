use Rattle.goal_terms.proofs.CaseLemmas.{Limits-case}
use Rattle.goal_terms.proofs.VerdictLemmas.{broker-verdicts_stay, topic-verdicts_stay, least-verdicts_stay, partition-verdicts_stay}
use Rattle.goal_terms.proofs.laws.verdicts_stay.Goals as goal

pub returns : goal.returns
returns c = λ cluster lists case belongs.
    let limits = Limits-case cluster case in
    record {
      brokers = λ hard w b. broker-verdicts_stay hard w b cluster lists limits belongs;
      topics = λ hard r. topic-verdicts_stay hard r cluster lists limits belongs;
      least = least-verdicts_stay cluster lists limits belongs;
      partitions = λ hard f. partition-verdicts_stay hard f cluster lists;
    }
