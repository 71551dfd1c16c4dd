use Rattle.goal_terms.proofs.VerdictLemmas.{lists-after, giver-same, fits-same, legal-same}
use Rattle.plan_terms.specs.Effect.{after}
use Rattle.goal_terms.proofs.laws.legality_stays.Goals as goal

pub returns : goal.returns
returns c = λ cluster lists x y apart.
    let same = lists-after lists x y apart in
    record {
      legal = legal-same cluster lists (after x lists) y same;
      fitting = fits-same lists (after x lists) y same;
      from = giver-same lists (after x lists) y same;
    }
