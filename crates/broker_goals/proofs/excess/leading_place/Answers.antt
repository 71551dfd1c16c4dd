use Rattle.std.proofs.Common.{◌∙◌, ◌+◌, drop, map, get_or, ap, sym, arith}
use Rattle.goal_terms.specs.LeastLeaders.{leading_brokers}
use Rattle.goal_terms.proofs.LeastLemmas.{leading-next, leading-pass, rest-at}
use Rattle.broker_goals.proofs.excess.leading_place.Goals as goal
use Rattle.broker_goals.proofs.excess.leading_place.Goals.{then-may_lead+else-left-eq0, else-may_lead}

pub loop-place-preserved : goal.loop-place-preserved
loop-place-preserved c =
    let b = c.index-brokers-place.result in
    let bs = c.args.brokers.now in
    let i = c.loop-place.place in
    elim c.if-may_lead.branch [
      | then-may_lead+else-left-eq0 w ↦
          let here = leading-next bs i b c.loop-place-test.true c.index-brokers-place.is (sym c.may_lead.ensures ∙ w.if-may_lead.true) in
          record {
            same = λ f. rest-at f b (leading_brokers (drop (i + 1) bs)) c.if-may_lead.left c.loop-place.left w.left-is w.if-left-eq0.false
                ∙ ap (λ xs. get_or (map f xs) c.loop-place.left 0) (sym here) ∙ c.loop-place.invariant.same f;
            within = omega (arith, rw here at c.loop-place.invariant.within, w.left-is);
          }
      | else-may_lead w ↦
          let here = leading-pass bs i b c.loop-place-test.true c.index-brokers-place.is (sym c.may_lead.ensures ∙ w.if-may_lead.false) in
          record {
            same = λ f. ap (λ n. get_or (map f (leading_brokers (drop (i + 1) bs))) n 0) w.left-is ∙ ap (λ xs. get_or (map f xs) c.loop-place.left 0) (sym here) ∙ c.loop-place.invariant.same f;
            within = rw (w.left-is, ← here) c.loop-place.invariant.within;
          }
    ]
