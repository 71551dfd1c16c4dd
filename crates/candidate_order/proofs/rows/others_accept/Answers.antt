use Rattle.std.proofs.Common.{refl}
use Rattle.std.proofs.lemmas.List.{take_all}
use Rattle.std.proofs.lemmas.List.Elements.{All-more}
use Rattle.std.specs.Prelude.{IfNone}
use Rattle.plan_terms.specs.Goal.{Accepts}
use Rattle.candidate_order.proofs.rows.others_accept.Goals as goal

pub loop-goal-preserved : goal.loop-goal-preserved
loop-goal-preserved g c =
    All-more (λ x. IfNone (g.G.Goal.weighs x) (Accepts (g.G.Goal.meaning x c.args.case.now) c.args.book.now.lists c.args.action))
    c.args.earlier.now c.loop-goal.goal-index c.goal-item.result c.loop-goal-test.true c.loop-goal.invariant
    (rw c.goal-item.is at (c.if-not-other_accepts.ensures.0 refl))

pub returns : goal.returns
returns g c = (λ _. rw (take_all c.loop-goal.goal-index c.args.earlier.now c.loop-goal-test.false) at c.loop-goal.invariant, λ _. refl)
