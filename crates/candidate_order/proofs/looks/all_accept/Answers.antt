use Rattle.std.proofs.Common.{refl}
use Rattle.std.proofs.lemmas.Bool.{false≢true}
use Rattle.plan_terms.proofs.Runs.{AllAccept-none, AllAccept-more, AllAccept-all, AllAccept-at}
use Rattle.candidate_order.proofs.looks.all_accept.Goals as goal

pub loop-goal-init : goal.loop-goal-init
loop-goal-init g c = AllAccept-none (λ x. g.G.Goal.meaning x c.args.case.now) c.args.earlier.now c.args.book.now.lists c.args.action

pub returns-then-not-accepts : goal.returns-then-not-accepts
returns-then-not-accepts g c = (
  λ t. absurd (false≢true t),
  λ h. c.if-not-accepts.ensures.1 (rw (← c.goal-item.is) at (AllAccept-at (λ x. g.G.Goal.meaning x c.args.case.now) c.args.earlier.now c.args.book.now.lists c.args.action c.loop-goal.goal-index c.goal-item.result c.loop-goal-test.true h)),
)

pub loop-goal-preserved : goal.loop-goal-preserved
loop-goal-preserved g c =
    AllAccept-more (λ x. g.G.Goal.meaning x c.args.case.now) c.args.earlier.now c.args.book.now.lists c.args.action c.loop-goal.goal-index c.goal-item.result c.loop-goal-test.true c.loop-goal.invariant
    (rw c.goal-item.is at (c.if-not-accepts.ensures.0 refl))

pub returns : goal.returns
returns g c = (λ _. AllAccept-all (λ x. g.G.Goal.meaning x c.args.case.now) c.args.earlier.now c.args.book.now.lists c.args.action c.loop-goal.goal-index c.loop-goal-test.false c.loop-goal.invariant, λ _. refl)
