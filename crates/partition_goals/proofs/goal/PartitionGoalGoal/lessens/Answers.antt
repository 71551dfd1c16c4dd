use Rattle.std.proofs.Common.{ap}
use Rattle.plan_terms.specs.Effect.{after}
use Rattle.plan_terms.proofs.EffectLemmas.{fits-Move, fits-Lead, fits-Swap}
use Rattle.plan_terms.proofs.PartitionLemmas.{Lessens-one, Lessens-two}
use Rattle.partition_goals.proofs.goal.PartitionGoalGoal.lessens.Goals as goal

pub returns-in-Move : goal.returns-in-Move
returns-in-Move g c =
    Lessens-one (g.R.ListRule.hard c.args.self.now.rule) (g.R.ListRule.list_excess c.args.self.now.rule c.args.case.now) c.args.case.now c.args.book.now.lists c.requires.belongs.lists_belong c.args.action c.in-Move.part _ _ _
    (fits-Move _ _ _ _ (rw c.in-Move.is at c.requires.applies)).within
    (ap (λ a. after a c.args.book.now.lists) c.in-Move.is)
    (rw c.list-list.ensures at c.excess_with.ensures)
    (rw c.list-list.ensures at c.excess_of.ensures)

pub returns-in-Lead : goal.returns-in-Lead
returns-in-Lead g c =
    Lessens-one (g.R.ListRule.hard c.args.self.now.rule) (g.R.ListRule.list_excess c.args.self.now.rule c.args.case.now) c.args.case.now c.args.book.now.lists c.requires.belongs.lists_belong c.args.action c.in-Lead.part _ _ _
    (fits-Lead _ _ _ (rw c.in-Lead.is at c.requires.applies)).within
    (ap (λ a. after a c.args.book.now.lists) c.in-Lead.is)
    (rw c.list-list-in-Lead.ensures at c.excess_led_by.ensures)
    (rw c.list-list-in-Lead.ensures at c.excess_of-in-Lead.ensures)

pub returns-in-Swap : goal.returns-in-Swap
returns-in-Swap g c =
    let swap = fits-Swap _ _ _ _ _ (rw c.in-Swap.is at c.requires.applies) in
    Lessens-two (g.R.ListRule.hard c.args.self.now.rule) (g.R.ListRule.list_excess c.args.self.now.rule c.args.case.now) c.args.case.now c.args.book.now.lists c.requires.belongs.lists_belong c.args.action c.in-Swap.part c.in-Swap.other _ _ _ _ _ _
    swap.first swap.second swap.apart
    (ap (λ a. after a c.args.book.now.lists) c.in-Swap.is)
    (rw c.list-list-in-Swap.ensures at c.excess_with-one.ensures)
    (rw c.list-other_list.ensures at c.excess_with-two.ensures)
    (rw c.list-list-in-Swap.ensures at c.excess_of-before.ensures)
    (rw c.list-other_list.ensures at c.excess_of-other_before.ensures)
