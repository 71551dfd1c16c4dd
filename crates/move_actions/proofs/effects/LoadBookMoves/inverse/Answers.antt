use Rattle.plan_terms.specs.declared.actions.Action.TheVariants.{Move, Lead, Swap}
use Rattle.plan_terms.proofs.InverseLemmas.{inverse-undoes, inverse-fits}
use Rattle.move_actions.proofs.effects.LoadBookMoves.inverse.Goals as goal

pub returns-in-Move-clause-undoes : goal.returns-in-Move-clause-undoes
returns-in-Move-clause-undoes c = rw c.in-Move.is (inverse-undoes c.args.self.now.lists c.lists-lists.ensures.assignment.each (Move c.in-Move.part c.in-Move.from c.in-Move.to) (rw c.in-Move.is at c.requires))

pub returns-in-Move-clause-applies : goal.returns-in-Move-clause-applies
returns-in-Move-clause-applies c = rw c.in-Move.is (inverse-fits c.args.self.now.lists c.lists-lists.ensures.assignment.each (Move c.in-Move.part c.in-Move.from c.in-Move.to) (rw c.in-Move.is at c.requires))

pub returns-in-Lead-clause-undoes : goal.returns-in-Lead-clause-undoes
returns-in-Lead-clause-undoes c = rw (c.in-Lead.is, c.list.ensures) (inverse-undoes c.args.self.now.lists c.lists-lists.ensures.assignment.each (Lead c.in-Lead.part c.in-Lead.to) (rw c.in-Lead.is at c.requires))

pub returns-in-Lead-clause-applies : goal.returns-in-Lead-clause-applies
returns-in-Lead-clause-applies c = rw (c.in-Lead.is, c.list.ensures) (inverse-fits c.args.self.now.lists c.lists-lists.ensures.assignment.each (Lead c.in-Lead.part c.in-Lead.to) (rw c.in-Lead.is at c.requires))

pub returns-in-Swap-clause-undoes : goal.returns-in-Swap-clause-undoes
returns-in-Swap-clause-undoes c = rw c.in-Swap.is (inverse-undoes c.args.self.now.lists c.lists-lists.ensures.assignment.each (Swap c.in-Swap.part c.in-Swap.from c.in-Swap.other c.in-Swap.to) (rw c.in-Swap.is at c.requires))

pub returns-in-Swap-clause-applies : goal.returns-in-Swap-clause-applies
returns-in-Swap-clause-applies c = rw c.in-Swap.is (inverse-fits c.args.self.now.lists c.lists-lists.ensures.assignment.each (Swap c.in-Swap.part c.in-Swap.from c.in-Swap.other c.in-Swap.to) (rw c.in-Swap.is at c.requires))
