use Rattle.std.proofs.Common.{◌∙◌, sym}
use Rattle.factor_change.proofs.Least.{more_first, more_new}
use Rattle.factor_change.proofs.choice.better.Goals as goal

pub returns-in-None-clause-least : goal.returns-in-None-clause-least
returns-in-None-clause-least c = more_first c.args.case.now c.args.draft.now.lists.items c.args.list.now c.args.place c.candidate.result c.candidate.ensures (rw c.in-None.is at c.requires.least)

pub returns-in-Some-candidate-clause-least : goal.returns-in-Some-candidate-clause-least
returns-in-Some-candidate-clause-least c =
    more_new c.args.case.now c.args.draft.now.lists.items c.args.list.now c.args.place c.in-Some.old.place c.in-Some-candidate.new (rw c.in-Some-candidate.is at c.candidate-in-Some.ensures)
    (sym c.precedes.ensures ∙ c.if-not-precedes.false) (rw c.in-Some.is at c.requires.least)
