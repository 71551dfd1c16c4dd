use Rattle.std.proofs.Common.{◌∙◌, sym, get_or}
use Rattle.std.proofs.lemmas.Bool.{false≢true}
use Rattle.candidate_order.proofs.LookLemmas.{all-give}
use Rattle.candidate_order.proofs.looks.may_leave.Goals as goal

pub returns : goal.returns
returns g c = λ refused to fit accepted.
    let lists = c.args.book.now.lists in
    let case = c.args.case.now in
    false≢true (sym refused ∙ c.all_give.ensures.1 (all-give case.parts lists g.G.Goal.weighs (λ x. g.G.Goal.meaning x case) (λ x. g.G.Goal.room_at x case lists) c.args.part c.args.from to
    c.args.earlier.now c.args.weights.now c.args.givers.now
    (λ k d l. g.met.G.Goal.rooms_decide (get_or c.args.earlier.now k d) case lists (c.requires.made k d l) c.brokers-brokers.ensures.case c.requires.belongs.lists_belong)
    fit c.requires.weights c.requires.givers accepted))
