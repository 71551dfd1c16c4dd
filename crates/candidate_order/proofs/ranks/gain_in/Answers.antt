use Rattle.std.proofs.Common.{arith}
use Rattle.candidate_order.proofs.RankLemmas.{few-replicas, members-within}
use Rattle.candidate_order.proofs.ranks.gain_in.Goals as goal

pub put_in-requires-clause-within : goal.put_in-requires-clause-within
put_in-requires-clause-within c = λ k d l.
    omega (arith, members-within c.args.case.now c.args.book.now.lists c.args.broker c.args.row.now c.requires.row k d l, c.requires.belongs.lists_belong.one_each)

pub put_in-requires-clause-few : goal.put_in-requires-clause-few
put_in-requires-clause-few c =
    omega (arith, few-replicas c.args.case.now c.args.book.now.lists c.args.broker c.args.row.now c.requires.row, c.lists-lists.ensures.assignment.count_is)
