use Rattle.std.proofs.Common.{length, arith}
use Rattle.candidate_order.specs.CandidateList.{disk_of}
use Rattle.candidate_order.proofs.RankLemmas.{few-replicas, members-within, taken-order, taken-within, taken-few, taken-none}
use Rattle.candidate_order.proofs.ranks.trade_in.Goals as goal

pub put_in-requires-clause-in_order : goal.put_in-requires-clause-in_order
put_in-requires-clause-in_order c =
    taken-order (disk_of c.args.case.now c.args.book.now.lists c.args.broker) c.args.gone c.args.row.now c.take_out.new.row c.take_out.ensures c.requires.row.in_order

pub put_in-requires-clause-within : goal.put_in-requires-clause-within
put_in-requires-clause-within c = λ k d l.
    omega (
      arith,
      taken-within (disk_of c.args.case.now c.args.book.now.lists c.args.broker) c.args.gone c.args.row.now c.take_out.new.row c.take_out.ensures (length c.args.book.now.lists)
          (members-within c.args.case.now c.args.book.now.lists c.args.broker c.args.row.now c.requires.row) k d l,
      c.requires.belongs.lists_belong.one_each,
    )

pub put_in-requires-clause-new : goal.put_in-requires-clause-new
put_in-requires-clause-new c =
    taken-none (disk_of c.args.case.now c.args.book.now.lists c.args.broker) c.args.gone c.args.row.now c.take_out.new.row c.take_out.ensures c.requires.row.in_order c.args.part c.requires.new

pub put_in-requires-clause-few : goal.put_in-requires-clause-few
put_in-requires-clause-few c =
    omega (
      arith,
      taken-few (disk_of c.args.case.now c.args.book.now.lists c.args.broker) c.args.gone c.args.row.now c.take_out.new.row c.take_out.ensures,
      few-replicas c.args.case.now c.args.book.now.lists c.args.broker c.args.row.now c.requires.row,
      c.lists-lists.ensures.assignment.count_is,
    )
