use Rattle.candidate_order.proofs.RankLemmas.{Grows}
use Rattle.candidate_order.proofs.order.row_for.Given as goal

abbrev pub invariant-loop-part : goal.invariant-loop-part
invariant-loop-part l = Grows l.case l.book.lists l.broker l.part l.row
