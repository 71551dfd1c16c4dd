use Rattle.std.proofs.Common.{◌∙◌, length, sym, ap, arith}
use Rattle.plan_terms.specs.Cluster.{has, leads}
use Rattle.goal_terms.specs.Quantity.{part_weight, load_weights}
use Rattle.candidate_order.proofs.RankLemmas.{grows-within, grows-skip, grows-put}
use Rattle.candidate_order.proofs.order.row_for.Goals as goal
use Rattle.candidate_order.proofs.order.row_for.Goals.{then-has, else-has}

pub put_in-requires-clause-within : goal.put_in-requires-clause-within
put_in-requires-clause-within c = λ k d l.
    omega (arith, grows-within c.args.case.now c.args.book.now.lists c.args.broker c.loop-part.part c.loop-part.row c.loop-part.invariant k d l, c.loop-part-test.true, ap length c.lists.ensures.value, c.requires.lists_belong.one_each)

pub loop-part-preserved : goal.loop-part-preserved
loop-part-preserved c =
    let case = c.args.case.now in
    let lists = c.args.book.now.lists in
    let b = c.args.broker in
    let p = c.loop-part.part in
    elim c.if-has.branch [
      | then-has w ↦
          rw w.row-is
          (grows-put case lists b p c.loop-part.row c.loop-part.invariant (ap (λ l. has l b) (sym c.list-list.ensures) ∙ sym w.if-has.ensures) w.disk-weight.result
          (w.disk-weight.ensures ∙ ap (part_weight (load_weights 3) case.parts p) (w.leads.ensures ∙ ap (λ l. leads l b) c.list-list.ensures)) w.put_in.new.row w.put_in.ensures)
      | else-has w ↦ rw w.row-is (grows-skip case lists b p c.loop-part.row c.loop-part.invariant (ap (λ l. has l b) (sym c.list-list.ensures) ∙ sym w.if-has.ensures))
    ]
