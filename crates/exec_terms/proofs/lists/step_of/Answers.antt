use Rattle.std.proofs.Common.{◌≡◌, ◌+◌, false, true, drop, get_or, sym, ◌∙◌}
use Rattle.plan_terms.specs.Change.{added}
use Rattle.plan_terms.specs.Cluster.{has}
use Rattle.exec_terms.proofs.Copies.{added_more, added_skips, copies_here, copies_later}
use Rattle.exec_terms.proofs.lists.step_of.Goals as goal
use Rattle.exec_terms.proofs.lists.step_of.Goals.{then-not-has+else-left-chunks, else-not-has}

pub returns-then-left-chunks : goal.returns-then-left-chunks
returns-then-left-chunks c =
    let i = c.loop-b.b-index in
    let h : has c.args.before.now (get_or c.args.after.now i 0) ≡ false = sym c.has.ensures ∙ c.if-not-has.true in
    rw (← c.loop-b.invariant, added_more c.args.before.now c.args.after.now i c.loop-b-test.true h, copies_here (get_or c.args.after.now i 0) (added c.args.before.now (drop (i + 1) c.args.after.now)) c.args.chunks c.loop-b.left c.if-left-chunks.true)

pub loop-b-preserved : goal.loop-b-preserved
loop-b-preserved c = elim c.if-not-has.branch [
  | then-not-has+else-left-chunks w ↦
      let i = c.loop-b.b-index in
      let h : has c.args.before.now (get_or c.args.after.now i 0) ≡ false = sym c.has.ensures ∙ w.if-not-has.true in
      rw w.left-is (
      sym (copies_later (get_or c.args.after.now i 0) (added c.args.before.now (drop (i + 1) c.args.after.now)) c.args.chunks c.loop-b.left w.if-left-chunks.false)
      ∙ rw (added_more c.args.before.now c.args.after.now i c.loop-b-test.true h) at c.loop-b.invariant)
  | else-not-has w ↦
      let i = c.loop-b.b-index in
      let h : has c.args.before.now (get_or c.args.after.now i 0) ≡ true = sym c.has.ensures ∙ w.if-not-has.false in
      rw w.left-is (rw (added_skips c.args.before.now c.args.after.now i c.loop-b-test.true h) at c.loop-b.invariant)
]
