use Rattle.std.proofs.Common.{◌∙◌}
use Rattle.plan_summary.proofs.Turns.{after_turns-next, turn-legal, turns-next}
use Rattle.plan_summary.proofs.replay.book_after.Goals as goal

pub take_turn-requires-clause-legal : goal.take_turn-requires-clause-legal
take_turn-requires-clause-legal c =
    let p = c.loop-turn in
    rw c.as_slice.ensures (turn-legal c.args.case.now p.book.lists c.args.turns.now p.turn-index c.turn-item.result c.loop-turn-test.true c.turn-item.is p.invariant.legal)

pub loop-turn-preserved : goal.loop-turn-preserved
loop-turn-preserved c =
    let p = c.loop-turn in
    record {
      left = rw (c.take_turn.ensures.lists, c.as_slice.ensures)
          (after_turns-next c.args.case.now p.book.lists c.args.turns.now p.turn-index c.turn-item.result c.loop-turn-test.true c.turn-item.is ∙ p.invariant.left);
      legal = rw (c.take_turn.ensures.lists, c.as_slice.ensures)
          (turns-next c.args.case.now p.book.lists c.args.turns.now p.turn-index c.turn-item.result c.loop-turn-test.true c.turn-item.is p.invariant.legal);
      belongs = c.take_turn.ensures.belongs;
    }
