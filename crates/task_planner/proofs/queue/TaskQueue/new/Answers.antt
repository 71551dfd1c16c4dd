use Rattle.std.proofs.Common.{arith, length, ap, ◌∙◌}
use Rattle.std.proofs.lemmas.List.{length-map}
use Rattle.task_planner.specs.Queue.{waiting}
use Rattle.task_planner.proofs.queue.TaskQueue.new.Goals as goal

pub invariant_of-result : goal.invariant_of-result
invariant_of-result c =
    let built = rw c.as_slice.ensures.value at c.in_ok-groups.ensures in
    record {
      filed = record {
        few = omega (arith, ap length c.in_ok-slots.ensures ∙ length-map c.args.proposals.now waiting, c.requires.few);
        each = built.each;
        filed = λ i l w. built.filed i l;
        apart = built.apart;
        movers_are = rw c.as_slice-2.ensures.value at c.count_moves-movers.ensures;
      };
      waiting_are = rw c.as_slice-3.ensures.value at c.count_waiting-waiting.ensures;
    }
