use Rattle.std.proofs.Common.{◌∙◌, ap, refl}
use Rattle.std.proofs.lemmas.List.{get_or_read}
use Rattle.task_planner.specs.Groups.{Filing, no_group}
use Rattle.task_planner.specs.Queue.{ended}
use Rattle.task_planner.proofs.Grouped.{AreGroups-advanced, AreGroups-without, waiting-left}
use Rattle.task_planner.proofs.queue.TaskQueue.remove.Goals as goal

pub advance-requires : goal.advance-requires
advance-requires c =
    let all = AreGroups-without c.self.inside.slots.items c.args.task c.index_mut-slot.result.now c.end.new.self c.self.inside.groups.items c.self.inside.movers c.one_if.result
    (rw (← c.self.view_is) at c.requires.known) c.index_mut-slot.ensures.value c.end.ensures (rw c.moves.ensures at c.one_if.ensures) c.self.invariant.filed in
    let place = rw c.as_slice.ensures.value at c.in-Some.ensures.known in
    let here = get_or_read c.self.inside.groups.items c.in-Some.place c.index_mut.result.now place c.index_mut.ensures.value no_group in
    rw (c.as_slice-in-Some.ensures.value, here) (all.each c.in-Some.place)

pub invariant_of-self : goal.invariant_of-self
invariant_of-self c =
    let all = AreGroups-without c.self.inside.slots.items c.args.task c.index_mut-slot.result.now c.end.new.self c.self.inside.groups.items c.self.inside.movers c.one_if.result
    (rw (← c.self.view_is) at c.requires.known) c.index_mut-slot.ensures.value c.end.ensures (rw c.moves.ensures at c.one_if.ensures) c.self.invariant.filed in
    let place = rw c.as_slice.ensures.value at c.in-Some.ensures.known in
    let here = get_or_read c.self.inside.groups.items c.in-Some.place c.index_mut.result.now place c.index_mut.ensures.value no_group in
    let left = waiting-left c.self.inside.slots.items c.args.task c.index_mut-slot.result.now c.end.new.self c.self.inside.waiting (rw (← c.self.view_is) at c.requires.known) c.index_mut-slot.ensures.value (rw (← c.self.view_is) at c.requires.waits) c.end.ensures c.self.invariant.waiting_are in
    record {
      filed = AreGroups-advanced _ c.self.inside.groups.items _ c.in-Some.place c.advance.new.self place all (c.advance.ensures.key ∙ ap (λ (f : Filing). f.key) here) (c.advance.ensures.tasks ∙ ap (λ (f : Filing). f.tasks) here)
          (rw (c.as_slice-in-Some.ensures.value, here) at c.advance.ensures.kept);
      waiting_are = left.1;
    }

pub invariant_of-self-in_default : goal.invariant_of-self-in_default
invariant_of-self-in_default c =
    let left = waiting-left c.self.inside.slots.items c.args.task c.index_mut-slot.result.now c.end.new.self c.self.inside.waiting (rw (← c.self.view_is) at c.requires.known) c.index_mut-slot.ensures.value (rw (← c.self.view_is) at c.requires.waits) c.end.ensures c.self.invariant.waiting_are in
    record {
      filed = AreGroups-without c.self.inside.slots.items c.args.task c.index_mut-slot.result.now c.end.new.self c.self.inside.groups.items c.self.inside.movers c.one_if.result
          (rw (← c.self.view_is) at c.requires.known) c.index_mut-slot.ensures.value c.end.ensures (rw c.moves.ensures at c.one_if.ensures) c.self.invariant.filed;
      waiting_are = left.1;
    }

pub overflow_sub-self-2 : goal.overflow_sub-self-2
overflow_sub-self-2 c = (waiting-left c.self.inside.slots.items c.args.task c.index_mut-slot.result.now (ended c.index_mut-slot.result.now) c.self.inside.waiting (rw (← c.self.view_is) at c.requires.known) c.index_mut-slot.ensures.value (rw (← c.self.view_is) at c.requires.waits) refl c.self.invariant.waiting_are).0
