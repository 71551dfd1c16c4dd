use Rattle.std.proofs.Common.{arith, sym}
use Rattle.exec_terms.proofs.Calls.{given_known}
use Rattle.executor_core.proofs.Calls.{starting, start_kept}
use Rattle.executor_core.proofs.Marked.{marks_known, next_lent}
use Rattle.executor_core.proofs.exec.Exec.start.Goals as goal

pub index_mut-task-requires : goal.index_mut-task-requires
index_mut-task-requires c = omega (arith, given_known _ c.args.given (sym (rw (← c.self.view_is) at c.requires.next)))

pub enter-requires-clause-before : goal.enter-requires-clause-before
enter-requires-clause-before c = rw c.as_slice.ensures (starting _ _ _ _ _ _ _ _ c.self.invariant c.args.given c.index_mut-task.result.now (rw (← c.self.view_is) at c.requires.next) c.index_mut-task.ensures.value c.requires.starts).before

pub enter-requires-clause-after : goal.enter-requires-clause-after
enter-requires-clause-after c = rw c.as_slice-2.ensures (starting _ _ _ _ _ _ _ _ c.self.invariant c.args.given c.index_mut-task.result.now (rw (← c.self.view_is) at c.requires.next) c.index_mut-task.ensures.value c.requires.starts).after

pub enter-requires-clause-room : goal.enter-requires-clause-room
enter-requires-clause-room c = rw (c.as_slice.ensures, c.as_slice-2.ensures) (starting _ _ _ _ _ _ _ _ c.self.invariant c.args.given c.index_mut-task.result.now (rw (← c.self.view_is) at c.requires.next) c.index_mut-task.ensures.value c.requires.starts).room

pub remove-requires-clause-known : goal.remove-requires-clause-known
remove-requires-clause-known c = (starting _ _ _ _ _ _ _ _ c.self.invariant c.args.given c.index_mut-task.result.now (rw (← c.self.view_is) at c.requires.next) c.index_mut-task.ensures.value c.requires.starts).within

pub remove-requires-clause-waits : goal.remove-requires-clause-waits
remove-requires-clause-waits c = (starting _ _ _ _ _ _ _ _ c.self.invariant c.args.given c.index_mut-task.result.now (rw (← c.self.view_is) at c.requires.next) c.index_mut-task.ensures.value c.requires.starts).waits

pub invariant_of-self : goal.invariant_of-self
invariant_of-self c = start_kept _ _ _ _ _ _ _ _ c.self.invariant c.args.given c.index_mut-task.result.now (rw (← c.self.view_is) at c.requires.next) c.index_mut-task.ensures.value
    c.lend.new.self c.as_slice.result.now c.as_slice-2.result.now c.enter.new.self c.remove.new.self c.note.new.self c.requires.starts c.lend.ensures c.as_slice.ensures c.as_slice-2.ensures c.enter.ensures c.remove.ensures c.note.ensures

pub note-requires-clause-known : goal.note-requires-clause-known
note-requires-clause-known c = marks_known c.self.inside.tasks.items c.self.inside.index c.args.given.task c.self.invariant.index_is (given_known _ c.args.given (sym (rw (← c.self.view_is) at c.requires.next)))

pub note-requires-clause-next : goal.note-requires-clause-next
note-requires-clause-next c = next_lent _ c.self.inside.index c.args.given c.index_mut-task.result.now c.lend.new.self c.self.invariant.valid c.self.invariant.index_is (rw (← c.self.view_is) at c.requires.next) c.lend.ensures
