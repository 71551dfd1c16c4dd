use Rattle.std.proofs.Common.{arith, sym}
use Rattle.exec_terms.proofs.Calls.{given_known}
use Rattle.executor_core.proofs.Calls.{gone_on}
use Rattle.executor_core.proofs.Marked.{marks_known, next_lent}
use Rattle.executor_core.proofs.exec.Exec.go_on.Goals as goal

pub index_mut-task-requires : goal.index_mut-task-requires
index_mut-task-requires c = omega (arith, given_known _ c.args.given (sym (rw (← c.self.view_is) at c.requires.next)))

pub note-requires-clause-known : goal.note-requires-clause-known
note-requires-clause-known c = marks_known c.self.inside.tasks.items c.self.inside.index c.args.given.task c.self.invariant.index_is (given_known _ c.args.given (sym (rw (← c.self.view_is) at c.requires.next)))

pub note-requires-clause-next : goal.note-requires-clause-next
note-requires-clause-next c = next_lent _ c.self.inside.index c.args.given c.index_mut-task.result.now c.lend.new.self c.self.invariant.valid c.self.invariant.index_is (rw (← c.self.view_is) at c.requires.next) c.lend.ensures

pub invariant_of-self : goal.invariant_of-self
invariant_of-self c = gone_on _ _ _ _ _ _ _ _ c.self.invariant c.args.given c.index_mut-task.result.now (rw (← c.self.view_is) at c.requires.next) c.index_mut-task.ensures.value c.lend.new.self c.note.new.self c.requires.goes_on c.lend.ensures c.note.ensures
