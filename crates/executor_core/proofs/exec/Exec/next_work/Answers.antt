use Rattle.exec_terms.proofs.NextWork.{next_is_cancel, next_is_step, next_is_start, next_is_none}
use Rattle.executor_core.proofs.exec.Exec.next_work.Goals as goal

pub returns-in-Some : goal.returns-in-Some
returns-in-Some c = rw (← c.self.view_is) (next_is_cancel _ c.as_slice-tasks.result.now c.as_slice-tasks.ensures.value c.in-Some.i c.given.result (rw (← c.as_slice-tasks.ensures.value) at (rw (← c.self.view_is) at c.in-Some.ensures)) c.given.ensures)

pub returns-in-Some-first_to_go_on : goal.returns-in-Some-first_to_go_on
returns-in-Some-first_to_go_on c = rw (← c.self.view_is) (next_is_step _ c.as_slice-tasks.result.now c.as_slice-tasks.ensures.value c.in-Some-first_to_go_on.i
    c.index-tasks-i.result c.next_step.result c.given-in-Some-first_to_go_on.result (rw (← c.as_slice-tasks.ensures.value) at (rw (← c.self.view_is) at c.in_default.ensures)) (rw (← c.as_slice-tasks.ensures.value) at (rw (← c.self.view_is) at c.in-Some-first_to_go_on.ensures)) c.index-tasks-i.is c.next_step.ensures c.given-in-Some-first_to_go_on.ensures)

pub returns-in-Some-first_to_start : goal.returns-in-Some-first_to_start
returns-in-Some-first_to_start c = rw (← c.self.view_is) (next_is_start _ c.as_slice-tasks.result.now c.as_slice-tasks.ensures.value c.in-Some-first_to_start.i
    c.index-tasks-i-in-Some-first_to_start.result c.next_step-in-Some-first_to_start.result c.given-in-Some-first_to_start.result (rw (← c.as_slice-tasks.ensures.value) at (rw (← c.self.view_is) at c.in_default.ensures)) (rw (← c.as_slice-tasks.ensures.value) at (rw (← c.self.view_is) at c.in_default-first_to_go_on.ensures)) (rw (← c.as_slice-tasks.ensures.value) at (rw (← c.self.view_is) at c.in-Some-first_to_start.ensures))
    c.index-tasks-i-in-Some-first_to_start.is c.next_step-in-Some-first_to_start.ensures c.given-in-Some-first_to_start.ensures)

pub returns : goal.returns
returns c = rw (← c.self.view_is) (next_is_none _ c.as_slice-tasks.result.now c.as_slice-tasks.ensures.value c.idle.result (rw (← c.as_slice-tasks.ensures.value) at (rw (← c.self.view_is) at c.in_default.ensures)) (rw (← c.as_slice-tasks.ensures.value) at (rw (← c.self.view_is) at c.in_default-first_to_go_on.ensures)) (rw (← c.as_slice-tasks.ensures.value) at (rw (← c.self.view_is) at c.in_default-first_to_start.ensures)) (rw (← c.as_slice-tasks.ensures.value) at (rw (← c.self.view_is) at c.idle.ensures)))
