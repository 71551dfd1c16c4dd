use Rattle.std.proofs.Common.{◌≡◌, ap, length, subst}
use Rattle.user_tasks.specs.declared.table.UserTask.{UserTask}
use Rattle.core_terms.specs.Jobs.{admitted, user_task_at}
use Rattle.core_terms.specs.State.{Desk}
use Rattle.core_laws.proofs.Events.{newest}
use Rattle.control_core.proofs.Resizes.{told_changed}
use Rattle.control_core.proofs.desk.Desk.change.Goals as goal

pub returns-clause-reply : goal.returns-clause-reply
returns-clause-reply c =
    let d = c.args.self.now in
    let ask = c.args.ask.now in
    let told = c.in_ok-status.ensures in
    told_changed c.args.parts.now d ask c.args.changes.items (subst (λ (x : Desk). length x.jobs ≡ length x.tasks) c.self.view_is c.self.invariant.one_each)
    c.in_ok-id.id _ c.in_ok-status.status c.in_ok-status.outcome c.in_ok-id.ensures.id
    (rw c.deref.ensures.value at (told.status (user_task_at (admitted d ask).tasks (length d.tasks)) (ap (λ (t : UserTask). t.ask) (newest d ask))))
    (rw c.deref.ensures.value at told.outcome)
