use Rattle.std.proofs.Common.{◌∙◌, ◌<◌, ℕ, List, length, rules, not, ap, sym}
use Rattle.std.specs.Prelude.{◌==◌}
use Rattle.std.specs.List.{filter}
use Rattle.std.proofs.lemmas.List.{length-set}
use Rattle.user_tasks.specs.declared.table.UserTask.{UserTask}
use Rattle.core_terms.specs.Jobs.{user_task_at}
use Rattle.control_core.proofs.Open.{one_left}
use Rattle.control_core.proofs.desk.Desk.set_status.Goals as goal

pub invariant_of-self : goal.invariant_of-self
invariant_of-self c =
    let tasks : List UserTask = c.self.inside.tasks in
    let t : UserTask = record (user_task_at tasks c.args.place) { status = c.args.status } in
    let within : c.args.place < length tasks = search rules in
    rw (c.set_at.ensures, c.leave_out.ensures) (record {
      one_each = c.self.invariant.one_each ∙ sym (length-set tasks c.args.place t);
      open_are = ap (λ (xs : List ℕ). filter (λ i. not (i == c.args.place)) xs) c.self.invariant.open_are ∙ sym (one_left tasks c.args.place t within (sym c.if-not-is_open.ensures));
    })
