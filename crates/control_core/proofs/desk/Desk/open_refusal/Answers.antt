use Rattle.std.proofs.Common.{◌∙◌, ◌<◌, ◌^◌, length, subst, sym, arith}
use Rattle.core_terms.specs.State.{Desk}
use Rattle.control_core.proofs.Resizes.{executing_there}
use Rattle.control_core.proofs.desk.Desk.open_refusal.Goals as goal

pub overflow_add-place : goal.overflow_add-place
overflow_add-place c =
    let d = c.args.self.now in
    let few : length d.tasks < 2 ^ 63 = subst (λ (x : Desk). length x.tasks < 2 ^ 63) c.self.view_is (rw c.tasks-few.ensures.value at c.tasks-few.ensures.few) in
    let there : c.in-Some.place < length d.tasks = executing_there d c.args.ask.now c.in-Some.place (sym c.first_executing.ensures ∙ c.in-Some.is) in
    omega (arith, there, few)
