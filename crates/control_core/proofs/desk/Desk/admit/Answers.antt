use Rattle.std.proofs.Common.{◌≡◌, ◌∙◌, ℕ, ◌+◌, List, [], ◌∷◌, ◌++◌, length, ap, refl, sym}
use Rattle.std.proofs.lemmas.List.{length-append}
use Rattle.user_tasks.specs.declared.table.Status.TheVariants as status
use Rattle.user_tasks.specs.declared.table.UserTask.{UserTask}
use Rattle.core_terms.specs.declared.jobs.Job.{Job}
use Rattle.control_core.proofs.Open.{one_opened}
use Rattle.control_core.proofs.desk.Desk.admit.Goals as goal

pub invariant_of-self-in-Ok : goal.invariant_of-self-in-Ok
invariant_of-self-in-Ok c =
    let tasks : List UserTask = c.self.inside.tasks in
    let jobs : List Job = c.self.inside.jobs.items in
    let t : UserTask = record { ask = c.in_ok-ask.ask; status = status.Active } in
    let all_jobs : c.add_job.new.jobs.items ≡ jobs ++ c.new_job.result ∷ [] = rw c.reserve.ensures.items at c.add_job.ensures in
    let places : c.add_place.new.places.items ≡ c.self.inside.open_tasks.items ++ length tasks ∷ [] = rw (c.reserve-2.ensures.items, c.tasks-place.ensures.value) at c.add_place.ensures in
    rw (all_jobs, places, c.in-Ok.ensures.admitted) (record {
      one_each = length-append jobs (c.new_job.result ∷ []) ∙ ap (λ (n : ℕ). n + 1) c.self.invariant.one_each ∙ sym (length-append tasks (t ∷ []));
      open_are = ap (λ (xs : List ℕ). xs ++ length tasks ∷ []) c.self.invariant.open_are ∙ sym (one_opened tasks t refl);
    })
