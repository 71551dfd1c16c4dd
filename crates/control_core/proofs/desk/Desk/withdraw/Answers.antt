use Rattle.std.proofs.Common.{◌∙◌, ap}
use Rattle.core_terms.specs.State.{Desk}
use Rattle.control_core.proofs.Resizes.{withdrawn}
use Rattle.control_core.proofs.desk.Desk.withdraw.Goals as goal

pub invariant_of-self : goal.invariant_of-self
invariant_of-self c =
    let d = c.self.inside in
    let r = c.requires in
    let is = c.self.view_is ∙ r.2 in
    rw (c.withdraw.ensures, c.pop.ensures.rest, c.pop-2.ensures.rest, d.jobs.ok.0, d.open_tasks.ok.0)
    (withdrawn r.0 r.1 d.tasks d.jobs.items d.open_tasks.items (ap (λ (x : Desk). x.tasks) is) (ap (λ (x : Desk). x.jobs) is) c.self.invariant)
