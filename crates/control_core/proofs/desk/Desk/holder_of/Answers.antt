use Rattle.std.proofs.Common.{◌≡◌, ◌∙◌, rules}
use Rattle.std.specs.Prelude.{find}
use Rattle.core_terms.specs.State.{job_at}
use Rattle.core_terms.specs.Plans.{has_ticket}
use Rattle.control_core.proofs.Open.{found_holder, holder_within}
use Rattle.control_core.proofs.desk.Desk.holder_of.Goals as goal

pub returns-clause-place : goal.returns-clause-place
returns-clause-place c =
    let d = c.self.inside in
    let active = rw (← c.self.view_is) at c.requires.active in
    let among : c.holder_among.result ≡ find (λ i. has_ticket c.args.ticket (job_at d.jobs.items i)) d.open_tasks.items = search rules in
    rw (← c.self.view_is) (rw c.self.invariant.open_are at among ∙ found_holder d.tasks d.jobs.items c.args.ticket c.self.invariant.one_each active)

pub returns-clause-within : goal.returns-clause-within
returns-clause-within c =
    let d = c.self.inside in
    let active = rw (← c.self.view_is) at c.requires.active in
    let among : c.holder_among.result ≡ find (λ i. has_ticket c.args.ticket (job_at d.jobs.items i)) d.open_tasks.items = search rules in
    rw (← c.self.view_is) (holder_within c.args.ticket d.jobs.items c.holder_among.result (rw c.self.invariant.open_are at among ∙ found_holder d.tasks d.jobs.items c.args.ticket c.self.invariant.one_each active))
