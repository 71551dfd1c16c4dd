-- What ends work and jobs that were given.
use Rattle.std.specs.Prelude.{◌≡◌, true}
use Rattle.exec_terms.specs.Words.{is_for}
use Rattle.exec_terms.specs.declared.work.WorkKind.TheVariants.{Copy as ForCopy}
use Rattle.exec_terms.specs.declared.work.Work.TheVariants as work
use Rattle.exec_terms.specs.declared.replies.Given.{Given}
use Rattle.goal_set.specs.Kept.{PlanView, FailureView}
use Rattle.core_terms.specs.Problem.{ProblemView}
use Rattle.core_terms.specs.declared.events.Event.{Event}
use Rattle.core_terms.specs.declared.events.Event.TheVariants as event
use Rattle.core_terms.specs.declared.replies.Reply.{Reply}
use Rattle.core_terms.specs.declared.replies.Reply.TheVariants as reply

-- the plan is for the case, the lists and the goals of a problem
abbrev pub IsPlanFor : ProblemView → PlanView → Type 0
IsPlanFor problem p = (p.case ≡ problem.case) × (p.start ≡ problem.start) × (p.goals ≡ problem.goals)

-- the failure is
abbrev pub IsFailureFor : ProblemView → FailureView → Type 0
IsFailureFor problem f = (f.case ≡ problem.case) × (f.start ≡ problem.start) × (f.goals ≡ problem.goals)

-- the event ends work as it should: a copy by the receipt of just that copy, or by its failure
abbrev pub Works : Given → Event → Type 0
Works g (event.Copied r) = (g.work ≡ work.Copy r.to r.chunk) × (r.lease ≡ g.lease) × (r.part ≡ g.part)
Works g (event.CopyFailed lease) = (is_for ForCopy g.work ≡ true) × (lease ≡ g.lease)
Works g (event.Commit lease) = (g.work ≡ work.Commit) × (lease ≡ g.lease)
Works g (event.Cancel lease) = (g.work ≡ work.Cancel) × (lease ≡ g.lease)
Works g _ = ⊥

-- the event ends what a reply gave to do: work, or a job by a plan or a failure for it
abbrev pub Ends : Reply → Event → Type 0
Ends (reply.Job ticket problem) (event.Planned t p) = (t ≡ ticket) × IsPlanFor problem p
Ends (reply.Job ticket problem) (event.Refused t f) = (t ≡ ticket) × IsFailureFor problem f
Ends (reply.Job ticket problem) _ = ⊥
Ends (reply.Work g) e = Works g e
Ends _ e = ⊥

-- the event gives back what a reply gave to do
abbrev pub GivesBack : Reply → Event → Type 0
GivesBack (reply.Job ticket problem) e = e ≡ event.PlanBack ticket
GivesBack (reply.Work g) e = e ≡ event.GiveBack g.lease
GivesBack _ e = ⊥
