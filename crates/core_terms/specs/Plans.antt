-- Jobs and their tickets: what a planner takes, and what it brings back.
use Rattle.std.specs.Prelude.{◌≡◌, ℕ, ◌+◌, Bool, true, false, ◌==◌, ◌&&◌, List, Option, Some, None, is_none, if◌then◌else◌}
use Rattle.std.specs.List.{position, zip, last_or}
use Rattle.plan_terms.specs.Cluster.{Cluster}
use Rattle.plan_terms.specs.Change.{proposals}
use Rattle.goal_set.specs.Kept.{PlanView, FailureView, kinds_of}
use Rattle.goal_set.specs.declared.kinds.GoalKind.{GoalKind}
use Rattle.goal_set.specs.declared.kinds.GoalKind.TheVariants.{Evacuation}
use Rattle.exec_terms.specs.Settled.{settled_lists}
use Rattle.user_tasks.specs.declared.table.Status.TheVariants as status
use Rattle.user_tasks.specs.declared.table.UserTask.{UserTask}
use Rattle.core_terms.specs.Same.{same_problem}
use Rattle.core_terms.specs.Asked.{case_of}
use Rattle.core_terms.specs.Problem.{ProblemView}
use Rattle.core_terms.specs.State.{Desk, Moment, job_at}
use Rattle.core_terms.specs.Jobs.{user_task_at, is_active, with_job, with_status, with_plan, MayLaunch}
use Rattle.core_terms.specs.declared.jobs.Job.{Job}
use Rattle.core_terms.specs.declared.replies.Reply.{Reply}
use Rattle.core_terms.specs.declared.replies.Reply.TheVariants as reply

-- the ticket that is out has this number
abbrev pub is_ticket : ℕ → Option ℕ → Bool
is_ticket n None = false
is_ticket n (Some m) = m == n

-- a planner has the job under this ticket
abbrev pub has_ticket : ℕ → Job → Bool
has_ticket n j = is_ticket n j.ticket

-- the place of the job of a ticket; only active jobs have tickets
abbrev pub holder_of : ℕ → List Job → Option ℕ
holder_of n jobs = position (has_ticket n) jobs

-- the job is active, and no planner has it
abbrev pub waits : UserTask × Job → Bool
waits x = is_active x.0.status && is_none x.1.ticket

-- the place of the first job that waits
abbrev pub first_waiting : Desk → Option ℕ
first_waiting s = position waits (zip s.tasks s.jobs)

-- what a planner is given for the job at place i: the case of its request in the present cluster, the settled lists, and its goals
unfoldable pub problem_at : Cluster → Desk → ℕ → ProblemView
problem_at c s i = record { case = case_of (user_task_at s.tasks i).ask c; start = settled_lists s.exec; goals = (job_at s.jobs i).goals }

-- a planner takes the first job that waits, under the next ticket
abbrev pub reply_take_job : Moment → Desk → Option ℕ → Reply
reply_take_job now s None = reply.NoJob s.closing
reply_take_job now s (Some i) = reply.Job (s.tickets + 1) (problem_at now.cluster s i)

abbrev pub ticketed : Desk → Option ℕ → Desk
ticketed s None = s
ticketed s (Some i) = record (with_job s i (record (job_at s.jobs i) { ticket = Some (s.tickets + 1) })) { tickets = s.tickets + 1 }

-- the ticket of the job at place i ends
abbrev pub unticketed : Desk → ℕ → Desk
unticketed s i = with_job s i (record (job_at s.jobs i) { ticket = None })

-- what a plan is for
abbrev pub problem_of_plan : PlanView → ProblemView
problem_of_plan p = record { case = p.case; start = p.start; goals = p.goals }

-- what a failure is of
abbrev pub problem_of_failure : FailureView → ProblemView
problem_of_failure f = record { case = f.case; start = f.start; goals = f.goals }

-- the plan is for what a planner would be given for the job at place i now
abbrev pub is_plan_for : Cluster → Desk → ℕ → PlanView → Bool
is_plan_for c s i p = same_problem (problem_of_plan p) (problem_at c s i)

-- so is the failure
abbrev pub is_failure_for : Cluster → Desk → ℕ → FailureView → Bool
is_failure_for c s i f = same_problem (problem_of_failure f) (problem_at c s i)

-- a plan is brought
abbrev pub reply_planned : Moment → Desk → PlanView → Option ℕ → Reply
reply_planned now s p None = reply.StaleJob s.tickets
reply_planned now s p (Some i) = if is_plan_for now.cluster s i p then reply.PlanDone else reply.SentBack

abbrev pub planned : Moment → Desk → PlanView → Option ℕ → Desk
planned now s p None = s
planned now s p (Some i) = if is_plan_for now.cluster s i p then with_plan s i (proposals p.start p.end) else unticketed s i

-- the goal of the last turn
abbrev pub last_goal : Option GoalKind → GoalKind
last_goal None = Evacuation
last_goal (Some k) = k

-- the goal that the failure is of
abbrev pub goal_failed : FailureView → GoalKind
goal_failed f = last_goal (last_or None (kinds_of f.trace))

-- the goal of the failure failed the job at place i
abbrev pub with_failure : Desk → ℕ → FailureView → Desk
with_failure s i f = with_status (with_job s i (record (job_at s.jobs i) { ticket = None; broken = Some (record { goal = goal_failed f; left = f.left }) })) i status.CompletedWithError

-- a failure is brought
abbrev pub reply_refused : Moment → Desk → FailureView → Option ℕ → Reply
reply_refused now s f None = reply.StaleJob s.tickets
reply_refused now s f (Some i) = if is_failure_for now.cluster s i f then reply.PlanFailed else reply.SentBack

abbrev pub refused : Moment → Desk → FailureView → Option ℕ → Desk
refused now s f None = s
refused now s f (Some i) = if is_failure_for now.cluster s i f then with_failure s i f else unticketed s i

-- a ticket is given back
abbrev pub reply_plan_back : Desk → Option ℕ → Reply
reply_plan_back s None = reply.StaleJob s.tickets
reply_plan_back s (Some i) = reply.Given

abbrev pub planned_back : Desk → Option ℕ → Desk
planned_back s None = s
planned_back s (Some i) = unticketed s i

-- where the plan is for the job of its ticket, and is to be carried out, it can be launched
abbrev pub MayPlan : Cluster → Desk → ℕ → PlanView → Type 0
MayPlan c s ticket p = (i : ℕ) → holder_of ticket s.jobs ≡ Some i → is_plan_for c s i p ≡ true → MayLaunch s i (proposals p.start p.end)
