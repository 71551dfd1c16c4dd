-- What each event keeps of the jobs: their goals, and that their proposals are of the cluster's partitions.
use Rattle.std.proofs.Common.{◌≡◌, ◌∙◌, ℕ, ◌+◌, ◌<◌, ◌≤◌, ◌⊎◌, Bool, true, false, cond, List, [], ◌∷◌, ◌++◌, length, set, arith, refl, sym, ap, inl, inr}
use Rattle.std.specs.Prelude.{Option, Some, None}
use Rattle.std.specs.List.{All, list_all, position, zip}
use Rattle.std.proofs.lemmas.Bool.{cases_lt, true≢false}
use Rattle.std.proofs.lemmas.List.{length-set, length-append, get_or_append_left, get_or_push}
use Rattle.std.proofs.lemmas.List.Elements.{All-nil}
use Rattle.std.proofs.lemmas.List.Quantifiers.{position-Some}
use Rattle.plan_terms.specs.Change.{proposals}
use Rattle.plan_terms.specs.Cluster.{Cluster, Lists}
use Rattle.goal_set.specs.Kept.{PlanView, FailureView}
use Rattle.goal_set.specs.Read.{read_kinds}
use Rattle.goal_set.specs.declared.kinds.GoalKind.TheVariants.{Evacuation, Demotion}
use Rattle.exec_terms.specs.Machine.{State, after_launch}
use Rattle.exec_terms.specs.Words.{is_completed}
use Rattle.user_tasks.specs.Asks.{AskView}
use Rattle.user_tasks.specs.declared.table.Status.{Status}
use Rattle.user_tasks.specs.declared.table.Status.TheVariants as status
use Rattle.user_tasks.specs.declared.table.UserTask.{UserTask}
use Rattle.core_terms.specs.Asked.{takes_no_goals, goals_of}
use Rattle.core_terms.specs.State.{Desk, Moment, no_job, job_at}
use Rattle.core_terms.specs.Jobs.{admitted, no_user_task, user_task_at, is_active, is_in_execution, is_done_at_once, new_job, planned_job, with_job, with_plan, with_status}
use Rattle.core_terms.specs.Submits.{unless_refused, unless_unchanged}
use Rattle.core_terms.specs.Plans.{waits, holder_of, ticketed, unticketed, planned, planned_back, refused, with_failure, goal_failed, is_plan_for, is_failure_for}
use Rattle.core_terms.specs.Works.{ended_job, ends_execution, execution_ended, moved, with_exec}
use Rattle.core_terms.specs.Sound.{BeginsWithEvacuation, IsJob}
use Rattle.core_terms.specs.declared.jobs.Job.{Job}
use Rattle.core_terms.specs.declared.replies.Reply.{Reply}
use Rattle.exec_terms.proofs.Changes.{proposals_all}
use Rattle.core_laws.proofs.Tickets.{other_or_here, found, place_waiting}

-- each job is one of the cluster's
abbrev pub AreJobs : Cluster → List UserTask → List Job → Type 0
AreJobs c tasks jobs = (i : ℕ) → i < length jobs → IsJob c (user_task_at tasks i) (job_at jobs i)

-- no user task becomes active
abbrev NoneAgain : List UserTask → List UserTask → Type 0
NoneAgain old new = (i : ℕ) → is_active (user_task_at new i).status ≡ true → is_active (user_task_at old i).status ≡ true

same_again : (tasks : List UserTask) → NoneAgain tasks tasks
same_again tasks i h = h

-- another status that isn't active
not_again : (tasks : List UserTask) (i : ℕ) (x : Status) → i < length tasks → is_active x ≡ false → NoneAgain tasks (set tasks i (record (user_task_at tasks i) { status = x }))
not_again tasks i x l off k =
    other_or_here tasks i (record (user_task_at tasks i) { status = x }) no_user_task k (λ t. is_active t.status ≡ true → is_active (user_task_at tasks k).status ≡ true) l
    (λ e h. absurd (true≢false (sym h ∙ off))) (λ o h. h)

-- the job at place i is another, with the same goals and with proposals of the cluster
pub jobs_set : (c : Cluster) (tasks new : List UserTask) (jobs : List Job) (i : ℕ) (y : Job) → i < length jobs → NoneAgain tasks new → y.goals ≡ (job_at jobs i).goals → All (λ p. p.part < length c.parts) y.proposals
    → AreJobs c tasks jobs → AreJobs c new (set jobs i y)
jobs_set c tasks new jobs i y l again goals parts h k m =
    let n : k < length jobs = rw (length-set jobs i y) at m in
    record {
      evacuates = λ active. other_or_here jobs i y no_job k (λ j. BeginsWithEvacuation j.goals) l
          (λ e. rw goals ((h i l).evacuates (ap (λ (z : ℕ). is_active (user_task_at tasks z).status) (sym e) ∙ again k active)))
          (λ o. (h k n).evacuates (again k active));
      parts = other_or_here jobs i y no_job k (λ j. All (λ p. p.part < length c.parts) j.proposals) l (λ e. parts) (λ o. (h k n).parts);
    }

-- the statuses change alone
jobs_same : (c : Cluster) (tasks new : List UserTask) (jobs : List Job) → NoneAgain tasks new → AreJobs c tasks jobs → AreJobs c new jobs
jobs_same c tasks new jobs again h k l = record { evacuates = λ active. (h k l).evacuates (again k active); parts = (h k l).parts }

goals_begin : (ask : AskView) → BeginsWithEvacuation (goals_of ask)
goals_begin ask = by (takes_no_goals ask.op) where
  read : (names : List (List ℕ)) → BeginsWithEvacuation (read_kinds names)
  read [] = (_, refl)
  read (n ∷ ns) = (_, refl)

  by : (b : Bool) → BeginsWithEvacuation (cond b (Evacuation ∷ Demotion ∷ []) (read_kinds ask.goals))
  by true = (Demotion ∷ [], refl)
  by false = read ask.goals

-- one job more
one_more : (c : Cluster) (tasks : List UserTask) (jobs : List Job) (ask : AskView) → length jobs ≡ length tasks → AreJobs c tasks jobs
    → AreJobs c (tasks ++ record { ask = ask; status = status.Active } ∷ []) (jobs ++ new_job ask ∷ [])
one_more c tasks jobs ask e h k l = by (cases_lt k (length jobs)) where
  by : (k < length jobs) ⊎ (length jobs ≤ k) → IsJob c (user_task_at (tasks ++ record { ask = ask; status = status.Active } ∷ []) k) (job_at (jobs ++ new_job ask ∷ []) k)
  by (inl m) = rw (get_or_append_left tasks (record { ask = ask; status = status.Active } ∷ []) no_user_task k (omega (arith, m, e)), get_or_append_left jobs (new_job ask ∷ []) no_job k m) (h k m)
  by (inr m) =
      let here : k ≡ length jobs = omega (arith, length-append jobs (new_job ask ∷ []), l, m) in
      let is : job_at (jobs ++ new_job ask ∷ []) k ≡ new_job ask = get_or_push jobs (new_job ask) no_job k (sym here) in
      record { evacuates = λ active. rw is (goals_begin ask); parts = rw is (All-nil (λ p. p.part < length c.parts)) }

pub jobs_submitted : (c : Cluster) (d : Desk) (ask : AskView) (o : Option Reply) → length d.jobs ≡ length d.tasks → AreJobs c d.tasks d.jobs → AreJobs c (unless_refused d ask o).tasks (unless_refused d ask o).jobs
jobs_submitted c d ask (Some r) e h = h
jobs_submitted c d ask None e h = one_more c d.tasks d.jobs ask e h

-- the plan of a user task
planned_at : (c : Cluster) (d : Desk) (i : ℕ) (start end : Lists) → i < length d.jobs → length d.jobs ≡ length d.tasks → length start ≡ length c.parts → AreJobs c d.tasks d.jobs
    → AreJobs c (with_plan d i (proposals start end)).tasks (with_plan d i (proposals start end)).jobs
planned_at c d i start end l e few h = chosen (is_done_at_once (user_task_at d.tasks i) (proposals start end)) where
  done : (x : Status) → is_active x ≡ false → AreJobs c (set d.tasks i (record (user_task_at d.tasks i) { status = x })) (set d.jobs i (planned_job (job_at d.jobs i) (proposals start end)))
  done x off = jobs_set c d.tasks (set d.tasks i (record (user_task_at d.tasks i) { status = x })) d.jobs i (planned_job (job_at d.jobs i) (proposals start end)) l
      (not_again d.tasks i x (omega (arith, l, e)) off) refl
      (proposals_all start end (λ r. r.part < length c.parts) (λ k m. omega (arith, m, few))) h

  chosen : (b : Bool)
      → AreJobs c (cond b (with_status (with_job d i (planned_job (job_at d.jobs i) (proposals start end))) i status.Completed)
      (record (with_status (with_job d i (planned_job (job_at d.jobs i) (proposals start end))) i status.InExecution) { exec = after_launch d.exec (proposals start end) })).tasks
      (cond b (with_status (with_job d i (planned_job (job_at d.jobs i) (proposals start end))) i status.Completed)
      (record (with_status (with_job d i (planned_job (job_at d.jobs i) (proposals start end))) i status.InExecution) { exec = after_launch d.exec (proposals start end) })).jobs
  chosen true = done status.Completed refl
  chosen false = done status.InExecution refl

-- a change of the replication factor
pub jobs_changed : (c : Cluster) (d : Desk) (ask : AskView) (start end : Lists) (o : Option Reply) → length d.jobs ≡ length d.tasks → length start ≡ length c.parts → AreJobs c d.tasks d.jobs
    → AreJobs c (unless_unchanged d ask (proposals start end) o).tasks (unless_unchanged d ask (proposals start end) o).jobs
jobs_changed c d ask start end (Some r) e few h = h
jobs_changed c d ask start end None e few h =
    let new : UserTask = record { ask = ask; status = status.Active } in
    planned_at c (admitted d ask) (length d.tasks) start end (omega (arith, length-append d.jobs (new_job ask ∷ []), e))
    (length-append d.jobs (new_job ask ∷ []) ∙ ap (λ (n : ℕ). n + 1) e ∙ sym (length-append d.tasks (new ∷ []))) few (one_more c d.tasks d.jobs ask e h)

-- the ticket of a job changes
ticket_set : (c : Cluster) (d : Desk) (i : ℕ) (o : Option ℕ) → i < length d.jobs → AreJobs c d.tasks d.jobs → AreJobs c d.tasks (set d.jobs i (record (job_at d.jobs i) { ticket = o }))
ticket_set c d i o l h = jobs_set c d.tasks d.tasks d.jobs i (record (job_at d.jobs i) { ticket = o }) l (same_again d.tasks) refl (h i l).parts h

pub jobs_taken : (c : Cluster) (d : Desk) → AreJobs c d.tasks d.jobs → (o : Option ℕ) → position waits (zip d.tasks d.jobs) ≡ o → AreJobs c (ticketed d o).tasks (ticketed d o).jobs
jobs_taken c d h None e = h
jobs_taken c d h (Some i) e = ticket_set c d i (Some (d.tickets + 1)) (place_waiting d i e) h

pub jobs_back : (c : Cluster) (d : Desk) (n : ℕ) → AreJobs c d.tasks d.jobs → (o : Option ℕ) → holder_of n d.jobs ≡ o → AreJobs c (planned_back d o).tasks (planned_back d o).jobs
jobs_back c d n h None e = h
jobs_back c d n h (Some i) e = ticket_set c d i None (found d n i e) h

pub jobs_refused : (c : Cluster) (now : Moment) (d : Desk) (n : ℕ) (f : FailureView) → length d.jobs ≡ length d.tasks → AreJobs c d.tasks d.jobs → (o : Option ℕ) → holder_of n d.jobs ≡ o
    → AreJobs c (refused now d f o).tasks (refused now d f o).jobs
jobs_refused c now d n f e h None q = h
jobs_refused c now d n f e h (Some i) q = by (is_failure_for now.cluster d i f) where
  l : i < length d.jobs
  l = found d n i q

  by : (b : Bool) → AreJobs c (cond b (with_failure d i f) (unticketed d i)).tasks (cond b (with_failure d i f) (unticketed d i)).jobs
  by true = jobs_set c d.tasks (set d.tasks i (record (user_task_at d.tasks i) { status = status.CompletedWithError })) d.jobs i
      (record (job_at d.jobs i) { ticket = None; broken = Some (record { goal = goal_failed f; left = f.left }) }) l
      (not_again d.tasks i status.CompletedWithError (omega (arith, l, e)) refl) refl (h i l).parts h
  by false = ticket_set c d i None l h

pub jobs_planned : (c : Cluster) (now : Moment) (d : Desk) (n : ℕ) (p : PlanView) → length d.jobs ≡ length d.tasks
    → ((i : ℕ) → is_plan_for now.cluster d i p ≡ true → length p.start ≡ length c.parts) → AreJobs c d.tasks d.jobs
    → (o : Option ℕ) → holder_of n d.jobs ≡ o → AreJobs c (planned now d p o).tasks (planned now d p o).jobs
jobs_planned c now d n p e long h None q = h
jobs_planned c now d n p e long h (Some i) q = by (is_plan_for now.cluster d i p) refl where
  l : i < length d.jobs
  l = found d n i q

  done : (x : Status) → is_active x ≡ false → length p.start ≡ length c.parts
      → AreJobs c (set d.tasks i (record (user_task_at d.tasks i) { status = x })) (set d.jobs i (planned_job (job_at d.jobs i) (proposals p.start p.end)))
  done x off few = jobs_set c d.tasks (set d.tasks i (record (user_task_at d.tasks i) { status = x })) d.jobs i (planned_job (job_at d.jobs i) (proposals p.start p.end)) l
      (not_again d.tasks i x (omega (arith, l, e)) off) refl
      (proposals_all p.start p.end (λ r. r.part < length c.parts) (λ k m. omega (arith, m, few))) h

  chosen : (b : Bool) → length p.start ≡ length c.parts
      → AreJobs c (cond b (with_status (with_job d i (planned_job (job_at d.jobs i) (proposals p.start p.end))) i status.Completed)
      (record (with_status (with_job d i (planned_job (job_at d.jobs i) (proposals p.start p.end))) i status.InExecution) { exec = after_launch d.exec (proposals p.start p.end) })).tasks
      (cond b (with_status (with_job d i (planned_job (job_at d.jobs i) (proposals p.start p.end))) i status.Completed)
      (record (with_status (with_job d i (planned_job (job_at d.jobs i) (proposals p.start p.end))) i status.InExecution) { exec = after_launch d.exec (proposals p.start p.end) })).jobs
  chosen true few = done status.Completed refl few
  chosen false few = done status.InExecution refl few

  by : (b : Bool) → is_plan_for now.cluster d i p ≡ b → AreJobs c (cond b (with_plan d i (proposals p.start p.end)) (unticketed d i)).tasks (cond b (with_plan d i (proposals p.start p.end)) (unticketed d i)).jobs
  by true is = chosen (is_done_at_once (user_task_at d.tasks i) (proposals p.start p.end)) (long i is)
  by false is = ticket_set c d i None l h

pub jobs_moved : (c : Cluster) (d : Desk) (e : State) → length d.jobs ≡ length d.tasks → AreJobs c d.tasks d.jobs → AreJobs c (moved d e).tasks (moved d e).jobs
jobs_moved c d e same h = by (ends_execution d.exec.tasks e.tasks) where
  ended : (o : Option ℕ) → position (λ u. is_in_execution u.status) d.tasks ≡ o → AreJobs c (execution_ended (with_exec d e) o).tasks (execution_ended (with_exec d e) o).jobs
  ended None p = h
  ended (Some i) p = ending (list_all (λ u. is_completed u.phase) e.tasks)
    where
      l : i < length d.tasks
      l = (position-Some (λ u. is_in_execution u.status) d.tasks i no_user_task p).0

      m : i < length d.jobs
      m = omega (arith, l, same)

      ending : (b : Bool) → AreJobs c (cond b (with_status (with_exec d e) i status.Completed) (with_status (with_job (with_exec d e) i (ended_job (with_exec d e) i)) i status.CompletedWithError)).tasks
          (cond b (with_status (with_exec d e) i status.Completed) (with_status (with_job (with_exec d e) i (ended_job (with_exec d e) i)) i status.CompletedWithError)).jobs
      ending true = jobs_same c d.tasks (set d.tasks i (record (user_task_at d.tasks i) { status = status.Completed })) d.jobs (not_again d.tasks i status.Completed l refl) h
      ending false = jobs_set c d.tasks (set d.tasks i (record (user_task_at d.tasks i) { status = status.CompletedWithError })) d.jobs i (ended_job (with_exec d e) i) m
          (not_again d.tasks i status.CompletedWithError l refl) refl (h i m).parts h

  by : (b : Bool) → AreJobs c (cond b (execution_ended (with_exec d e) (position (λ t. is_in_execution t.status) d.tasks)) (with_exec d e)).tasks
      (cond b (execution_ended (with_exec d e) (position (λ t. is_in_execution t.status) d.tasks)) (with_exec d e)).jobs
  by true = ended (position (λ t. is_in_execution t.status) d.tasks) refl
  by false = h
