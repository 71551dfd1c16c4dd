-- Each event of a drain in which no copy fails keeps the request under way.
use Rattle.std.proofs.Common.{◌≡◌, ℕ, ◌+◌, ◌<◌, Bool, true, false, cond, List, [], ◌∷◌, arith, refl, sym, ap, ◌∙◌, subst, zero, suc}
use Rattle.std.specs.Prelude.{Option, Some, None}
use Rattle.std.proofs.lemmas.Bool.{false≢true}
use Rattle.plan_terms.specs.Cluster.{Cluster, Lists}
use Rattle.plan_terms.specs.Change.{proposals}
use Rattle.plan_terms.specs.declared.lists.Proposal.{Proposal}
use Rattle.plan_terms.specs.declared.settings.Sample.{Sample}
use Rattle.cluster_json.specs.File.{Meaning}
use Rattle.exec_terms.specs.Machine.{State, after_launch, after_take}
use Rattle.exec_terms.specs.Leases.{after_cancel, after_commit, after_copied}
use Rattle.exec_terms.specs.Settled.{settled_lists}
use Rattle.exec_terms.specs.declared.brokers.Host.{Host}
use Rattle.goal_optimizer.specs.Outcomes.{IsFailureOf, IsPlanOf}
use Rattle.goal_set.specs.Kept.{FailureView, IsFailure, IsPlan, PlanView}
use Rattle.goal_set.specs.declared.kinds.GoalKind.{GoalKind}
use Rattle.user_tasks.specs.Asks.{AskView}
use Rattle.user_tasks.specs.declared.table.Status.{Status}
use Rattle.user_tasks.specs.declared.table.Status.TheVariants as status
use Rattle.core_terms.specs.Asked.{case_of, goals_of, is_dry}
use Rattle.core_terms.specs.History.{IsLegal}
use Rattle.core_terms.specs.Jobs.{is_active, user_task_at, with_plan}
use Rattle.core_terms.specs.Plans.{first_waiting, goal_failed, holder_of, is_failure_for, is_plan_for, planned, problem_at, problem_of_failure, problem_of_plan, refused, ticketed, unticketed, with_failure}
use Rattle.core_terms.specs.Problem.{ProblemView}
use Rattle.core_terms.specs.Sound.{IsSound}
use Rattle.core_terms.specs.State.{Core, moment_of, present}
use Rattle.core_terms.specs.Step.{next, with_desk}
use Rattle.core_terms.specs.Works.{is_receipt, moved}
use Rattle.core_terms.specs.declared.events.Event.{Event}
use Rattle.core_terms.specs.declared.events.Event.TheVariants as event
use Rattle.core_terms.specs.declared.jobs.Job.{Job}
use Rattle.core_terms.proofs.Sameness.{sameness_is_equality}
use Rattle.core_laws.proofs.Jobs.{holder_active}
use Rattle.core_laws.proofs.Calm.{IsCalm, calm_cancel, calm_commit, calm_copied, calm_launch, calm_take, lists_settled}
use Rattle.request_runs.proofs.Stages.{IsStage, IsUnderWay, core_in, moved_on, other_exec, other_job}

-- the events of rounds that are done, but for a copy that failed
abbrev pub is_calm : Event → Bool
is_calm event.PlanTake = true
is_calm (event.Planned ticket plan) = true
is_calm (event.Refused ticket failure) = true
is_calm event.Take = true
is_calm (event.Copied receipt) = true
is_calm (event.Commit lease) = true
is_calm (event.Cancel lease) = true
is_calm _ = false

module _ (file : Meaning) (c : Cluster) (lists : Lists) (hosts : List Host) (ask : AskView) (samples : List Sample)
    (case_is : case_of ask (present file hosts samples) ≡ c) (wet : is_dry ask ≡ false) where
  abbrev Is : Core → Type 0
  Is s = IsUnderWay c lists hosts (goals_of ask) ask samples s

  abbrev At : Job → State → Status → Type 0
  At j e st = IsStage c lists hosts (goals_of ask) j e st

  abbrev at : Status → Job → State → ℕ → Core
  at st j e n = core_in ask samples st j e n

  stays : (st : Status) (j : Job) (e : State) (n : ℕ) → At j e st → Is (at st j e n)
  stays st j e n h = record { status = st; job = j; exec = e; tickets = n; core_is = refl; stage = h }

  -- a planner takes the job
  on_ticket : (st : Status) (j : Job) (e : State) (n : ℕ) → At j e st → (o : Option ℕ) → Is (with_desk (at st j e n) (ticketed (at st j e n).desk o))
  on_ticket st j e n h None = stays st j e n h
  on_ticket st j e n h (Some zero) = stays st (record j { ticket = Some (n + 1) }) e (n + 1) (other_job c lists hosts (goals_of ask) j (record j { ticket = Some (n + 1) }) e st refl refl h)
  on_ticket st j e n h (Some (suc i)) = stays st j e (n + 1) h

  -- what a planner is given for the job
  problem_is : (j : Job) (e : State) (n : ℕ) → At j e status.Active
      → problem_at (present file e.hosts samples) (at status.Active j e n).desk 0 ≡ record { case = c; start = lists; goals = goals_of ask }
  unfolding problem_at
  problem_is j e n h = made (case_of ask (present file e.hosts samples)) (settled_lists e) j.goals (rw h.1.hosts_are case_is) (lists_settled lists hosts e h.1) h.0 where
    made : (d : Cluster) (l : Lists) (g : List GoalKind) → d ≡ c → l ≡ lists → g ≡ goals_of ask → ◌≡◌ {A = ProblemView} (record { case = d; start = l; goals = g }) (record { case = c; start = lists; goals = goals_of ask })
    made d l g p q r = cc

  -- a plan for it is brought
  plan_is : (j : Job) (e : State) (n : ℕ) (p : PlanView) → At j e status.Active → IsPlan p → is_plan_for (present file e.hosts samples) (at status.Active j e n).desk 0 p ≡ true
      → IsPlanOf c lists (goals_of ask) p
  plan_is j e n p h legal q =
      let same : problem_of_plan p ≡ record { case = c; start = lists; goals = goals_of ask } =
      (sameness_is_equality.problems (problem_of_plan p) (problem_at (present file e.hosts samples) (at status.Active j e n).desk 0)).0 q ∙ problem_is j e n h in
      record {
        case_is = ap (λ (x : ProblemView). x.case) same;
        start_is = ap (λ (x : ProblemView). x.start) same;
        goals_are = ap (λ (x : ProblemView). x.goals) same;
        kept = legal;
      }

  failure_is : (j : Job) (e : State) (n : ℕ) (f : FailureView) → At j e status.Active → IsFailure f → is_failure_for (present file e.hosts samples) (at status.Active j e n).desk 0 f ≡ true
      → IsFailureOf c lists (goals_of ask) f
  failure_is j e n f h legal q =
      let same : problem_of_failure f ≡ record { case = c; start = lists; goals = goals_of ask } =
      (sameness_is_equality.problems (problem_of_failure f) (problem_at (present file e.hosts samples) (at status.Active j e n).desk 0)).0 q ∙ problem_is j e n h in
      record {
        case_is = ap (λ (x : ProblemView). x.case) same;
        start_is = ap (λ (x : ProblemView). x.start) same;
        goals_are = ap (λ (x : ProblemView). x.goals) same;
        kept = legal;
      }

  -- its proposals are launched, where there are any
  led : (j : Job) (e : State) (n : ℕ) (p : PlanView) (ps : List Proposal) → At j e status.Active → IsPlanOf c lists (goals_of ask) p → ps ≡ proposals lists p.end
      → Is (with_desk (at status.Active j e n) (with_plan (at status.Active j e n).desk 0 ps))
  led j e n p [] h is same =
      stays status.Completed (record j { ticket = None; proposals = [] }) e n (record { plan = p; planned = is; calm = subst (λ qs. IsCalm lists hosts qs e) same h.1 })
  led j e n p (x ∷ xs) h is same = rw wet (
      stays status.InExecution (record j { ticket = None; proposals = x ∷ xs }) (after_launch e (x ∷ xs)) n
      (record { plan = p; planned = is; calm = subst (λ qs. IsCalm lists hosts qs (after_launch e (x ∷ xs))) same (calm_launch lists hosts (x ∷ xs) e h.1) }))

  -- the job of a ticket is active, and the only one
  on_plan : (st : Status) (j : Job) (e : State) (n i : ℕ) (p : PlanView) → i < 1 → is_active st ≡ true → At j e st → IsPlan p
      → Is (with_desk (at st j e n) (planned (moment_of file (at st j e n)) (at st j e n).desk p (Some i)))
  on_plan status.Active j e n zero p l a h legal = by (is_plan_for (present file e.hosts samples) (at status.Active j e n).desk 0 p) refl where
    by : (b : Bool) → is_plan_for (present file e.hosts samples) (at status.Active j e n).desk 0 p ≡ b
        → Is (with_desk (at status.Active j e n) (cond b (with_plan (at status.Active j e n).desk 0 (proposals p.start p.end)) (unticketed (at status.Active j e n).desk 0)))
    by true q =
        let is = plan_is j e n p h legal q in
        led j e n p (proposals p.start p.end) h is (ap (λ (l : Lists). proposals l p.end) is.start_is)
    by false q = stays status.Active (record j { ticket = None }) e n h
  on_plan status.Active j e n (suc i) p l a h legal = absurd (omega arith)
  on_plan status.InExecution j e n i p l a h legal = absurd (false≢true a)
  on_plan status.Completed j e n i p l a h legal = absurd (false≢true a)
  on_plan status.CompletedWithError j e n i p l a h legal = absurd (false≢true a)

  on_failure : (st : Status) (j : Job) (e : State) (n i : ℕ) (f : FailureView) → i < 1 → is_active st ≡ true → At j e st → IsFailure f
      → Is (with_desk (at st j e n) (refused (moment_of file (at st j e n)) (at st j e n).desk f (Some i)))
  on_failure status.Active j e n zero f l a h legal = by (is_failure_for (present file e.hosts samples) (at status.Active j e n).desk 0 f) refl where
    by : (b : Bool) → is_failure_for (present file e.hosts samples) (at status.Active j e n).desk 0 f ≡ b
        → Is (with_desk (at status.Active j e n) (cond b (with_failure (at status.Active j e n).desk 0 f) (unticketed (at status.Active j e n).desk 0)))
    by true q = stays status.CompletedWithError (record j { ticket = None; broken = Some (record { goal = goal_failed f; left = f.left }) }) e n
        (record { failure = f; failed = failure_is j e n f h legal q; broken_is = refl; calm = h.1 })
    by false q = stays status.Active (record j { ticket = None }) e n h
  on_failure status.Active j e n (suc i) f l a h legal = absurd (omega arith)
  on_failure status.InExecution j e n i f l a h legal = absurd (false≢true a)
  on_failure status.Completed j e n i f l a h legal = absurd (false≢true a)
  on_failure status.CompletedWithError j e n i f l a h legal = absurd (false≢true a)

  module _ (st : Status) (j : Job) (e : State) (n : ℕ) (h : At j e st) (sound : IsSound file (at st j e n).desk) where
    -- the executor moves on, and stays calm
    to : (u : State) → ((ps : List Proposal) → IsCalm lists hosts ps e → IsCalm lists hosts ps u) → Is (with_desk (at st j e n) (moved (at st j e n).desk u))
    to u f = moved_on c lists hosts (goals_of ask) ask samples j e u n st (other_exec c lists hosts (goals_of ask) j e u st f h)

    by_plan : (p : PlanView) (ticket : ℕ) → IsPlan p → (o : Option ℕ) → holder_of ticket (j ∷ []) ≡ o
        → Is (with_desk (at st j e n) (planned (moment_of file (at st j e n)) (at st j e n).desk p o))
    by_plan p ticket legal None q = stays st j e n h
    by_plan p ticket legal (Some i) q =
        let held = holder_active (at st j e n).desk ticket i sound.tasks sound.tickets q in
        on_plan st j e n i p held.0 (active i held.0 held.2) h legal
      where
        active : (i : ℕ) → i < 1 → is_active (user_task_at (at st j e n).desk.tasks i).status ≡ true → is_active st ≡ true
        active zero l a = a
        active (suc i) l a = absurd (omega arith)

    by_failure : (f : FailureView) (ticket : ℕ) → IsFailure f → (o : Option ℕ) → holder_of ticket (j ∷ []) ≡ o
        → Is (with_desk (at st j e n) (refused (moment_of file (at st j e n)) (at st j e n).desk f o))
    by_failure f ticket legal None q = stays st j e n h
    by_failure f ticket legal (Some i) q =
        let held = holder_active (at st j e n).desk ticket i sound.tasks sound.tickets q in
        on_failure st j e n i f held.0 (active i held.0 held.2) h legal
      where
        active : (i : ℕ) → i < 1 → is_active (user_task_at (at st j e n).desk.tasks i).status ≡ true → is_active st ≡ true
        active zero l a = a
        active (suc i) l a = absurd (omega arith)

    by_copy : (lease : ℕ) (b : Bool) → Is (with_desk (at st j e n) (cond b (moved (at st j e n).desk (after_copied e lease)) (at st j e n).desk))
    by_copy lease true = to (after_copied e lease) (λ ps. calm_copied lists hosts ps e lease)
    by_copy lease false = stays st j e n h

    one_step : (x : Event) → is_calm x ≡ true → IsLegal x → Is (next file (at st j e n) x)
    one_step event.PlanTake k legal = on_ticket st j e n h (first_waiting (at st j e n).desk)
    one_step (event.Planned ticket plan) k legal = by_plan plan ticket legal (holder_of ticket (j ∷ [])) refl
    one_step (event.Refused ticket failure) k legal = by_failure failure ticket legal (holder_of ticket (j ∷ [])) refl
    one_step event.Take k legal = to (after_take e) (λ ps. calm_take lists hosts ps e)
    one_step (event.Copied receipt) k legal = by_copy receipt.lease (is_receipt e receipt)
    one_step (event.Commit lease) k legal = to (after_commit e lease) (λ ps. calm_commit lists hosts ps e lease)
    one_step (event.Cancel lease) k legal = to (after_cancel e lease) (λ ps. calm_cancel lists hosts ps e lease sound.exec.valid)
    one_step _ k legal = absurd (false≢true k)

  pub step_keeps : (s : Core) (x : Event) → IsSound file s.desk → is_calm x ≡ true → IsLegal x → Is s → Is (next file s x)
  step_keeps s x sound k legal u = subst (λ (y : Core). Is (next file y x)) (sym u.core_is)
      (one_step u.status u.job u.exec u.tickets u.stage (subst (λ (y : Core). IsSound file y.desk) u.core_is sound) x k legal)
