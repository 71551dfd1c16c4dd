-- Each event keeps what holds of the user tasks.
use Rattle.std.proofs.Common.{◌≡◌, ℕ, ◌+◌, ◌≤◌, Bool, true, false, cond, List, [], ◌∷◌, ◌<◌, length, set, arith, refl, ap}
use Rattle.std.specs.Prelude.{Option, Some, None, nat_le, option_map}
use Rattle.std.specs.List.{count_by, position}
use Rattle.std.proofs.lemmas.Bool.Decides.{nat_tests}
use Rattle.std.proofs.lemmas.List.{length-set, length-append, get_or_push}
use Rattle.plan_terms.specs.Change.{proposals}
use Rattle.plan_terms.specs.declared.lists.Proposal.{Proposal}
use Rattle.goal_set.specs.Kept.{PlanView, FailureView}
use Rattle.exec_terms.specs.Machine.{State, any_unfinished, first_unfinished, after_caps, after_launch}
use Rattle.exec_terms.specs.Valid.{IsValid}
use Rattle.exec_terms.specs.Runs.{Event as Move, Take, Copied, CopyFailed, Committed, Cancelled, GivenBack, Stops, Killed, IsLaunch, after_event}
use Rattle.cluster_json.specs.File.{Meaning}
use Rattle.user_tasks.specs.Tasks.{open_count}
use Rattle.user_tasks.specs.Asks.{AskView, changes_factor}
use Rattle.user_tasks.specs.declared.table.Status.TheVariants as status
use Rattle.user_tasks.specs.declared.table.UserTask.{UserTask}
use Rattle.core_terms.specs.Asked.{is_dry}
use Rattle.core_terms.specs.State.{Desk, Moment, moment_of, job_at}
use Rattle.core_terms.specs.Jobs.{MayLaunch, admitted, executing, id_at, is_active, is_in_execution, new_job, no_user_task, planned_job, plans_execution, user_task_at, with_plan}
use Rattle.core_terms.specs.Submits.{MayChange, after_new, change_refusal, changes_asked, closing_refusal, names_refusal, open_refusal, resize_refusal, windows_refusal, refused_if, refusal_of, unless_refused, unless_unchanged, first_executing}
use Rattle.std.specs.Option.{option_or}
use Rattle.core_terms.specs.Plans.{holder_of, first_waiting, ticketed, planned, planned_back, refused, with_failure, is_plan_for, is_failure_for, MayPlan}
use Rattle.core_terms.specs.Works.{caps_of, is_receipt, moved, with_exec}
use Rattle.core_terms.specs.Sound.{AreTasks, AreTickets}
use Rattle.core_terms.specs.declared.events.Event.TheVariants as event
use Rattle.core_terms.specs.declared.replies.Reply.{Reply}
use Rattle.core_terms.specs.declared.replies.Reply.TheVariants as reply
use Rattle.core_laws.proofs.Counts.{count_by-absent}
use Rattle.core_laws.proofs.UserTasks.{over_completed, over_error, same_tasks}
use Rattle.core_laws.specs.Laws.{EventsKeepTasks}
use Rattle.core_laws.proofs.Moves.{moves_keep_tasks}
use Rattle.core_laws.proofs.Jobs.{jobs_changed, one_over, one_launched, one_more, holder_active}

-- a job's ticket ends
ticket_ends : (d : Desk) (i : ℕ) → AreTasks d → AreTasks (record d { jobs = set d.jobs i (record (job_at d.jobs i) { ticket = None }) })
ticket_ends d i a = jobs_changed d (set d.jobs i (record (job_at d.jobs i) { ticket = None })) d.tickets (length-set d.jobs i (record (job_at d.jobs i) { ticket = None })) a

after_take : (d : Desk) (o : Option ℕ) → AreTasks d → AreTasks (ticketed d o)
after_take d None a = a
after_take d (Some i) a = jobs_changed d (set d.jobs i (record (job_at d.jobs i) { ticket = Some (d.tickets + 1) })) (d.tickets + 1) (length-set d.jobs i (record (job_at d.jobs i) { ticket = Some (d.tickets + 1) })) a

after_back : (d : Desk) (o : Option ℕ) → AreTasks d → AreTasks (planned_back d o)
after_back d None a = a
after_back d (Some i) a = ticket_ends d i a

-- a failure
after_failure : (now : Moment) (d : Desk) (n : ℕ) (f : FailureView) → AreTickets d → AreTasks d → (o : Option ℕ) → holder_of n d.jobs ≡ o → AreTasks (refused now d f o)
after_failure now d n f t a None e = a
after_failure now d n f t a (Some i) e = by (is_failure_for now.cluster d i f) where
  by : (b : Bool) → AreTasks (cond b (with_failure d i f) (record d { jobs = set d.jobs i (record (job_at d.jobs i) { ticket = None }) }))
  by true = let h = holder_active d n i a t e in one_over d _ i status.CompletedWithError a (length-set d.jobs i _) over_error h.1 h.2
  by false = ticket_ends d i a

-- the plan of an active user task
planned_at : (d : Desk) (i : ℕ) (ps : List Proposal) → AreTasks d → i < length d.tasks → is_active (user_task_at d.tasks i).status ≡ true → MayLaunch d i ps → AreTasks (with_plan d i ps)
planned_at d i [] a l h may = one_over d _ i status.Completed a (length-set d.jobs i _) over_completed l h
planned_at d i (x ∷ xs) a l h may = dry (is_dry (user_task_at d.tasks i).ask) refl
  where
    dry : (b : Bool) → is_dry (user_task_at d.tasks i).ask ≡ b
        → AreTasks (cond b (record d { jobs = set d.jobs i (planned_job (job_at d.jobs i) (x ∷ xs)); tasks = set d.tasks i (record (user_task_at d.tasks i) { status = status.Completed }) })
        (record d { exec = after_launch d.exec (x ∷ xs); jobs = set d.jobs i (planned_job (job_at d.jobs i) (x ∷ xs)); tasks = set d.tasks i (record (user_task_at d.tasks i) { status = status.InExecution }) }))
    dry true w = one_over d _ i status.Completed a (length-set d.jobs i _) over_completed l h
    dry false w =
        let free : first_unfinished d.exec ≡ None = (may w).0 in
        rw free (one_launched d _ i x xs a (length-set d.jobs i (planned_job (job_at d.jobs i) (x ∷ xs))) l h w free)

-- a plan
after_plan : (now : Moment) (d : Desk) (n : ℕ) (p : PlanView) → AreTickets d → AreTasks d → MayPlan now.cluster d n p → (o : Option ℕ) → holder_of n d.jobs ≡ o → AreTasks (planned now d p o)
after_plan now d n p t a may None e = a
after_plan now d n p t a may (Some i) e = by (is_plan_for now.cluster d i p) refl where
  by : (b : Bool) → is_plan_for now.cluster d i p ≡ b → AreTasks (cond b (with_plan d i (proposals p.start p.end)) (record d { jobs = set d.jobs i (record (job_at d.jobs i) { ticket = None }) }))
  by true q = let h = holder_active d n i a t e in planned_at d i (proposals p.start p.end) a h.1 h.2 (may i e q)
  by false q = ticket_ends d i a

-- no refusal of several is none of each
or_none : (a b : Option Reply) → option_or a b ≡ None → (a ≡ None) × (b ≡ None)
or_none None b e = (refl, e)
or_none (Some r) b e = cc

map_none : (f : ℕ → Reply) (o : Option ℕ) → option_map f o ≡ None → o ≡ None
map_none f None e = refl
map_none f (Some i) e = cc

if_none : (b : Bool) (r : Reply) → refused_if b r ≡ None → b ≡ false
if_none true r e = cc
if_none false r e = refl

-- where no user task is in the way, no task is unfinished and no plan is being made that is to be carried out
pub none_executes : (d : Desk) → AreTasks d → executing d ≡ None → (count_by plans_execution d.tasks ≡ 0) × (any_unfinished d.exec.tasks ≡ false)
none_executes d a e = by (any_unfinished d.exec.tasks) refl e where
  by : (b : Bool) → any_unfinished d.exec.tasks ≡ b → cond b (position (λ t. is_in_execution t.status) d.tasks) (position plans_execution d.tasks) ≡ None
      → (count_by plans_execution d.tasks ≡ 0) × (any_unfinished d.exec.tasks ≡ false)
  by true q h = absurd (omega (arith, count_by-absent (λ t. is_in_execution t.status) d.tasks no_user_task h, a.busy q))
  by false q h = (count_by-absent plans_execution d.tasks no_user_task h, q)

-- a request that meets no other one is one more user task
admits : (d : Desk) (ask : AskView) → AreTasks d → open_refusal d ask ≡ None → AreTasks (admitted d ask)
admits d ask a e =
    let free = or_none (option_map (λ i. reply.Executing (id_at i)) (first_executing d ask)) (refused_if (nat_le 16 (open_count d.tasks)) reply.TooManyActive) e in
    let few : open_count d.tasks ≤ 15 = under (open_count d.tasks) (if_none (nat_le 16 (open_count d.tasks)) reply.TooManyActive free.1) in
    one_more d (new_job ask) ask a few (λ wet. none_executes d a (rw wet at (map_none (λ i. reply.Executing (id_at i)) (first_executing d ask) free.0)))
  where
    under : (n : ℕ) → nat_le 16 n ≡ false → n ≤ 15
    under n h = grind (arith, nat_tests)

-- the newest user task
pub newest : (d : Desk) (ask : AskView) → user_task_at (admitted d ask).tasks (length d.tasks) ≡ record { ask = ask; status = status.Active }
newest d ask = get_or_push d.tasks (record { ask = ask; status = status.Active }) no_user_task (length d.tasks) refl

-- what stands in the way of a change of the replication factor
pub none_in_the_way : (now : Moment) (d : Desk) (ask : AskView) → change_refusal now d ask ≡ None → (closing_refusal d ≡ None) × (open_refusal d ask ≡ None) × (resize_refusal now d ask ≡ None)
unfolding change_refusal
none_in_the_way now d ask e =
    let later = or_none (closing_refusal d) (option_or (open_refusal d ask) (resize_refusal now d ask)) e in
    let rest = or_none (open_refusal d ask) (resize_refusal now d ask) later.1 in
    (later.0, rest.0, rest.1)

-- where one that is to be carried out is taken, no task is unfinished
pub none_unfinished : (now : Moment) (d : Desk) (ask : AskView) → AreTasks d → change_refusal now d ask ≡ None → is_dry ask ≡ false → any_unfinished d.exec.tasks ≡ false
none_unfinished now d ask a e wet =
    let free = or_none (option_map (λ i. reply.Executing (id_at i)) (first_executing d ask)) (refused_if (nat_le 16 (open_count d.tasks)) reply.TooManyActive) (none_in_the_way now d ask e).1 in
    (none_executes d a (rw wet at (map_none (λ i. reply.Executing (id_at i)) (first_executing d ask) free.0))).1

-- a change of the replication factor
after_change : (now : Moment) (d : Desk) (ask : AskView) (ps : List Proposal) → AreTasks d → (o : Option Reply) → change_refusal now d ask ≡ o → (o ≡ None → MayLaunch (admitted d ask) (length d.tasks) ps)
    → AreTasks (unless_unchanged d ask ps o)
after_change now d ask ps a (Some r) e may = a
after_change now d ask ps a None e may =
    planned_at (admitted d ask) (length d.tasks) ps (admits d ask a (none_in_the_way now d ask e).1) (omega (arith, length-append d.tasks (record { ask = ask; status = status.Active } ∷ [])))
    (ap (λ (t : UserTask). is_active t.status) (newest d ask)) (may refl)

-- a request that is not refused
after_request : (file : Meaning) (now : Moment) (d : Desk) (ask : AskView) → AreTasks d → (o : Option Reply) → refusal_of file now d ask ≡ o → AreTasks (unless_refused d ask o)
unfolding refusal_of
after_request file now d ask a (Some r) e = a
after_request file now d ask a None e =
    let later = (or_none (names_refusal file ask) (option_or (open_refusal d ask) (windows_refusal file now)) (or_none (closing_refusal d) (option_or (names_refusal file ask) (option_or (open_refusal d ask) (windows_refusal file now))) e).1).1 in
    admits d ask a (or_none (open_refusal d ask) (windows_refusal file now) later).0

-- a request without an id
after_asked : (file : Meaning) (now : Moment) (d : Desk) (ask : AskView) → AreTasks d → MayChange now d ask → (b : Bool) → changes_factor ask ≡ b → AreTasks (after_new file now d ask b)
after_asked file now d ask a may true e = after_change now d ask (changes_asked now d ask) a (change_refusal now d ask) refl (may e)
after_asked file now d ask a may false e = after_request file now d ask a (refusal_of file now d ask) refl

-- an event that is refused where Close was asked
unless_closing : (d : Desk) (e : Move) → (IsLaunch e → ⊥) → IsValid d.exec → AreTasks d → (b : Bool) → AreTasks (cond b d (moved d (after_event d.exec e)))
unless_closing d e nl v a true = a
unless_closing d e nl v a false = moves_keep_tasks d e nl v a

unless_closed : (d : Desk) (e : State) → any_unfinished e.tasks ≡ any_unfinished d.exec.tasks → AreTasks d → (b : Bool) → AreTasks (cond b d (with_exec d e))
unless_closed d e same a true = a
unless_closed d e same a false = same_tasks d e a same

where_receipt : (d : Desk) (e : Move) → (IsLaunch e → ⊥) → IsValid d.exec → AreTasks d → (b : Bool) → AreTasks (cond b (moved d (after_event d.exec e)) d)
where_receipt d e nl v a true = moves_keep_tasks d e nl v a
where_receipt d e nl v a false = a

pub events_keep_tasks : EventsKeepTasks
events_keep_tasks file s (event.Submit ask None) may v t a = after_asked file (moment_of file s) s.desk ask a may (changes_factor ask) refl
events_keep_tasks file s event.PlanTake may v t a = after_take s.desk (first_waiting s.desk) a
events_keep_tasks file s (event.Planned ticket plan) may v t a = after_plan (moment_of file s) s.desk ticket plan t a may (holder_of ticket s.desk.jobs) refl
events_keep_tasks file s (event.Refused ticket failure) may v t a = after_failure (moment_of file s) s.desk ticket failure t a (holder_of ticket s.desk.jobs) refl
events_keep_tasks file s (event.PlanBack ticket) may v t a = after_back s.desk (holder_of ticket s.desk.jobs) a
events_keep_tasks file s (event.Stop force) may v t a = unless_closing s.desk (Stops force) (λ h. h) v a s.desk.closing
events_keep_tasks file s (event.Kill broker) may v t a = unless_closing s.desk (Killed broker) (λ h. h) v a s.desk.closing
events_keep_tasks file s (event.Caps asked) may v t a = unless_closed s.desk (after_caps s.desk.exec (caps_of s.desk asked)) refl a s.desk.closing
events_keep_tasks file s (event.Heal cause ask) may v t a = after_asked file (moment_of file s) s.desk ask a may (changes_factor ask) refl
events_keep_tasks file s event.Take may v t a = moves_keep_tasks s.desk Take (λ h. h) v a
events_keep_tasks file s (event.Copied receipt) may v t a = where_receipt s.desk (Copied receipt.lease) (λ h. h) v a (is_receipt s.desk.exec receipt)
events_keep_tasks file s (event.CopyFailed lease) may v t a = moves_keep_tasks s.desk (CopyFailed lease) (λ h. h) v a
events_keep_tasks file s (event.Commit lease) may v t a = moves_keep_tasks s.desk (Committed lease) (λ h. h) v a
events_keep_tasks file s (event.Cancel lease) may v t a = moves_keep_tasks s.desk (Cancelled lease) (λ h. h) v a
events_keep_tasks file s (event.GiveBack lease) may v t a = moves_keep_tasks s.desk (GivenBack lease) (λ h. h) v a
events_keep_tasks file s event.Close may v t a = record { one_each = a.one_each; few_open = a.few_open; one_plans = a.one_plans; none_plans = a.none_plans; idle = a.idle; busy = a.busy }
events_keep_tasks file s _ may v t a = a
