-- Each event keeps the executor valid.
use Rattle.std.proofs.Common.{◌≡◌, ℕ, ◌≤◌, Bool, true, false, cond, List, length, refl}
use Rattle.std.specs.Prelude.{Option, Some, None, IfSome}
use Rattle.plan_terms.specs.declared.settings.Caps.{Caps}
use Rattle.core_terms.specs.Caps.{CapsAsked, IsCap, IsCapChange, or_kept, caps_changed}
use Rattle.std.specs.List.{list_all, position}
use Rattle.exec_terms.specs.Words.{is_completed}
use Rattle.plan_terms.specs.Change.{proposals}
use Rattle.goal_set.specs.Kept.{PlanView, FailureView}
use Rattle.exec_terms.specs.Machine.{State}
use Rattle.exec_terms.specs.Valid.{IsValid}
use Rattle.exec_terms.specs.Runs.{Event as Move, CapsSet, Take, Copied, CopyFailed, Committed, Cancelled, GivenBack, Stops, Killed, Launched, CanHappen, after_event}
use Rattle.exec_terms.proofs.Launch.{each_event_keeps}
use Rattle.user_tasks.specs.Asks.{AskView, changes_factor}
use Rattle.user_tasks.specs.declared.table.Status.TheVariants as status
use Rattle.core_terms.specs.State.{Desk, Moment, moment_of}
use Rattle.cluster_json.specs.File.{Meaning}
use Rattle.plan_terms.specs.declared.lists.Proposal.{Proposal}
use Rattle.core_terms.specs.Jobs.{MayLaunch, admitted, is_done_at_once, is_in_execution, user_task_at, with_job, with_plan, with_status}
use Rattle.core_terms.specs.Submits.{MayChange, after_new, change_refusal, changes_asked, refusal_of, unless_refused, unless_unchanged}
use Rattle.core_terms.specs.Plans.{holder_of, first_waiting, ticketed, planned, planned_back, refused, with_failure, unticketed, is_plan_for, is_failure_for, MayPlan}
use Rattle.core_terms.specs.Works.{caps_of, ended_job, ends_execution, execution_ended, with_exec, moved, is_receipt}
use Rattle.core_terms.specs.declared.events.Event.TheVariants as event
use Rattle.core_terms.specs.declared.replies.Reply.{Reply}
use Rattle.core_laws.specs.Laws.{EventsKeepValid}

-- the executor has moved on, whatever becomes of the user tasks
pub exec_moved : (d : Desk) (e : State) → (moved d e).exec ≡ e
exec_moved d e = by (ends_execution d.exec.tasks e.tasks) where
  found : (o : Option ℕ) → (execution_ended (with_exec d e) o).exec ≡ e
  found None = refl
  found (Some i) = ending (list_all (λ t. is_completed t.phase) e.tasks)
    where
      ending : (b : Bool) → (cond b (with_status (with_exec d e) i status.Completed) (with_status (with_job (with_exec d e) i (ended_job (with_exec d e) i)) i status.CompletedWithError)).exec ≡ e
      ending true = refl
      ending false = refl

  by : (b : Bool) → (cond b (execution_ended (with_exec d e) (position (λ t. is_in_execution t.status) d.tasks)) (with_exec d e)).exec ≡ e
  by true = found (position (λ t. is_in_execution t.status) d.tasks)
  by false = refl

move_keeps : (d : Desk) (e : Move) → CanHappen d.exec e → IsValid d.exec → IsValid (moved d (after_event d.exec e)).exec
move_keeps d e can v = rw (exec_moved d (after_event d.exec e)) (each_event_keeps d.exec e can v)

after_take : (d : Desk) (o : Option ℕ) → IsValid d.exec → IsValid (ticketed d o).exec
after_take d None v = v
after_take d (Some i) v = v

after_back : (d : Desk) (o : Option ℕ) → IsValid d.exec → IsValid (planned_back d o).exec
after_back d None v = v
after_back d (Some i) v = v

after_failure : (now : Moment) (d : Desk) (f : FailureView) → IsValid d.exec → (o : Option ℕ) → IsValid (refused now d f o).exec
after_failure now d f v None = v
after_failure now d f v (Some i) = by (is_failure_for now.cluster d i f) where
  by : (b : Bool) → IsValid (cond b (with_failure d i f) (unticketed d i)).exec
  by true = v
  by false = v

-- the plan of a user task
planned_at : (d : Desk) (i : ℕ) (ps : List Proposal) → IsValid d.exec → MayLaunch d i ps → IsValid (with_plan d i ps).exec
planned_at d i ps v may = chosen (is_done_at_once (user_task_at d.tasks i) ps) refl where
  chosen : (b : Bool) → is_done_at_once (user_task_at d.tasks i) ps ≡ b → IsValid (with_plan d i ps).exec
  chosen true r = rw r v
  chosen false r = rw r (each_event_keeps d.exec (Launched ps) (may r).1 v)

-- a plan that is launched
after_plan : (now : Moment) (d : Desk) (n : ℕ) (p : PlanView) → IsValid d.exec → MayPlan now.cluster d n p → (o : Option ℕ) → holder_of n d.jobs ≡ o → IsValid (planned now d p o).exec
after_plan now d n p v may None e = v
after_plan now d n p v may (Some i) e = by (is_plan_for now.cluster d i p) refl where
  by : (b : Bool) → is_plan_for now.cluster d i p ≡ b → IsValid (cond b (with_plan d i (proposals p.start p.end)) (unticketed d i)).exec
  by true q = planned_at d i (proposals p.start p.end) v (may i e q)
  by false q = v

after_request : (d : Desk) (o : Option Reply) (ask : AskView) → IsValid d.exec → IsValid (unless_refused d ask o).exec
after_request d (Some r) ask v = v
after_request d None ask v = v

-- a change of the replication factor
after_change : (d : Desk) (ask : AskView) (ps : List Proposal) → IsValid d.exec → (o : Option Reply) → (o ≡ None → MayLaunch (admitted d ask) (length d.tasks) ps) → IsValid (unless_unchanged d ask ps o).exec
after_change d ask ps v (Some r) may = v
after_change d ask ps v None may = planned_at (admitted d ask) (length d.tasks) ps v (may refl)

-- a request without an id
after_asked : (file : Meaning) (now : Moment) (d : Desk) (ask : AskView) → IsValid d.exec → MayChange now d ask → (b : Bool) → changes_factor ask ≡ b → IsValid (after_new file now d ask b).exec
after_asked file now d ask v may true e = after_change d ask (changes_asked now d ask) v (change_refusal now d ask) (may e)
after_asked file now d ask v may false e = after_request d (refusal_of file now d ask) ask v

unless_closing : (d : Desk) (e : Move) → CanHappen d.exec e → IsValid d.exec → (b : Bool) → IsValid (cond b d (moved d (after_event d.exec e))).exec
unless_closing d e can v true = v
unless_closing d e can v false = move_keeps d e can v

unless_closed : (d : Desk) (e : Move) → CanHappen d.exec e → IsValid d.exec → (b : Bool) → IsValid (cond b d (with_exec d (after_event d.exec e))).exec
unless_closed d e can v true = v
unless_closed d e can v false = each_event_keeps d.exec e can v

some_cap : (n : ℕ) (o : Option ℕ) → 1 ≤ n → IfSome o IsCap → 1 ≤ or_kept n o
some_cap n None l h = l
some_cap n (Some m) l h = h.some

-- each cap in force stays at least 1
pub some_caps : (caps : Caps) (asked : CapsAsked) → (1 ≤ caps.broker) × (1 ≤ caps.cluster) × (1 ≤ caps.leader) → IsCapChange asked
    → (1 ≤ (caps_changed caps asked).broker) × (1 ≤ (caps_changed caps asked).cluster) × (1 ≤ (caps_changed caps asked).leader)
some_caps caps asked l h = (some_cap caps.broker asked.broker l.0 h.broker, some_cap caps.cluster asked.cluster l.1 h.cluster, some_cap caps.leader asked.leader l.2 h.leader)

where_receipt : (d : Desk) (e : Move) → CanHappen d.exec e → IsValid d.exec → (b : Bool) → IsValid (cond b (moved d (after_event d.exec e)) d).exec
where_receipt d e can v true = move_keeps d e can v
where_receipt d e can v false = v

pub events_keep_valid : EventsKeepValid
events_keep_valid file s (event.Submit ask None) legal may v = after_asked file (moment_of file s) s.desk ask v may (changes_factor ask) refl
events_keep_valid file s event.PlanTake legal may v = after_take s.desk (first_waiting s.desk) v
events_keep_valid file s (event.Planned ticket plan) legal may v = after_plan (moment_of file s) s.desk ticket plan v may (holder_of ticket s.desk.jobs) refl
events_keep_valid file s (event.Refused ticket failure) legal may v = after_failure (moment_of file s) s.desk failure v (holder_of ticket s.desk.jobs)
events_keep_valid file s (event.PlanBack ticket) legal may v = after_back s.desk (holder_of ticket s.desk.jobs) v
events_keep_valid file s (event.Stop force) legal may v = unless_closing s.desk (Stops force) tt v s.desk.closing
events_keep_valid file s (event.Kill broker) legal may v = unless_closing s.desk (Killed broker) tt v s.desk.closing
events_keep_valid file s (event.Caps asked) legal may v = unless_closed s.desk (CapsSet (caps_of s.desk asked)) (some_caps s.desk.exec.caps asked (v.broker_cap, v.cluster_cap, v.leader_cap) legal) v s.desk.closing
events_keep_valid file s (event.Heal cause ask) legal may v = after_asked file (moment_of file s) s.desk ask v may (changes_factor ask) refl
events_keep_valid file s event.Take legal may v = move_keeps s.desk Take tt v
events_keep_valid file s (event.Copied receipt) legal may v = where_receipt s.desk (Copied receipt.lease) tt v (is_receipt s.desk.exec receipt)
events_keep_valid file s (event.CopyFailed lease) legal may v = move_keeps s.desk (CopyFailed lease) tt v
events_keep_valid file s (event.Commit lease) legal may v = move_keeps s.desk (Committed lease) tt v
events_keep_valid file s (event.Cancel lease) legal may v = move_keeps s.desk (Cancelled lease) tt v
events_keep_valid file s (event.GiveBack lease) legal may v = move_keeps s.desk (GivenBack lease) tt v
events_keep_valid file s _ legal may v = v
