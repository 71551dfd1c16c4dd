-- Requests end only after a Close.
use Rattle.std.proofs.Common.{◌≡◌, ◌∙◌, ℕ, Bool, true, false, ◌||◌, cond, List, [], ◌∷◌, length, refl, sym}
use Rattle.std.specs.Prelude.{Option, Some, None, fold}
use Rattle.std.specs.List.{list_all, list_any, position}
use Rattle.std.proofs.lemmas.Bool.{true≢false}
use Rattle.plan_terms.specs.Change.{proposals}
use Rattle.goal_set.specs.Kept.{PlanView, FailureView}
use Rattle.cluster_json.specs.File.{Meaning}
use Rattle.exec_terms.specs.Machine.{State, after_caps, after_take, after_launch}
use Rattle.exec_terms.specs.Leases.{after_copied, after_copy_failed, after_commit, after_cancel, end_lease}
use Rattle.exec_terms.specs.Stops.{after_stop, after_kill}
use Rattle.exec_terms.specs.Words.{is_completed}
use Rattle.user_tasks.specs.Asks.{AskView, changes_factor}
use Rattle.plan_terms.specs.declared.lists.Proposal.{Proposal}
use Rattle.user_tasks.specs.declared.table.Status.TheVariants as status
use Rattle.core_terms.specs.State.{Desk, Core, Moment, moment_of, opening_desk, opening_of, job_at}
use Rattle.core_terms.specs.Jobs.{admitted, user_task_at, is_done_at_once, is_in_execution, planned_job, with_job, with_plan, with_status}
use Rattle.core_terms.specs.Submits.{after_new, change_refusal, changes_asked, refusal_of, unless_refused, unless_unchanged}
use Rattle.core_terms.specs.Plans.{first_waiting, holder_of, ticketed, unticketed, planned, planned_back, refused, with_failure, is_plan_for, is_failure_for}
use Rattle.core_terms.specs.Works.{caps_of, ended_job, ends_execution, execution_ended, is_receipt, moved, with_exec}
use Rattle.core_terms.specs.Step.{next}
use Rattle.core_terms.specs.History.{state_after}
use Rattle.core_terms.specs.declared.events.Event.{Event}
use Rattle.core_terms.specs.declared.events.Event.TheVariants as event
use Rattle.core_terms.specs.declared.replies.Reply.{Reply}
use Rattle.core_laws.specs.Events.{ClosingWasAsked, is_close}

module _ (d : Desk) where
  after_submit : (ask : AskView) (o : Option Reply) → (unless_refused d ask o).closing ≡ d.closing
  after_submit ask None = refl
  after_submit ask (Some r) = refl

  planned_at : (i : ℕ) (ps : List Proposal) → (with_plan d i ps).closing ≡ d.closing
  planned_at i ps = by (is_done_at_once (user_task_at d.tasks i) ps) where
    by : (c : Bool) → (cond c (with_status (with_job d i (planned_job (job_at d.jobs i) ps)) i status.Completed)
        (record (with_status (with_job d i (planned_job (job_at d.jobs i) ps)) i status.InExecution) { exec = after_launch d.exec ps })).closing ≡ d.closing
    by true = refl
    by false = refl

  after_taken : (o : Option ℕ) → (ticketed d o).closing ≡ d.closing
  after_taken None = refl
  after_taken (Some i) = refl

  after_back : (o : Option ℕ) → (planned_back d o).closing ≡ d.closing
  after_back None = refl
  after_back (Some i) = refl

  after_refused : (now : Moment) (f : FailureView) (o : Option ℕ) → (refused now d f o).closing ≡ d.closing
  after_refused now f None = refl
  after_refused now f (Some i) = by (is_failure_for now.cluster d i f) where
    by : (b : Bool) → (cond b (with_failure d i f) (unticketed d i)).closing ≡ d.closing
    by true = refl
    by false = refl

  after_planned : (now : Moment) (p : PlanView) (o : Option ℕ) → (planned now d p o).closing ≡ d.closing
  after_planned now p None = refl
  after_planned now p (Some i) = by (is_plan_for now.cluster d i p) (is_done_at_once (user_task_at d.tasks i) (proposals p.start p.end)) where
    by : (b c : Bool) → (cond b (cond c (with_status (with_job d i (planned_job (job_at d.jobs i) (proposals p.start p.end))) i status.Completed)
        (record (with_status (with_job d i (planned_job (job_at d.jobs i) (proposals p.start p.end))) i status.InExecution) { exec = after_launch d.exec (proposals p.start p.end) })) (unticketed d i)).closing ≡ d.closing
    by true true = refl
    by true false = refl
    by false c = refl

  after_move : (e : State) → (moved d e).closing ≡ d.closing
  after_move e = by (ends_execution d.exec.tasks e.tasks) where
    ended : (o : Option ℕ) → (execution_ended (with_exec d e) o).closing ≡ d.closing
    ended None = refl
    ended (Some i) = ending (list_all (λ t. is_completed t.phase) e.tasks)
      where
        ending : (b : Bool) → (cond b (with_status (with_exec d e) i status.Completed) (with_status (with_job (with_exec d e) i (ended_job (with_exec d e) i)) i status.CompletedWithError)).closing ≡ d.closing
        ending true = refl
        ending false = refl

    by : (b : Bool) → (cond b (execution_ended (with_exec d e) (position (λ t. is_in_execution t.status) d.tasks)) (with_exec d e)).closing ≡ d.closing
    by true = ended (position (λ t. is_in_execution t.status) d.tasks)
    by false = refl

  either : (e : Desk) (b : Bool) → e.closing ≡ d.closing → (cond b d e).closing ≡ d.closing
  either e true h = refl
  either e false h = h

  either_not : (e : Desk) (b : Bool) → e.closing ≡ d.closing → (cond b e d).closing ≡ d.closing
  either_not e true h = h
  either_not e false h = refl

after_change : (d : Desk) (ask : AskView) (ps : List Proposal) (o : Option Reply) → (unless_unchanged d ask ps o).closing ≡ d.closing
after_change d ask ps (Some r) = refl
after_change d ask ps None = planned_at (admitted d ask) (length d.tasks) ps

after_asked : (file : Meaning) (now : Moment) (d : Desk) (ask : AskView) (b : Bool) → (after_new file now d ask b).closing ≡ d.closing
after_asked file now d ask true = after_change d ask (changes_asked now d ask) (change_refusal now d ask)
after_asked file now d ask false = after_submit d ask (refusal_of file now d ask)

keeps_closing : (file : Meaning) (s : Core) (e : Event) → is_close e ≡ false → (next file s e).desk.closing ≡ s.desk.closing
keeps_closing file s (event.Submit ask None) h = after_asked file (moment_of file s) s.desk ask (changes_factor ask)
keeps_closing file s event.PlanTake h = after_taken s.desk (first_waiting s.desk)
keeps_closing file s (event.Planned ticket plan) h = after_planned s.desk (moment_of file s) plan (holder_of ticket s.desk.jobs)
keeps_closing file s (event.Refused ticket failure) h = after_refused s.desk (moment_of file s) failure (holder_of ticket s.desk.jobs)
keeps_closing file s (event.PlanBack ticket) h = after_back s.desk (holder_of ticket s.desk.jobs)
keeps_closing file s (event.Stop force) h = either s.desk (moved s.desk (after_stop s.desk.exec force)) s.desk.closing (after_move s.desk (after_stop s.desk.exec force))
keeps_closing file s (event.Kill broker) h = either s.desk (moved s.desk (after_kill s.desk.exec broker)) s.desk.closing (after_move s.desk (after_kill s.desk.exec broker))
keeps_closing file s (event.Caps asked) h = either s.desk (with_exec s.desk (after_caps s.desk.exec (caps_of s.desk asked))) s.desk.closing refl
keeps_closing file s (event.Heal cause ask) h = after_asked file (moment_of file s) s.desk ask (changes_factor ask)
keeps_closing file s event.Take h = after_move s.desk (after_take s.desk.exec)
keeps_closing file s (event.Copied receipt) h = either_not s.desk (moved s.desk (after_copied s.desk.exec receipt.lease)) (is_receipt s.desk.exec receipt) (after_move s.desk (after_copied s.desk.exec receipt.lease))
keeps_closing file s (event.CopyFailed lease) h = after_move s.desk (after_copy_failed s.desk.exec lease)
keeps_closing file s (event.Commit lease) h = after_move s.desk (after_commit s.desk.exec lease)
keeps_closing file s (event.Cancel lease) h = after_move s.desk (after_cancel s.desk.exec lease)
keeps_closing file s (event.GiveBack lease) h = after_move s.desk (end_lease s.desk.exec lease)
keeps_closing file s event.Close h = absurd (true≢false h)
keeps_closing file s _ h = refl

-- the event is Close, or one that comes later is
here_or_later : (b : Bool) (rest : Bool) → (b ≡ false → rest ≡ true) → (b || rest) ≡ true
here_or_later true rest h = refl
here_or_later false rest h = h refl

from : (file : Meaning) (s : Core) (events : List Event) → s.desk.closing ≡ false → (fold (next file) s events).desk.closing ≡ true → list_any is_close events ≡ true
from file s [] was h = absurd (true≢false (sym h ∙ was))
from file s (e ∷ es) was h = here_or_later (is_close e) (list_any is_close es) (λ q. from file (next file s e) es (keeps_closing file s e q ∙ was) h)

pub closing_was_asked : ClosingWasAsked
unfolding state_after opening_desk
closing_was_asked file events h = from file (opening_of file) events refl h
