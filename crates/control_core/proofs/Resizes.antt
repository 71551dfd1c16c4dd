-- A request for another replication factor.
use Rattle.std.proofs.Common.{◌≡◌, ◌∙◌, ℕ, ◌-◌, ◌<◌, Bool, true, false, cond, List, [], ◌∷◌, ◌++◌, take, length, refl, sym, ap, arith}
use Rattle.std.specs.Prelude.{Option, Some, None, Result, Ok, Err, IfOk, OnOk, option_map}
use Rattle.std.specs.List.{position}
use Rattle.std.specs.Option.{option_or}
use Rattle.std.proofs.lemmas.List.Quantifiers.{position-Some}
use Rattle.std.proofs.Math.Seq.{take-append_seam}
use Rattle.std.proofs.lemmas.Option.{none-some}
use Rattle.std.proofs.lemmas.List.{get_or-set_same, length-append}
use Rattle.plan_terms.specs.Change.{proposals}
use Rattle.plan_terms.specs.Cluster.{Cluster, Lists}
use Rattle.plan_terms.specs.declared.cluster.Part.{Part}
use Rattle.plan_terms.specs.declared.lists.Proposal.{Proposal}
use Rattle.exec_terms.specs.Settled.{settled_lists}
use Rattle.factor_change.specs.Refused.{first_absent, first_short, refusal}
use Rattle.factor_change.specs.Resized.{resized}
use Rattle.factor_change.specs.declared.fault.ResizeFault.{ResizeFault}
use Rattle.factor_change.specs.declared.fault.ResizeFault.TheVariants as fault
use Rattle.user_tasks.specs.Asks.{AskView}
use Rattle.user_tasks.specs.declared.table.Status.{Status}
use Rattle.user_tasks.specs.declared.table.Status.TheVariants as status
use Rattle.user_tasks.specs.declared.table.UserTask.{UserTask}
use Rattle.core_terms.specs.State.{Desk, Moment, job_at, no_job}
use Rattle.exec_terms.specs.Machine.{any_unfinished}
use Rattle.core_terms.specs.Asked.{is_dry}
use Rattle.core_terms.specs.Jobs.{admitted, id_at, is_done_at_once, is_in_execution, new_job, no_user_task, planned_job, plans_execution, status_at_once, user_task_at}
use Rattle.core_terms.specs.Submits.{change_refusal, changed_by, changes_asked, first_executing, open_refusal, or_changed, outcome_of, resize_refusal, told_at, unless_unchanged}
use Rattle.core_terms.specs.declared.jobs.Job.{Job}
use Rattle.core_terms.specs.declared.replies.Outcome.{Outcome}
use Rattle.core_terms.specs.declared.replies.Reply.{Reply}
use Rattle.core_terms.specs.declared.replies.Reply.TheVariants as reply
use Rattle.control_core.specs.Refusals.{told_of}
use Rattle.control_core.specs.Desks.{IsDesk, open_places}
use Rattle.control_core.proofs.Open.{one_opened}

abbrev told_where : Option ResizeFault → Option Reply
told_where None = None
told_where (Some e) = told_of e

resize_told : (now : Moment) (s : Desk) (ask : AskView) → resize_refusal now s ask ≡ told_where (refusal now.cluster ask.topics ask.factor (settled_lists s.exec))
unfolding refusal
resize_told now s ask = by (first_absent now.cluster ask.topics) (first_short now.cluster ask.topics ask.factor (settled_lists s.exec)) where
  by : (o : Option (List ℕ)) (p : Option ℕ) → option_or (option_map reply.NoSuchTopic o) (option_map reply.TooFewBrokers p) ≡ told_where (option_or (option_map fault.NoSuchTopic o) (option_map fault.TooFewBrokers p))
  by (Some t) p = refl
  by None (Some n) = refl
  by None None = refl

-- a change that the desk doesn't refuse, of these lists of this cluster
module _ (c : Cluster) (now : Moment) (d : Desk) (ask : AskView) (start : Lists) (here : c ≡ now.cluster) (settled : start ≡ settled_lists d.exec) (lasting : d.closing ≡ false) (free : open_refusal d ask ≡ None) where
  change_told : change_refusal now d ask ≡ told_where (refusal c ask.topics ask.factor start)
  unfolding change_refusal
  change_told = rw (lasting, free, here, settled) (resize_told now d ask)

  pub is_taken : refusal c ask.topics ask.factor start ≡ None → change_refusal now d ask ≡ None
  is_taken h = change_told ∙ ap told_where h

  pub changes_are : (ps : List Proposal) → ps ≡ proposals start (resized c ask.topics ask.factor start) → ps ≡ changes_asked now d ask
  changes_are ps e = rw (here, settled) at e

  not_memory : (e : ResizeFault) (r : Reply) → told_of e ≡ Some r → e ≡ fault.Memory → ⊥
  not_memory e r h m = none-some r (sym (ap told_of m) ∙ h)

  is_refused : (e : ResizeFault) (r : Reply) → told_of e ≡ Some r → ((e ≡ fault.Memory → ⊥) → refusal c ask.topics ask.factor start ≡ Some e) → change_refusal now d ask ≡ Some r
  is_refused e r h is = change_told ∙ ap told_where (is (not_memory e r h)) ∙ h

  module _ (parts : List Part) (ps : List Proposal) (made : ps ≡ proposals start (resized c ask.topics ask.factor start)) (none : refusal c ask.topics ask.factor start ≡ None) where
    pub reply_taken : (r : Reply) → r ≡ told_at parts (changed_by d ask ps) (id_at (length d.tasks)) (length d.tasks) → r ≡ or_changed parts d ask (changes_asked now d ask) (change_refusal now d ask)
    reply_taken r e = rw (is_taken none, ← changes_are ps made) e

    pub desk_taken : (u : Desk) → u ≡ changed_by d ask ps → u ≡ unless_unchanged d ask (changes_asked now d ask) (change_refusal now d ask)
    desk_taken u e = rw (is_taken none, ← changes_are ps made) e

  module _ (e : ResizeFault) (r : Reply) (told : told_of e ≡ Some r) (is : (e ≡ fault.Memory → ⊥) → refusal c ask.topics ask.factor start ≡ Some e) where
    pub reply_refused : (parts : List Part) → r ≡ or_changed parts d ask (changes_asked now d ask) (change_refusal now d ask)
    reply_refused parts = rw (is_refused e r told is) refl

    pub desk_refused : d ≡ unless_unchanged d ask (changes_asked now d ask) (change_refusal now d ask)
    desk_refused = rw (is_refused e r told is) refl

-- what is told of the newest user task, whose plan has these changes
module _ (parts : List Part) (d : Desk) (ask : AskView) (ps : List Proposal) (one_each : length d.jobs ≡ length d.tasks) where
  abbrev t : UserTask
  t = user_task_at (admitted d ask).tasks (length d.tasks)

  in_tasks : length d.tasks < length (admitted d ask).tasks
  in_tasks = omega (arith, length-append d.tasks (record { ask = ask; status = status.Active } ∷ []))

  in_jobs : length d.tasks < length (admitted d ask).jobs
  in_jobs = omega (arith, length-append d.jobs (new_job ask ∷ []), one_each)

  told_newest : (id : List ℕ) (o : Outcome) → ((j : Job) → j.proposals ≡ ps → o ≡ outcome_of parts (status_at_once t ps) j)
      → reply.Task id (status_at_once t ps) o ≡ told_at parts (changed_by d ask ps) id (length d.tasks)
  told_newest id o h = by (is_done_at_once t ps) refl (h (planned_job (job_at (admitted d ask).jobs (length d.tasks)) ps) refl) where
    by : (b : Bool) → is_done_at_once t ps ≡ b → o ≡ outcome_of parts (status_at_once t ps) (planned_job (job_at (admitted d ask).jobs (length d.tasks)) ps)
        → reply.Task id (status_at_once t ps) o ≡ told_at parts (changed_by d ask ps) id (length d.tasks)
    by true e k = rw e (rw (
      get_or-set_same (admitted d ask).tasks (length d.tasks) (record t { status = status.Completed }) no_user_task in_tasks,
      get_or-set_same (admitted d ask).jobs (length d.tasks) (planned_job (job_at (admitted d ask).jobs (length d.tasks)) ps) no_job in_jobs,
    ) (ap (λ (x : Outcome). reply.Task id status.Completed x) (rw e at k)))
    by false e k = rw e (rw (get_or-set_same (admitted d ask).tasks (length d.tasks) (record t { status = status.InExecution }) no_user_task in_tasks) (ap (λ (x : Outcome). reply.Task id status.InExecution x) (rw e at k)))

  pub told_changed : (id newest_id : List ℕ) (st : Status) (o : Outcome) → id ≡ newest_id → st ≡ status_at_once t ps → ((j : Job) → j.proposals ≡ ps → o ≡ outcome_of parts st j)
      → reply.Task id st o ≡ told_at parts (changed_by d ask ps) newest_id (length d.tasks)
  told_changed id newest_id st o e f h = rw (e, f) (told_newest newest_id o (rw f at h))

-- the user task that was admitted last is taken back
front_is : {X : Type 0} (xs : List X) (x : X) → take (length (xs ++ x ∷ []) - 1) (xs ++ x ∷ []) ≡ xs
front_is xs x = let n : length (xs ++ x ∷ []) - 1 ≡ length xs = omega (arith, length-append xs (x ∷ [])) in rw n (take-append_seam xs (x ∷ []))

pub withdrawn : (d : Desk) (ask : AskView) (tasks : List UserTask) (jobs : List Job) (places : List ℕ) → tasks ≡ (admitted d ask).tasks → jobs ≡ (admitted d ask).jobs → IsDesk tasks jobs places
    → IsDesk (take (length tasks - 1) tasks) (take (length jobs - 1) jobs) (take (length places - 1) places)
withdrawn d ask tasks jobs places t j h =
    let task : UserTask = record { ask = ask; status = status.Active } in
    let there : places ≡ open_places d.tasks ++ length d.tasks ∷ [] = h.open_are ∙ ap open_places t ∙ one_opened d.tasks task refl in
    let both : length d.jobs ≡ length d.tasks = omega (arith, rw (t, j) at h.one_each, length-append d.jobs (new_job ask ∷ []), length-append d.tasks (task ∷ [])) in
    rw (t, j, there) (rw (front_is d.tasks task, front_is d.jobs (new_job ask), front_is (open_places d.tasks) (length d.tasks)) (record { one_each = both; open_are = refl }))

-- a user task that stands in the way is one of them
pub executing_there : (d : Desk) (ask : AskView) (i : ℕ) → first_executing d ask ≡ Some i → i < length d.tasks
executing_there d ask i e = by (is_dry ask) (any_unfinished d.exec.tasks) e where
  by : (b c : Bool) → cond b None (cond c (position (λ t. is_in_execution t.status) d.tasks) (position plans_execution d.tasks)) ≡ Some i → i < length d.tasks
  by true c h = absurd (none-some i h)
  by false true h = (position-Some (λ t. is_in_execution t.status) d.tasks i no_user_task h).0
  by false false h = (position-Some plans_execution d.tasks i no_user_task h).0

-- what follows where a call ended well
module _ {T E : Type 0} (P : T → Type 0) where
  pub if_ok : (Q : T → Type 0) (r : Result T E) → ((x : T) → P x → Q x) → IfOk r P → IfOk r Q
  if_ok Q (Ok x) f h = f x h
  if_ok Q (Err e) f h = tt

  pub on_ok : (Q : Type 0) (r : Result T E) → ((x : T) → P x → Q) → IfOk r P → OnOk r Q
  on_ok Q (Ok x) f h = f x h
  on_ok Q (Err e) f h = tt

pub on_ok_too : {T E : Type 0} (P Q : Type 0) (r : Result T E) → (P → Q) → OnOk r P → OnOk r Q
on_ok_too P Q (Ok x) f h = f h
on_ok_too P Q (Err e) f h = tt
