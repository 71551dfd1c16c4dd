-- Each legal event keeps what is sound, so each legal history leads to a sound state.
use Rattle.std.proofs.Common.{◌≡◌, ◌∙◌, ℕ, ◌<◌, Bool, true, false, cond, List, [], length, arith, refl, sym, ap}
use Rattle.std.specs.Prelude.{Option, Some, None, not}
use Rattle.std.specs.List.{All}
use Rattle.std.proofs.lemmas.List.Elements.{All-map}
use Rattle.plan_terms.specs.Belongs.{Belongs}
use Rattle.plan_terms.specs.Change.{proposals}
use Rattle.plan_terms.specs.Cluster.{Cluster}
use Rattle.plan_terms.specs.declared.lists.Proposal.{Proposal}
use Rattle.goal_set.specs.Kept.{PlanView, IsPlan}
use Rattle.cluster_json.specs.File.{Meaning}
use Rattle.exec_terms.specs.Words.{in_flight}
use Rattle.exec_terms.specs.Machine.{State, after_launch, first_unfinished, task_of}
use Rattle.exec_terms.specs.Runs.{Event as Move, CapsSet, Take, Copied, CopyFailed, Committed, Cancelled, GivenBack, Stops, Killed, Launched, IsLaunch, CanHappen, CanLaunch, after_event}
use Rattle.exec_terms.proofs.Launch.{each_event_keeps}
use Rattle.exec_terms.proofs.ListLaws.{drained_lists_are_settled}
use Rattle.exec_terms.proofs.SettledLists.{none_flies}
use Rattle.core_terms.specs.Input.{IsInput}
use Rattle.core_terms.specs.State.{Desk, Core, Moment, moment_of}
use Rattle.core_terms.specs.Asked.{is_dry}
use Rattle.exec_terms.specs.Settled.{settled_lists}
use Rattle.user_tasks.specs.Asks.{AskView, changes_factor}
use Rattle.core_terms.specs.declared.replies.Reply.{Reply}
use Rattle.core_terms.specs.Jobs.{MayLaunch, admitted, user_task_at, is_done_at_once, with_plan}
use Rattle.core_terms.specs.Submits.{MayChange, after_new, change_refusal, changes_asked, lists_asked, refusal_of, unless_refused, unless_unchanged}
use Rattle.core_terms.specs.Plans.{MayPlan, first_waiting, holder_of, ticketed, unticketed, planned, planned_back, refused, with_failure, is_plan_for, is_failure_for}
use Rattle.core_terms.specs.Works.{caps_of, is_receipt, moved, with_exec}
use Rattle.core_terms.specs.Step.{next}
use Rattle.core_terms.specs.History.{IsLegal}
use Rattle.core_terms.specs.Sound.{IsExecOf, IsListOf, IsSound}
use Rattle.core_terms.specs.declared.events.Event.{Event}
use Rattle.core_terms.specs.declared.events.Event.TheVariants as event
use Rattle.core_laws.specs.Laws.{EachEventKeeps, IsLaunchable}
use Rattle.core_laws.proofs.Events.{events_keep_tasks, newest, none_in_the_way, none_unfinished}
use Rattle.core_laws.proofs.Execs.{event_kept}
use Rattle.core_laws.proofs.Jobs.{absent, holder_active}
use Rattle.core_laws.proofs.JobsKept.{AreJobs, jobs_submitted, jobs_taken, jobs_back, jobs_refused, jobs_planned, jobs_changed, jobs_moved}
use Rattle.core_laws.proofs.Launchable.{plan_launches, shape_is}
use Rattle.core_laws.proofs.Clusters.{belongs_same}
use Rattle.exec_terms.proofs.Changes.{proposals_all}
use Rattle.core_laws.proofs.Plans.{no_first, plans_meet_no_execution, wet as wet_ask}
use Rattle.core_laws.proofs.Resizes.{change_can_launch, changed_lists}
use Rattle.core_laws.proofs.Settled.{settled_belongs}
use Rattle.core_laws.proofs.Tickets.{events_keep_tickets}
use Rattle.core_laws.proofs.Valid.{exec_moved, some_caps}

-- a plan for a job as it is meets no unfinished task, and can be launched
pub planned_launches : (file : Meaning) (s : Core) (n : ℕ) (p : PlanView) → IsInput file → IsPlan p → IsSound file s.desk → MayPlan (moment_of file s).cluster s.desk n p
planned_launches file s n p input plan sound i e is later =
    let none = plans_meet_no_execution s.desk n i (proposals p.start p.end) sound.tasks sound.tickets e later in
    let held = holder_active s.desk n i sound.tasks sound.tickets e in
    (none, plan_launches file s i p is input sound plan held.0 held.2 none)

-- a change of the replication factor that is taken meets no unfinished task, and can be launched
pub change_launches : (file : Meaning) (s : Core) (ask : AskView) → IsInput file → IsSound file s.desk → MayChange (moment_of file s) s.desk ask
change_launches file s ask input sound is taken later =
    let new = newest s.desk ask in
    let wet : is_dry ask ≡ false = rw new at (wet_ask (user_task_at (admitted s.desk ask).tasks (length s.desk.tasks)) (changes_asked (moment_of file s) s.desk ask) later) in
    let none = no_first s.desk.exec (none_unfinished (moment_of file s) s.desk ask sound.tasks taken wet) in
    (none, change_can_launch file s ask is (none_in_the_way (moment_of file s) s.desk ask taken).2 input sound none)

-- so each legal event finds what it needs
pub may_come : (file : Meaning) (s : Core) (e : Event) → IsInput file → IsLegal e → IsSound file s.desk → IsLaunchable file s e
may_come file s (event.Planned ticket plan) input legal sound = planned_launches file s ticket plan input legal sound
may_come file s (event.Submit ask None) input legal sound = change_launches file s ask input sound
may_come file s (event.Heal cause ask) input legal sound = change_launches file s ask input sound
may_come file s _ input legal sound = tt

-- a launch of a plan
exec_launched : (c : Cluster) (s : State) (ps : List Proposal) → CanLaunch s ps → All (λ q. IsListOf c q.after) ps → first_unfinished s ≡ None → IsExecOf c s → IsExecOf c (after_launch s ps)
exec_launched c s ps can lists none e = record {
  valid = each_event_keeps s (Launched ps) can e.valid;
  brokers = rw none e.brokers;
  base = rw (none, drained_lists_are_settled s e.valid (ap not (absent (λ t. in_flight t.phase) s.tasks (λ k d l. none_flies s none k d l)))) (settled_belongs c s e);
  afters = rw none (All-map (λ t. IsListOf c t.after) (task_of s.chunks) ps lists);
}

-- the plan of a user task
planned_at : (c : Cluster) (d : Desk) (i : ℕ) (ps : List Proposal) → All (λ q. IsListOf c q.after) ps → MayLaunch d i ps → IsExecOf c d.exec → IsExecOf c (with_plan d i ps).exec
planned_at c d i ps lists may x = chosen (is_done_at_once (user_task_at d.tasks i) ps) refl where
  chosen : (b : Bool) → is_done_at_once (user_task_at d.tasks i) ps ≡ b → IsExecOf c (with_plan d i ps).exec
  chosen true r = rw r x
  chosen false r = rw r (exec_launched c d.exec ps (may r).1 lists (may r).0 x)

after_plan : (file : Meaning) (s : Core) (n : ℕ) (p : PlanView) → IsInput file → IsPlan p → IsSound file s.desk → (o : Option ℕ) → holder_of n s.desk.jobs ≡ o
    → IsExecOf file.cluster (planned (moment_of file s) s.desk p o).exec
after_plan file s n p input plan sound None q = sound.exec
after_plan file s n p input plan sound (Some i) q = by (is_plan_for (moment_of file s).cluster s.desk i p) refl where
  by : (b : Bool) → is_plan_for (moment_of file s).cluster s.desk i p ≡ b → IsExecOf file.cluster (cond b (with_plan s.desk i (proposals p.start p.end)) (unticketed s.desk i)).exec
  by false is = sound.exec
  by true is = planned_at file.cluster s.desk i (proposals p.start p.end) lists (planned_launches file s n p input plan sound i q is) sound.exec
    where
      ends : Belongs file.cluster p.end
      ends = belongs_same p.case file.cluster p.end (shape_is file s i p is) plan.end_belongs

      long : length p.end ≡ length p.start
      long = plan.end_belongs.one_each ∙ sym plan.start_belongs.one_each

      lists : All (λ q. IsListOf file.cluster q.after) (proposals p.start p.end)
      lists = proposals_all p.start p.end (λ q. IsListOf file.cluster q.after) (λ k l.
          let m : k < length p.end = omega (arith, l, long) in record { replicas = ends.lists_are k [] m; known = ends.known k [] m })

-- a change of the replication factor
after_change : (file : Meaning) (s : Core) (ask : AskView) → changes_factor ask ≡ true → IsInput file → IsSound file s.desk → (o : Option Reply) → change_refusal (moment_of file s) s.desk ask ≡ o
    → IsExecOf file.cluster (unless_unchanged s.desk ask (changes_asked (moment_of file s) s.desk ask) o).exec
after_change file s ask is input sound (Some r) e = sound.exec
after_change file s ask is input sound None e =
    planned_at file.cluster (admitted s.desk ask) (length s.desk.tasks) (changes_asked (moment_of file s) s.desk ask)
    (changed_lists file s ask is input sound) (change_launches file s ask input sound is e) sound.exec

module _ (c : Cluster) (d : Desk) (x : IsExecOf c d.exec) where
  after_submit : (ask : _) (o : Option _) → IsExecOf c (unless_refused d ask o).exec
  after_submit ask None = x
  after_submit ask (Some r) = x

  after_taken : (o : Option ℕ) → IsExecOf c (ticketed d o).exec
  after_taken None = x
  after_taken (Some i) = x

  after_back : (o : Option ℕ) → IsExecOf c (planned_back d o).exec
  after_back None = x
  after_back (Some i) = x

  after_refused : (now : Moment) (f : _) (o : Option ℕ) → IsExecOf c (refused now d f o).exec
  after_refused now f None = x
  after_refused now f (Some i) = by (is_failure_for now.cluster d i f) where
    by : (b : Bool) → IsExecOf c (cond b (with_failure d i f) (unticketed d i)).exec
    by true = x
    by false = x

  after_move : (e : Move) → (IsLaunch e → ⊥) → CanHappen d.exec e → IsExecOf c (moved d (after_event d.exec e)).exec
  after_move e nl can = rw (exec_moved d (after_event d.exec e)) (event_kept c d.exec e nl can x)

  unless_closing : (e : Move) → (IsLaunch e → ⊥) → CanHappen d.exec e → (b : Bool) → IsExecOf c (cond b d (moved d (after_event d.exec e))).exec
  unless_closing e nl can true = x
  unless_closing e nl can false = after_move e nl can

  unless_closed : (e : Move) → (IsLaunch e → ⊥) → CanHappen d.exec e → (b : Bool) → IsExecOf c (cond b d (with_exec d (after_event d.exec e))).exec
  unless_closed e nl can true = x
  unless_closed e nl can false = event_kept c d.exec e nl can x

  where_receipt : (e : Move) → (IsLaunch e → ⊥) → CanHappen d.exec e → (b : Bool) → IsExecOf c (cond b (moved d (after_event d.exec e)) d).exec
  where_receipt e nl can true = after_move e nl can
  where_receipt e nl can false = x

-- a request without an id
after_asked : (file : Meaning) (s : Core) (ask : AskView) → IsInput file → IsSound file s.desk → (b : Bool) → changes_factor ask ≡ b → IsExecOf file.cluster (after_new file (moment_of file s) s.desk ask b).exec
after_asked file s ask input h true e = after_change file s ask e input h (change_refusal (moment_of file s) s.desk ask) refl
after_asked file s ask input h false e = after_submit file.cluster s.desk h.exec ask (refusal_of file (moment_of file s) s.desk ask)

pub events_keep_exec : (file : Meaning) (s : Core) (e : Event) → IsInput file → IsLegal e → IsSound file s.desk → IsExecOf file.cluster (next file s e).desk.exec
events_keep_exec file s (event.Submit ask None) input legal h = after_asked file s ask input h (changes_factor ask) refl
events_keep_exec file s event.PlanTake input legal h = after_taken file.cluster s.desk h.exec (first_waiting s.desk)
events_keep_exec file s (event.Planned ticket plan) input legal h = after_plan file s ticket plan input legal h (holder_of ticket s.desk.jobs) refl
events_keep_exec file s (event.Refused ticket failure) input legal h = after_refused file.cluster s.desk h.exec (moment_of file s) failure (holder_of ticket s.desk.jobs)
events_keep_exec file s (event.PlanBack ticket) input legal h = after_back file.cluster s.desk h.exec (holder_of ticket s.desk.jobs)
events_keep_exec file s (event.Stop force) input legal h = unless_closing file.cluster s.desk h.exec (Stops force) (λ z. z) tt s.desk.closing
events_keep_exec file s (event.Kill broker) input legal h = unless_closing file.cluster s.desk h.exec (Killed broker) (λ z. z) tt s.desk.closing
events_keep_exec file s (event.Caps asked) input legal h = unless_closed file.cluster s.desk h.exec (CapsSet (caps_of s.desk asked)) (λ z. z)
    (some_caps s.desk.exec.caps asked (h.exec.valid.broker_cap, h.exec.valid.cluster_cap, h.exec.valid.leader_cap) legal) s.desk.closing
events_keep_exec file s (event.Heal cause ask) input legal h = after_asked file s ask input h (changes_factor ask) refl
events_keep_exec file s event.Take input legal h = after_move file.cluster s.desk h.exec Take (λ z. z) tt
events_keep_exec file s (event.Copied receipt) input legal h = where_receipt file.cluster s.desk h.exec (Copied receipt.lease) (λ z. z) tt (is_receipt s.desk.exec receipt)
events_keep_exec file s (event.CopyFailed lease) input legal h = after_move file.cluster s.desk h.exec (CopyFailed lease) (λ z. z) tt
events_keep_exec file s (event.Commit lease) input legal h = after_move file.cluster s.desk h.exec (Committed lease) (λ z. z) tt
events_keep_exec file s (event.Cancel lease) input legal h = after_move file.cluster s.desk h.exec (Cancelled lease) (λ z. z) tt
events_keep_exec file s (event.GiveBack lease) input legal h = after_move file.cluster s.desk h.exec (GivenBack lease) (λ z. z) tt
events_keep_exec file s _ input legal h = h.exec

-- where an event is refused after Close, or its receipt doesn't fit, the jobs stay
unless_jobs : (c : Cluster) (d e : Desk) → AreJobs c d.tasks d.jobs → AreJobs c e.tasks e.jobs → (b : Bool) → AreJobs c (cond b d e).tasks (cond b d e).jobs
unless_jobs c d e h k true = h
unless_jobs c d e h k false = k

-- the jobs after a request without an id
asked_jobs : (file : Meaning) (s : Core) (ask : AskView) → IsInput file → IsSound file s.desk → (b : Bool) → AreJobs file.cluster (after_new file (moment_of file s) s.desk ask b).tasks (after_new file (moment_of file s) s.desk ask b).jobs
asked_jobs file s ask input h true = jobs_changed file.cluster s.desk ask (settled_lists s.desk.exec) (lists_asked (moment_of file s) s.desk ask) (change_refusal (moment_of file s) s.desk ask) h.tasks.one_each
    (settled_belongs file.cluster s.desk.exec h.exec).one_each h.jobs
asked_jobs file s ask input h false = jobs_submitted file.cluster s.desk ask (refusal_of file (moment_of file s) s.desk ask) h.tasks.one_each h.jobs

pub events_keep_jobs : (file : Meaning) (s : Core) (e : Event) → IsInput file → IsLegal e → IsSound file s.desk → AreJobs file.cluster (next file s e).desk.tasks (next file s e).desk.jobs
events_keep_jobs file s (event.Submit ask None) input legal h = asked_jobs file s ask input h (changes_factor ask)
events_keep_jobs file s event.PlanTake input legal h = jobs_taken file.cluster s.desk h.jobs (first_waiting s.desk) refl
events_keep_jobs file s (event.Planned ticket plan) input legal h = jobs_planned file.cluster (moment_of file s) s.desk ticket plan h.tasks.one_each
    (λ i is. legal.start_belongs.one_each ∙ (shape_is file s i plan is).parts_are) h.jobs (holder_of ticket s.desk.jobs) refl
events_keep_jobs file s (event.Refused ticket failure) input legal h = jobs_refused file.cluster (moment_of file s) s.desk ticket failure h.tasks.one_each h.jobs (holder_of ticket s.desk.jobs) refl
events_keep_jobs file s (event.PlanBack ticket) input legal h = jobs_back file.cluster s.desk ticket h.jobs (holder_of ticket s.desk.jobs) refl
events_keep_jobs file s (event.Stop force) input legal h =
    unless_jobs file.cluster s.desk (moved s.desk (after_event s.desk.exec (Stops force))) h.jobs (jobs_moved file.cluster s.desk (after_event s.desk.exec (Stops force)) h.tasks.one_each h.jobs) s.desk.closing
events_keep_jobs file s (event.Kill broker) input legal h =
    unless_jobs file.cluster s.desk (moved s.desk (after_event s.desk.exec (Killed broker))) h.jobs (jobs_moved file.cluster s.desk (after_event s.desk.exec (Killed broker)) h.tasks.one_each h.jobs) s.desk.closing
events_keep_jobs file s (event.Caps asked) input legal h = unless_jobs file.cluster s.desk (with_exec s.desk (after_event s.desk.exec (CapsSet (caps_of s.desk asked)))) h.jobs h.jobs s.desk.closing
events_keep_jobs file s (event.Heal cause ask) input legal h = asked_jobs file s ask input h (changes_factor ask)
events_keep_jobs file s event.Take input legal h = jobs_moved file.cluster s.desk (after_event s.desk.exec Take) h.tasks.one_each h.jobs
events_keep_jobs file s (event.Copied receipt) input legal h =
    unless_jobs file.cluster (moved s.desk (after_event s.desk.exec (Copied receipt.lease))) s.desk (jobs_moved file.cluster s.desk (after_event s.desk.exec (Copied receipt.lease)) h.tasks.one_each h.jobs) h.jobs (is_receipt s.desk.exec receipt)
events_keep_jobs file s (event.CopyFailed lease) input legal h = jobs_moved file.cluster s.desk (after_event s.desk.exec (CopyFailed lease)) h.tasks.one_each h.jobs
events_keep_jobs file s (event.Commit lease) input legal h = jobs_moved file.cluster s.desk (after_event s.desk.exec (Committed lease)) h.tasks.one_each h.jobs
events_keep_jobs file s (event.Cancel lease) input legal h = jobs_moved file.cluster s.desk (after_event s.desk.exec (Cancelled lease)) h.tasks.one_each h.jobs
events_keep_jobs file s (event.GiveBack lease) input legal h = jobs_moved file.cluster s.desk (after_event s.desk.exec (GivenBack lease)) h.tasks.one_each h.jobs
events_keep_jobs file s _ input legal h = h.jobs

pub each_event_keeps_sound : EachEventKeeps
each_event_keeps_sound file s e input legal h = record {
  exec = events_keep_exec file s e input legal h;
  tasks = events_keep_tasks file s e (may_come file s e input legal h) h.exec.valid h.tickets h.tasks;
  tickets = events_keep_tickets file s e h.tasks h.tickets;
  jobs = events_keep_jobs file s e input legal h;
}
