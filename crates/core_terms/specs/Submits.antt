-- A request for a plan: the user task that it asks after, or the first reason why it is none, or a new one.
use Rattle.std.specs.Prelude.{◌≡◌, ℕ, ◌*◌, Bool, true, not, nat_lt, nat_le, List, length, map, find, get_or, bytes_eq, [], false, Option, Some, None, option_map, if◌then◌else◌}
use Rattle.std.specs.List.{position, range_with_len}
use Rattle.std.specs.Option.{option_or}
use Rattle.plan_terms.specs.Change.{proposals}
use Rattle.plan_terms.specs.Cluster.{Lists, is_known}
use Rattle.plan_terms.specs.declared.cluster.Part.{Part}
use Rattle.plan_terms.specs.declared.lists.Proposal.{Proposal}
use Rattle.cluster_json.specs.File.{Meaning}
use Rattle.cluster_json.specs.Loads.{no_loads}
use Rattle.exec_terms.specs.Settled.{settled_lists}
use Rattle.factor_change.specs.Refused.{first_absent, first_short}
use Rattle.factor_change.specs.Resized.{resized}
use Rattle.user_tasks.specs.Tasks.{open_count}
use Rattle.user_tasks.specs.Asks.{AskView, changes_factor}
use Rattle.user_tasks.specs.declared.table.Status.{Status}
use Rattle.user_tasks.specs.declared.table.Status.TheVariants as status
use Rattle.user_tasks.specs.declared.table.UserTask.{UserTask}
use Rattle.core_terms.specs.Same.{same_ask}
use Rattle.core_terms.specs.Asked.{is_dry, goals_fault}
use Rattle.core_terms.specs.State.{Desk, Moment, job_at}
use Rattle.core_terms.specs.Jobs.{user_task_at, id_at, executing, admitted, with_plan, MayLaunch}
use Rattle.core_terms.specs.declared.jobs.Broken.{Broken}
use Rattle.core_terms.specs.declared.jobs.Job.{Job}
use Rattle.core_terms.specs.declared.replies.Named.{Named}
use Rattle.core_terms.specs.declared.replies.Outcome.{Outcome}
use Rattle.core_terms.specs.declared.replies.Outcome.TheVariants as outcome
use Rattle.core_terms.specs.declared.replies.Reply.{Reply}
use Rattle.core_terms.specs.declared.replies.Reply.TheVariants as reply

-- the place of the user task of an id
abbrev pub place_of : List ℕ → List UserTask → Option ℕ
place_of id tasks = position (λ i. bytes_eq (id_at i) id) (range_with_len 0 (length tasks))

-- a reading past the end of the partitions gives it
abbrev pub no_part : Part
no_part = record { topic = []; number = 0; loads = no_loads; excluded = false; chunks = 0 }

-- a proposal by the name of its partition
abbrev pub named : List Part → Proposal → Named
named parts p = record { topic = (get_or parts p.part no_part).topic; number = (get_or parts p.part no_part).number; before = p.before; after = p.after }

-- what came of a job that ended with an error: the goal that failed it, or the tasks that were aborted or are dead
abbrev pub ended : List Part → Job → Option Broken → Outcome
ended parts j (Some b) = outcome.Failed b.goal b.left
ended parts j None = outcome.Ended j.aborted j.dead (map (named parts) j.proposals)

-- what came of a user task, by its status
abbrev pub outcome_of : List Part → Status → Job → Outcome
outcome_of parts status.Active j = outcome.Open
outcome_of parts status.InExecution j = outcome.Open
outcome_of parts status.Completed j = outcome.Done (map (named parts) j.proposals)
outcome_of parts status.CompletedWithError j = ended parts j j.broken

-- the user task at place i, of this id: how far it is, and what came of it
abbrev pub told_at : List Part → Desk → List ℕ → ℕ → Reply
told_at parts s id i = reply.Task id (user_task_at s.tasks i).status (outcome_of parts (user_task_at s.tasks i).status (job_at s.jobs i))

-- the user task at a place, if it was asked the same
abbrev pub found_at : List Part → Desk → List ℕ → AskView → Option ℕ → Reply
found_at parts s id ask None = reply.NoSuchTask id
found_at parts s id ask (Some i) = if same_ask (user_task_at s.tasks i).ask ask then told_at parts s id i else reply.OtherRequest id

-- a refusal, where a test holds
abbrev pub refused_if : Bool → Reply → Option Reply
refused_if b r = if b then Some r else None

-- Close was asked before
abbrev pub closing_refusal : Desk → Option Reply
closing_refusal s = refused_if s.closing reply.Closing

-- the first of the brokers that no broker of the file is
abbrev pub first_unknown : Meaning → List ℕ → Option ℕ
first_unknown file brokers = find (λ b. not (is_known file.cluster b)) brokers

-- names that mean nothing: of brokers, or of goals
abbrev pub names_refusal : Meaning → AskView → Option Reply
names_refusal file ask = option_or (option_map reply.NoSuchBroker (first_unknown file ask.brokers)) (option_map reply.BadGoals (goals_fault ask))

-- the user task that stands in the way of a request that is to be carried out
abbrev pub first_executing : Desk → AskView → Option ℕ
first_executing s ask = if is_dry ask then None else executing s

-- user tasks that are open: one that stands in the way, or as many as there may be
abbrev pub open_refusal : Desk → AskView → Option Reply
open_refusal s ask = option_or (option_map (λ i. reply.Executing (id_at i)) (first_executing s ask)) (refused_if (nat_le 16 (open_count s.tasks)) reply.TooManyActive)

-- so many partitions with loads are too few
abbrev pub lacks_windows : Meaning → ℕ → Bool
lacks_windows file valid = nat_lt (valid * file.ratio.den) (file.ratio.num * length file.cluster.parts)

-- too few partitions have loads
abbrev pub windows_refusal : Meaning → Moment → Option Reply
windows_refusal file now = refused_if (lacks_windows file now.valid) (reply.NotEnoughWindows now.valid (length file.cluster.parts))

-- why a request is not taken, the first that holds
unfoldable pub refusal_of : Meaning → Moment → Desk → AskView → Option Reply
refusal_of file now s ask = option_or (closing_refusal s) (option_or (names_refusal file ask) (option_or (open_refusal s ask) (windows_refusal file now)))

-- the refusal, or the id of the new user task
abbrev pub or_accepted : Desk → Option Reply → Reply
or_accepted s (Some r) = r
or_accepted s None = reply.Accepted (id_at (length s.tasks))

-- nothing changes where it is refused
abbrev pub unless_refused : Desk → AskView → Option Reply → Desk
unless_refused s ask (Some r) = s
unless_refused s ask None = admitted s ask

-- the lists that a change of the replication factor makes of the settled ones
abbrev pub lists_asked : Moment → Desk → AskView → Lists
lists_asked now s ask = resized now.cluster ask.topics ask.factor (settled_lists s.exec)

-- what changes by it
abbrev pub changes_asked : Moment → Desk → AskView → List Proposal
changes_asked now s ask = proposals (settled_lists s.exec) (lists_asked now s ask)

-- a topic has no partition; or brokers are too few for a list
abbrev pub resize_refusal : Moment → Desk → AskView → Option Reply
resize_refusal now s ask = option_or (option_map reply.NoSuchTopic (first_absent now.cluster ask.topics)) (option_map reply.TooFewBrokers (first_short now.cluster ask.topics ask.factor (settled_lists s.exec)))

-- why a change of the replication factor is not taken, the first that holds
unfoldable pub change_refusal : Moment → Desk → AskView → Option Reply
change_refusal now s ask = option_or (closing_refusal s) (option_or (open_refusal s ask) (resize_refusal now s ask))

-- the request is a new user task, whose plan has these proposals
abbrev pub changed_by : Desk → AskView → List Proposal → Desk
changed_by s ask ps = with_plan (admitted s ask) (length s.tasks) ps

-- the refusal, or the new user task and what came of it
abbrev pub or_changed : List Part → Desk → AskView → List Proposal → Option Reply → Reply
or_changed parts s ask ps (Some r) = r
or_changed parts s ask ps None = told_at parts (changed_by s ask ps) (id_at (length s.tasks)) (length s.tasks)

abbrev pub unless_unchanged : Desk → AskView → List Proposal → Option Reply → Desk
unless_unchanged s ask ps (Some r) = s
unless_unchanged s ask ps None = changed_by s ask ps

-- a new request: a change of the replication factor is planned at once, any other waits for its plan
abbrev pub reply_new : Meaning → Moment → Desk → AskView → Bool → Reply
reply_new file now s ask true = or_changed file.cluster.parts s ask (changes_asked now s ask) (change_refusal now s ask)
reply_new file now s ask false = or_accepted s (refusal_of file now s ask)

abbrev pub after_new : Meaning → Moment → Desk → AskView → Bool → Desk
after_new file now s ask true = unless_unchanged s ask (changes_asked now s ask) (change_refusal now s ask)
after_new file now s ask false = unless_refused s ask (refusal_of file now s ask)

-- a request: with an id it asks after that user task, without it is a new one
abbrev pub reply_submit : Meaning → Moment → Desk → AskView → Option (List ℕ) → Reply
reply_submit file now s ask (Some id) = found_at file.cluster.parts s id ask (place_of id s.tasks)
reply_submit file now s ask None = reply_new file now s ask (changes_factor ask)

abbrev pub after_submit : Meaning → Moment → Desk → AskView → Option (List ℕ) → Desk
after_submit file now s ask (Some id) = s
after_submit file now s ask None = after_new file now s ask (changes_factor ask)

-- where a change of the replication factor is taken and is to be carried out, no task is unfinished and it can be launched
abbrev pub MayChange : Moment → Desk → AskView → Type 0
MayChange now s ask = changes_factor ask ≡ true → change_refusal now s ask ≡ None → MayLaunch (admitted s ask) (length s.tasks) (changes_asked now s ask)
