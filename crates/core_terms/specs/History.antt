-- Legal events, and lists of them from the opening state.
use Rattle.std.specs.Prelude.{◌≡◌, ℕ, Bool, true, false, not, ◌+◌, List, [], ◌∷◌, fold, is_some, if◌then◌else◌}
use Rattle.std.specs.List.{AllByRecursion, count_by, list_any}
use Rattle.plan_terms.specs.Loads.{IsLoads}
use Rattle.cluster_json.specs.File.{Meaning}
use Rattle.goal_set.specs.Kept.{IsPlan, IsFailure}
use Rattle.exec_terms.specs.Machine.{any_unfinished}
use Rattle.exec_terms.specs.Tally.{leases_out}
use Rattle.exec_terms.specs.Words.{holds, holds_for}
use Rattle.exec_terms.specs.declared.work.WorkKind.TheVariants.{Copy as ForCopy, Commit as ForCommit, Cancel as ForCancel}
use Rattle.core_terms.specs.Caps.{IsCapChange}
use Rattle.core_terms.specs.State.{Desk, Core, opening_of}
use Rattle.core_terms.specs.Plans.{has_ticket}
use Rattle.core_terms.specs.Works.{is_receipt}
use Rattle.core_terms.specs.Step.{reply_of, next}
use Rattle.core_terms.specs.declared.events.Event.{Event}
use Rattle.core_terms.specs.declared.events.Event.TheVariants as event
use Rattle.core_terms.specs.declared.replies.Reply.{Reply}
use Rattle.core_terms.specs.declared.replies.Reply.TheVariants as reply

-- a legal event: a plan is a plan, and a failure a failure, of the case, the start and the goals that it carries; loads and caps are in
-- their ranges; every other event is legal
abbrev pub IsLegal : Event → Type 0
IsLegal (event.Planned ticket plan) = IsPlan plan
IsLegal (event.Refused ticket failure) = IsFailure failure
IsLegal (event.Sample topic number time loads) = IsLoads loads
IsLegal (event.Caps asked) = IsCapChange asked
IsLegal _ = Unit {0}

-- all events are legal
abbrev pub AreLegal : List Event → Type 0
AreLegal events = AllByRecursion IsLegal events

-- the state after events, one after another
unfoldable pub state_after : Meaning → List Event → Core
state_after file events = fold (next file) (opening_of file) events

-- how many leases and tickets are out, and one more while Close was not asked: for so many entries the journal keeps room
abbrev pub kept_for : Desk → ℕ
kept_for d = leases_out d.exec.tasks + count_by (λ j. is_some j.ticket) d.jobs + (if d.closing then 0 else 1)

-- the events that end a lease or a ticket which is out, and the first Close: they take no memory
abbrev pub is_sure : Desk → Event → Bool
is_sure d (event.PlanBack ticket) = list_any (has_ticket ticket) d.jobs
is_sure d (event.Copied receipt) = is_receipt d.exec receipt
is_sure d (event.CopyFailed lease) = list_any (holds_for lease ForCopy) d.exec.tasks
is_sure d (event.Commit lease) = list_any (holds_for lease ForCommit) d.exec.tasks
is_sure d (event.Cancel lease) = list_any (holds_for lease ForCancel) d.exec.tasks
is_sure d (event.GiveBack lease) = list_any (holds lease) d.exec.tasks
is_sure d event.Close = not d.closing
is_sure d _ = false

-- the events that call the admin
abbrev pub is_outward : Event → Bool
is_outward event.Take = true
is_outward (event.Commit lease) = true
is_outward (event.Cancel lease) = true
is_outward _ = false

-- the replies after which idle callers may find work
abbrev pub stirs : Reply → Bool
stirs (reply.NoJob closing) = false
stirs (reply.Idle reason closing) = false
stirs (reply.Shown shown) = false
stirs _ = true

-- the replies that refuse; AbortAsked and SentBack are none, since they end a lease or a ticket
abbrev pub is_refusal : Reply → Bool
is_refusal (reply.NoSuchTask id) = true
is_refusal (reply.OtherRequest id) = true
is_refusal reply.Closing = true
is_refusal (reply.NoSuchBroker broker) = true
is_refusal (reply.BadGoals fault) = true
is_refusal (reply.Executing id) = true
is_refusal reply.TooManyActive = true
is_refusal (reply.NotEnoughWindows valid all) = true
is_refusal (reply.NoSuchTopic topic) = true
is_refusal (reply.TooFewBrokers n) = true
is_refusal (reply.NoJob closing) = true
is_refusal (reply.StaleJob last) = true
is_refusal reply.NothingToStop = true
is_refusal (reply.AlreadyDead broker) = true
is_refusal reply.NoSuchPartition = true
is_refusal (reply.TooOld window) = true
is_refusal reply.WindowFull = true
is_refusal (reply.Idle reason closing) = true
is_refusal (reply.Stale last) = true
is_refusal _ = false

-- the reply to an event after a journal
abbrev pub reply_after : Meaning → List Event → Event → Reply
reply_after file journal e = reply_of file (state_after file journal) e

-- whether it is sure there
abbrev pub is_sure_after : Meaning → List Event → Event → Bool
is_sure_after file journal e = is_sure (state_after file journal).desk e

-- whether a task of the executor is unfinished after a journal
abbrev pub is_unfinished_after : Meaning → List Event → Bool
is_unfinished_after file journal = any_unfinished (state_after file journal).desk.exec.tasks
