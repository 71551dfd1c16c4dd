-- The step of the core: for each event the reply, and the state afterwards.
use Rattle.std.specs.Prelude.{None}
use Rattle.cluster_json.specs.File.{Meaning}
use Rattle.core_terms.specs.State.{Desk, Core, moment_of}
use Rattle.core_terms.specs.Submits.{reply_submit, after_submit}
use Rattle.core_terms.specs.Plans.{first_waiting, reply_take_job, ticketed, holder_of, reply_planned, planned, reply_refused, refused, reply_plan_back, planned_back}
use Rattle.core_terms.specs.Works.{reply_stop, stopped, reply_kill, killed, reply_sample, sampled, reply_caps, with_caps, reply_take, taken_by, reply_copied, copied, reply_copy_failed, copy_failed, reply_commit, committed_by, reply_cancel, cancelled_by, reply_give_back, given_back, closed}
use Rattle.core_terms.specs.Shows.{shown_of}
use Rattle.core_terms.specs.Looks.{reply_look, since_after}
use Rattle.core_terms.specs.declared.events.Event.{Event}
use Rattle.core_terms.specs.declared.events.Event.TheVariants as event
use Rattle.core_terms.specs.declared.replies.Reply.{Reply}
use Rattle.core_terms.specs.declared.replies.Reply.TheVariants as reply

-- the reply to an event
abbrev pub reply_of : Meaning → Core → Event → Reply
reply_of file s (event.Submit ask key) = reply_submit file (moment_of file s) s.desk ask key
reply_of file s event.PlanTake = reply_take_job (moment_of file s) s.desk (first_waiting s.desk)
reply_of file s (event.Planned ticket plan) = reply_planned (moment_of file s) s.desk plan (holder_of ticket s.desk.jobs)
reply_of file s (event.Refused ticket failure) = reply_refused (moment_of file s) s.desk failure (holder_of ticket s.desk.jobs)
reply_of file s (event.PlanBack ticket) = reply_plan_back s.desk (holder_of ticket s.desk.jobs)
reply_of file s (event.Stop force) = reply_stop s.desk force
reply_of file s (event.Kill broker) = reply_kill s.desk broker
reply_of file s (event.Sample topic number time loads) = reply_sample file s.desk.closing s.samples topic number time loads
reply_of file s (event.Caps asked) = reply_caps s.desk asked
reply_of file s (event.Show query) = reply.Shown (shown_of file (moment_of file s) s.desk query)
reply_of file s event.Take = reply_take s.desk
reply_of file s (event.Copied receipt) = reply_copied s.desk receipt
reply_of file s (event.CopyFailed lease) = reply_copy_failed s.desk lease
reply_of file s (event.Commit lease) = reply_commit s.desk lease
reply_of file s (event.Cancel lease) = reply_cancel s.desk lease
reply_of file s (event.GiveBack lease) = reply_give_back s.desk lease
reply_of file s (event.Look now) = reply_look file s now
reply_of file s (event.Heal cause ask) = reply_submit file (moment_of file s) s.desk ask None
reply_of file s event.Close = reply.Closed

-- the state with another desk
abbrev pub with_desk : Core → Desk → Core
with_desk s d = record s { desk = d }

-- the state after it
abbrev pub next : Meaning → Core → Event → Core
next file s (event.Submit ask key) = with_desk s (after_submit file (moment_of file s) s.desk ask key)
next file s event.PlanTake = with_desk s (ticketed s.desk (first_waiting s.desk))
next file s (event.Planned ticket plan) = with_desk s (planned (moment_of file s) s.desk plan (holder_of ticket s.desk.jobs))
next file s (event.Refused ticket failure) = with_desk s (refused (moment_of file s) s.desk failure (holder_of ticket s.desk.jobs))
next file s (event.PlanBack ticket) = with_desk s (planned_back s.desk (holder_of ticket s.desk.jobs))
next file s (event.Stop force) = with_desk s (stopped s.desk force)
next file s (event.Kill broker) = with_desk s (killed s.desk broker)
next file s (event.Sample topic number time loads) = record s { samples = sampled file s.desk.closing s.samples topic number time loads }
next file s (event.Caps asked) = with_desk s (with_caps s.desk asked)
next file s (event.Show query) = s
next file s event.Take = with_desk s (taken_by s.desk)
next file s (event.Copied receipt) = with_desk s (copied s.desk receipt)
next file s (event.CopyFailed lease) = with_desk s (copy_failed s.desk lease)
next file s (event.Commit lease) = with_desk s (committed_by s.desk lease)
next file s (event.Cancel lease) = with_desk s (cancelled_by s.desk lease)
next file s (event.GiveBack lease) = with_desk s (given_back s.desk lease)
next file s (event.Look now) = record s { since = since_after file s now }
next file s (event.Heal cause ask) = with_desk s (after_submit file (moment_of file s) s.desk ask None)
next file s event.Close = with_desk s (closed s.desk)

-- both: the state after it, and the reply
abbrev pub step : Meaning → Core → Event → Core × Reply
step file s e = (next file s e, reply_of file s e)
