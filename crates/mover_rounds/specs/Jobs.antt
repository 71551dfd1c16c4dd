-- What a planner and a mover may be answered.
use Rattle.core_terms.specs.declared.replies.Reply.{Reply}
use Rattle.core_terms.specs.declared.replies.Reply.TheVariants as reply
use Rattle.core_terms.specs.declared.events.Event.{Event}
use Rattle.core_terms.specs.declared.events.Event.TheVariants as event

-- PlanTake is answered by a job, or by none
abbrev pub FitsJob : Reply → Type 0
FitsJob (reply.Job ticket problem) = Unit {0}
FitsJob (reply.NoJob closing) = Unit {0}
FitsJob _ = ⊥

-- Take is answered by work, or by none
abbrev pub FitsWork : Reply → Type 0
FitsWork (reply.Work g) = Unit {0}
FitsWork (reply.Idle why closing) = Unit {0}
FitsWork _ = ⊥

-- the form of the replies to an event
abbrev pub Fits : Event → Reply → Type 0
Fits event.PlanTake r = FitsJob r
Fits event.Take r = FitsWork r
Fits _ r = Unit {0}
