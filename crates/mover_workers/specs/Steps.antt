-- What a planner and a mover make at a time.
use Rattle.std.specs.Prelude.{◌≡◌, Bool, true, false, List, [], ◌∷◌, Result, Ok, Err, ◌⊎◌}
use mathlib.Core.List.{IsPrefix}
use Rattle.cluster_gate.specs.declared.copier.ChunkCopy.{ChunkCopy}
use Rattle.core_terms.specs.declared.events.Event.{Event}
use Rattle.core_terms.specs.declared.events.Event.TheVariants as event
use Rattle.core_terms.specs.declared.faults.StepFault.{StepFault}
use Rattle.core_terms.specs.declared.replies.Reason.{Reason}
use Rattle.core_terms.specs.declared.replies.Reason.TheVariants as why
use Rattle.core_terms.specs.declared.replies.Reply.{Reply}
use Rattle.core_terms.specs.declared.replies.Reply.TheVariants as reply
use Rattle.mover_rounds.specs.Asked.{Rules, Entry, Known, reply_to}
use Rattle.mover_rounds.specs.Made.{Copies, HasMade, IsBroken, IsRoundMade, copies_of}
use Rattle.mover_rounds.specs.Rounds.{IsPlanRound, IsWorkRound, done, undone, look}
use Rattle.mover_workers.specs.declared.steps.Step.{Step}
use Rattle.mover_workers.specs.declared.steps.Step.TheVariants.{Done, Idle, Closed}

-- an actor that rested: it may have seen more
pub record HasRested (v w : Known) : Type 0 where
  pub rules : w.rules ≡ v.rules
  pub longer : IsPrefix v.seen w.seen
  pub own : w.own ≡ v.own
  pub blamed : w.blamed ≡ v.blamed

-- PlanTake without a job, and whether Close was asked before
abbrev pub IsLook : Rules → Bool → List Entry → Type 0
IsLook rules closing (x ∷ []) = (x.event ≡ event.PlanTake) × (reply_to rules x ≡ reply.NoJob closing)
IsLook rules closing _ = ⊥

-- a planner's entries: a round that is done, a look, or the look that ends its loop; before an error none, or a round that was given back
abbrev pub IsPlanStep : Rules → List Event → Result Step StepFault → List Entry → Type 0
IsPlanStep rules seen (Ok Done) made = IsPlanRound rules seen done made
IsPlanStep rules seen (Ok Idle) made = IsLook rules false made
IsPlanStep rules seen (Ok Closed) made = IsLook rules true made
IsPlanStep rules seen (Err fault) made = (made ≡ []) ⊎ IsPlanRound rules seen undone made

-- a mover's entries behind a Take that found no work. While a plan is being made they are a planner's round or look. Where nothing is
-- executed and Close was asked, the loop ends; else it rests
abbrev pub IsBehindIdle : Rules → List Event → Reason → Bool → Result Step StepFault → List Entry → Type 0
IsBehindIdle rules seen why.Planning closing (Ok Done) made = IsPlanRound rules seen done made
IsBehindIdle rules seen why.Planning closing (Ok Idle) made = IsPlanRound rules seen look made
IsBehindIdle rules seen why.Planning closing (Err fault) made = (made ≡ []) ⊎ IsPlanRound rules seen undone made
IsBehindIdle rules seen why.NoExecution true (Ok Closed) made = made ≡ []
IsBehindIdle rules seen why.NoExecution false (Ok Idle) made = made ≡ []
IsBehindIdle rules seen why.CapsFull closing (Ok Idle) made = made ≡ []
IsBehindIdle rules seen why.AllLeased closing (Ok Idle) made = made ≡ []
IsBehindIdle rules seen _ closing _ made = ⊥

abbrev pub IsIdleFor : Rules → List Event → Reply → Result Step StepFault → List Entry → Type 0
IsIdleFor rules seen (reply.Idle reason closing) result made = IsBehindIdle rules seen reason closing result made
IsIdleFor rules seen _ result made = ⊥

-- Take without work, and what is behind it
abbrev pub IsIdleStep : Rules → List Event → Result Step StepFault → List Entry → Type 0
IsIdleStep rules seen result [] = ⊥
IsIdleStep rules seen result (x ∷ xs) = (x.event ≡ event.Take) × IsIdleFor rules seen (reply_to rules x) result xs

-- Take with work, and its end
abbrev pub IsWorkStep : Rules → List Event → Result Step StepFault → List Entry → List ChunkCopy → Type 0
IsWorkStep rules seen (Ok Done) made copies = IsRoundMade (IsWorkRound rules seen) rules seen done made copies
IsWorkStep rules seen (Err fault) made copies = IsBroken (IsWorkRound rules seen) rules seen made copies
IsWorkStep rules seen _ made copies = ⊥

-- a planner's entries, and a mover's, with the copies that they name
abbrev pub PlanStep : Rules → List Event → Result Step StepFault → List Entry → List ChunkCopy → Type 0
PlanStep rules seen result made copies = IsPlanStep rules seen result made × (copies ≡ copies_of made)

abbrev pub MoveStep : Rules → List Event → Result Step StepFault → List Entry → List ChunkCopy → Type 0
MoveStep rules seen result made copies = IsWorkStep rules seen result made copies ⊎ (IsIdleStep rules seen result made × (copies ≡ copies_of made))

-- what a step has made, with a copier's copies. A planner's step, and what is behind a Take without work, leave any copier as it is
abbrev pub HasPlanStep : Known → Known → Copies → Result Step StepFault → Type 0
HasPlanStep v w k result = HasMade (PlanStep v.rules w.seen result) v w k k

abbrev pub HasBehind : Known → Known → Copies → Reason → Bool → Result Step StepFault → Type 0
HasBehind v w k reason closing result = HasMade (λ made copies. IsBehindIdle v.rules w.seen reason closing result made × (copies ≡ copies_of made)) v w k k

abbrev pub HasMoveStep : Known → Known → Copies → Copies → Result Step StepFault → Type 0
HasMoveStep v w k l result = HasMade (MoveStep v.rules w.seen result) v w k l

-- what is behind a last look: Close was asked, or not
abbrev pub look_of : Bool → Step
look_of true = Closed
look_of false = Idle
