-- Loops of a planner and of a mover.
use Rattle.std.specs.Prelude.{◌≡◌, List, [], ◌++◌, Some, Result, Ok, Err, ◌⊎◌}
use Rattle.std.specs.List.{AllByRecursion}
use Rattle.cluster_gate.specs.declared.copier.ChunkCopy.{ChunkCopy}
use Rattle.core_terms.specs.declared.events.Event.{Event}
use Rattle.core_terms.specs.declared.faults.StepFault.{StepFault}
use Rattle.core_terms.specs.declared.faults.StepFault.TheVariants.{AdminFault, Memory}
use Rattle.mover_rounds.specs.Asked.{Rules, Entry, Known}
use Rattle.mover_rounds.specs.Made.{Copies, HasMade, IsCause, copies_of, joined}
use Rattle.mover_rounds.specs.Rounds.{IsWorkRound, done}
use Rattle.mover_workers.specs.Steps.{IsIdleStep, IsPlanStep, MoveStep, PlanStep}
use Rattle.mover_workers.specs.declared.loops.LoopEnd.{LoopEnd}
use Rattle.mover_workers.specs.declared.loops.LoopEnd.TheVariants as loop
use Rattle.mover_workers.specs.declared.steps.Step.{Step}
use Rattle.mover_workers.specs.declared.steps.Step.TheVariants.{Done, Idle, Closed}

-- the steps that don't end a loop: a planner's round or look; a mover's round, or a Take without work and what is behind it
abbrev pub IsPlanUnit : Rules → List Event → List Entry → Type 0
IsPlanUnit rules seen made = IsPlanStep rules seen (Ok Done) made ⊎ IsPlanStep rules seen (Ok Idle) made

abbrev pub IsMoveUnit : Rules → List Event → List Entry → Type 0
IsMoveUnit rules seen made = IsWorkRound rules seen done made ⊎ (IsIdleStep rules seen (Ok Done) made ⊎ IsIdleStep rules seen (Ok Idle) made)

-- such steps, one after another, with the copies that they name
pub record AreUnits (IsUnit : List Entry → Type 0) (made : List Entry) (copies : List ChunkCopy) : Type 0 where
  pub units : List (List Entry)
  pub made_is : made ≡ joined units
  pub did : AllByRecursion IsUnit units
  pub copies_are : copies ≡ copies_of made

-- such steps, and what stands behind them
pub record AreUnitsThen (IsUnit : List Entry → Type 0) (IsLast : List Entry → List ChunkCopy → Type 0) (made : List Entry) (copies : List ChunkCopy) : Type 0 where
  pub front : List Entry
  pub last : List Entry
  pub front_copies : List ChunkCopy
  pub last_copies : List ChunkCopy
  pub parts : (made ≡ front ++ last) × (copies ≡ front_copies ++ last_copies)
  pub did : AreUnits IsUnit front front_copies
  pub last_is : IsLast last last_copies

-- what came of the last step of a loop
abbrev pub last_of : LoopEnd → Result Step StepFault
last_of loop.Closed = Ok Closed
last_of (loop.AdminFault number) = Err (AdminFault number)
last_of loop.Memory = Err Memory

-- what a mover's loop makes, with its copier's copies
abbrev pub HasMoved : Known → Known → Copies → Copies → LoopEnd → Type 0
HasMoved v w k l end = HasMade (AreUnitsThen (IsMoveUnit v.rules w.seen) (MoveStep v.rules w.seen (last_of end))) v w k l

-- no copier: it makes no copy, and none fails
abbrev pub no_copier : Copies
no_copier = record { made = Some []; faults = 0 }

-- what a planner's loop makes, without a copier
abbrev pub HasPlanned : Known → Known → LoopEnd → Type 0
HasPlanned v w end = HasMade (AreUnitsThen (IsPlanUnit v.rules w.seen) (PlanStep v.rules w.seen (last_of end))) v w no_copier no_copier

-- a loop that calls no admin meets no fault of it
abbrev pub CallsNoAdmin : LoopEnd → Type 0
CallsNoAdmin (loop.AdminFault number) = ⊥
CallsNoAdmin _ = Unit {0}

-- the admin's fault that ends a loop is the last one, and came in it; where it ends otherwise, none came
abbrev pub IsLoopCause : Known → Known → LoopEnd → Type 0
IsLoopCause v w (loop.AdminFault number) = IsCause v w (AdminFault number)
IsLoopCause v w _ = w.blamed ≡ v.blamed
