-- What a drain makes.
use Rattle.std.specs.Prelude.{◌≡◌, ℕ, ◌<◌, List, Result, Ok, Err}
use Rattle.cluster_gate.specs.declared.copier.ChunkCopy.{ChunkCopy}
use Rattle.core_laws.specs.Alone.{IsDone, IsQuiet, active_jobs}
use Rattle.core_terms.specs.State.{Desk}
use Rattle.core_terms.specs.declared.events.Event.{Event}
use Rattle.core_terms.specs.declared.faults.StepFault.{StepFault}
use Rattle.core_terms.specs.declared.faults.StepFault.TheVariants.{AdminFault}
use Rattle.mover_rounds.specs.Asked.{Rules, Entry, Known}
use Rattle.mover_rounds.specs.Rounds.{IsLookedRound, IsRound, idle}
use Rattle.mover_rounds.specs.Made.{AreDone, AreRounds, Copies, HasMade, IsBroken, IsCause, IsRoundMade}
use Rattle.mover_rounds.specs.declared.drains.DrainEnd.{DrainEnd}
use Rattle.mover_rounds.specs.declared.drains.DrainEnd.TheVariants as drain
use Rattle.mover_rounds.specs.declared.round.Found.{Found}
use Rattle.mover_rounds.specs.declared.round.Found.TheVariants.{Planned, Worked, Idle}

-- rounds that are done; behind them an idle one; or before an error what stands before it
abbrev pub AreSome : Rules → List Event → List Entry → List ChunkCopy → Type 0
AreSome rules seen made copies = (n : ℕ) × AreDone rules seen n made copies

abbrev pub AreIdle : Rules → List Event → List Entry → List ChunkCopy → Type 0
AreIdle rules seen made copies = (n : ℕ) × AreRounds rules seen n (IsRoundMade (IsLookedRound rules seen) rules seen idle) made copies

abbrev pub AreBroken : Rules → List Event → List Entry → List ChunkCopy → Type 0
AreBroken rules seen made copies = (n : ℕ) × AreRounds rules seen n (IsBroken (IsRound rules seen) rules seen) made copies

-- what rounds have made up to one that planned a job, or found neither
abbrev pub AreFound : Rules → List Event → Result Found StepFault → List Entry → List ChunkCopy → Type 0
AreFound rules seen (Ok Planned) made copies = AreSome rules seen made copies
AreFound rules seen (Ok Worked) made copies = ⊥
AreFound rules seen (Ok (Idle why closing)) made copies = AreIdle rules seen made copies
AreFound rules seen (Err fault) made copies = AreBroken rules seen made copies

abbrev pub HasFound : Known → Known → Copies → Copies → Result Found StepFault → Type 0
HasFound v w k l result = HasMade (AreFound v.rules w.seen result) v w k l

-- a job that was planned waits no more, and nothing is out; where neither was found, nothing is unfinished
abbrev pub IsFoundBy : Desk → Desk → Found → Type 0
IsFoundBy d u Planned = (active_jobs u < active_jobs d) × IsQuiet u
IsFoundBy d u Worked = ⊥
IsFoundBy d u (Idle why closing) = IsDone u

-- what a drain has made: rounds, and at its end an idle one
abbrev pub IsDrained : Rules → List Event → DrainEnd → List Entry → List ChunkCopy → Type 0
IsDrained rules seen drain.Drained made copies = AreIdle rules seen made copies
IsDrained rules seen _ made copies = AreBroken rules seen made copies

abbrev pub HasDrained : Known → Known → Copies → Copies → DrainEnd → Type 0
HasDrained v w k l end = HasMade (IsDrained v.rules w.seen end) v w k l

-- the admin's fault that ends a drain is the last one, and came in it, and a task is unfinished; with any other end none came
abbrev pub IsDrainCause : Known → Known → DrainEnd → Type 0
IsDrainCause v w (drain.AdminFault n) = IsCause v w (AdminFault n)
IsDrainCause v w _ = w.blamed ≡ v.blamed
