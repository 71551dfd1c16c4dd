-- How a run ends: its status, and the line that tells it.
use Rattle.std.specs.Prelude.{◌≡◌, ◌⊎◌, ℕ, List, [], ◌∷◌, ◌++◌, Option, Some, None, codes}
use Rattle.cc_base.specs.Outside.{HasRisen, IsPrefixOut, appended}
use Rattle.cluster_json.specs.Faults.{Fault}
use Rattle.cluster_json.specs.Texts.{fault_text}
use Rattle.goal_set.specs.Kinds.{name_of}
use Rattle.goal_set.specs.declared.kinds.GoalKind.{GoalKind}
use Rattle.mover_rounds.specs.declared.drains.DrainEnd.{DrainEnd}
use Rattle.mover_rounds.specs.declared.drains.DrainEnd.TheVariants as drain
use Rattle.quiet_commands.specs.declared.ends.End.{End}
use Rattle.quiet_commands.specs.declared.ends.End.TheVariants.{Done, Usage, Refused, GoalFailed, FileFault, ReadFault, WriteFault, NotDrained, Memory, InputCut, TraceRefused, ListenerFault}
use Rattle.plan_terms.specs.Bytes.{line_feed}

-- the exit status
abbrev pub status_of : End → ℕ
status_of Done = 0
status_of Usage = 2
status_of (Refused line) = 3
status_of (GoalFailed line) = 4
status_of FileFault = 5
status_of ReadFault = 6
status_of WriteFault = 7
status_of NotDrained = 8
status_of Memory = 9
status_of InputCut = 10
status_of TraceRefused = 11
status_of ListenerFault = 12

-- the line on the error stream, ended by a line feed
abbrev pub line_of : End → List ℕ
line_of Done = []
line_of Usage = codes "usage error" ++ line_feed ∷ []
line_of (Refused line) = line.items
line_of (GoalFailed line) = line.items
line_of FileFault = codes "file fault" ++ line_feed ∷ []
line_of ReadFault = codes "read fault" ++ line_feed ∷ []
line_of WriteFault = codes "write fault" ++ line_feed ∷ []
line_of NotDrained = codes "not drained" ++ line_feed ∷ []
line_of Memory = codes "want of memory" ++ line_feed ∷ []
line_of InputCut = codes "input cut" ++ line_feed ∷ []
line_of TraceRefused = codes "trace refused" ++ line_feed ∷ []
line_of ListenerFault = codes "listener fault" ++ line_feed ∷ []

-- the line behind it: that the drain failed, where the end doesn't say so
abbrev pub line_behind : DrainEnd → End → List ℕ
line_behind drain.Drained end = []
line_behind drain.Memory Memory = []
line_behind d NotDrained = []
line_behind d end = codes "not drained" ++ line_feed ∷ []

-- both, of a run that may have had a drain
abbrev pub lines_of : Option DrainEnd → End → List ℕ
lines_of None end = line_of end
lines_of (Some d) end = line_of end ++ line_behind d end

-- the line that tells a file's fault
abbrev pub refusal_line : Fault → List ℕ
refusal_line fault = codes "cluster refused: " ++ fault_text fault ++ line_feed ∷ []

-- the line that tells which goal fails
abbrev pub goal_line : GoalKind → List ℕ
goal_line goal = codes "hard goal failed: " ++ name_of goal ++ line_feed ∷ []

-- the end of a run whose goal fails
abbrev pub IsFailureEnd : GoalKind → End → Type 0
IsFailureEnd goal (GoalFailed line) = line.items ≡ goal_line goal
IsFailureEnd goal _ = ⊥

-- the line is out, or the stream's count of faults rose and a prefix of the line is out
abbrev pub IsTold : List ℕ → Option (List ℕ) → Option (List ℕ) → ℕ → ℕ → Type 0
IsTold line old new before now = (new ≡ appended old line) ⊎ (HasRisen before now × IsPrefixOut old new line)
