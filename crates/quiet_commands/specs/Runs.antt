-- What stands behind each end of a run.
use Rattle.std.specs.Prelude.{◌≡◌, ◌⊎◌, ℕ, List, Option, Some, None, IfSome, Result, Ok, Err}
use Rattle.cc_base.specs.Outside.{HasRisen, with_name}
use Rattle.cluster_gen.specs.Clusters.{cluster_text}
use Rattle.cluster_json.specs.Faults.{Fault}
use Rattle.cluster_json.specs.File.{Meaning}
use Rattle.cluster_json.specs.Views.{file_seen}
use Rattle.cluster_json.specs.declared.file.ClusterFile.{ClusterFile}
use Rattle.core_terms.specs.Asked.{goals_of}
use Rattle.quiet_commands.specs.Applied.{IsApplied}
use Rattle.quiet_commands.specs.Checked.{IsChecked}
use Rattle.quiet_commands.specs.Commands.{Asked, HasFile, apply, check, command, gen, plan, session, source_of, with_source}
use Rattle.quiet_commands.specs.Edges.{Edge, IsSilent, Wrote}
use Rattle.quiet_commands.specs.Ends.{refusal_line}
use Rattle.quiet_commands.specs.Generated.{IsGenerated}
use Rattle.quiet_commands.specs.Input.{IsRefused, Means, planned_for}
use Rattle.quiet_commands.specs.Planned.{IsPlanned}
use Rattle.quiet_commands.specs.Sessions.{DidSession}
use Rattle.quiet_commands.specs.declared.ends.End.{End}
use Rattle.quiet_commands.specs.declared.ends.End.TheVariants.{Usage, Refused, FileFault, NotDrained, Memory, ListenerFault}
use Rattle.quiet_commands.specs.declared.quiet.LoadFault.{LoadFault}
use Rattle.quiet_commands.specs.declared.quiet.LoadFault.TheVariants as fault

-- the texts that a command may make of what its cluster's text means, and how the run ends with each; a session makes none, it writes its replies as
-- it goes
abbrev pub IsMade : (List ℕ → Option (List ℕ)) → Asked → Meaning → List ℕ → End → Type 0
IsMade told (plan name trace ask) m text end = IsPlanned trace (planned_for ask m) (goals_of ask) text end
IsMade told (check name trace ask) m text end = IsChecked (told trace) (planned_for ask m) (goals_of ask) text end
IsMade told (apply name ask) m text end = IsApplied m ask text end
IsMade told (gen seed brokers partitions file ask) m text end = IsGenerated file (cluster_text seed brokers partitions) (planned_for ask m) (goals_of ask) text end
IsMade told (session name review) m text end = ⊥

-- what a command did where the run ended so
abbrev pub Did : Asked → Meaning → Edge → End → Type 0
Did (session name review) m e end = DidSession m review e.io end
Did asked m e end = Wrote e.io (IsMade e.told asked m) end

-- the words are a command for a cluster, and P holds of what is asked and of what the cluster's text means
pub record IsAnswer (words : List (List ℕ)) (told : List ℕ → Option (List ℕ)) (P : Asked → Meaning → Type 0) : Type 0 where
  pub asked : Asked
  pub means : command words ≡ Some asked
  pub file : Meaning
  pub meant : IfSome (source_of told asked) (λ bytes. Means bytes file)
  pub answered : P asked file

-- the words are a command for a cluster whose text is refused, and the line tells its first fault
pub record IsRefusal (words : List (List ℕ)) (told : List ℕ → Option (List ℕ)) (line : List ℕ) : Type 0 where
  pub asked : Asked
  pub means : command words ≡ Some asked
  pub fault : Fault
  pub refused : IfSome (source_of told asked) (λ bytes. IsRefused bytes fault)
  pub line_is : line ≡ refusal_line fault

-- the words are a command that reads its cluster from a file
pub record AsksFile (words : List (List ℕ)) : Type 0 where
  pub asked : Asked
  pub means : command words ≡ Some asked
  pub has_file : HasFile asked

-- what a command did, by its words
abbrev pub Ran : List (List ℕ) → Edge → End → Type 0
Ran words e end = IsAnswer words e.told (λ asked m. Did asked m e end)

-- what each end says of the words and the edge
abbrev pub Runs : List (List ℕ) → Edge → End → Type 0
Runs words e Usage = (command words ≡ None) × IsSilent e.io
Runs words e (Refused line) = IsRefusal words e.told line.items × IsSilent e.io
Runs words e FileFault = AsksFile words × HasRisen e.files_before e.files_now × IsSilent e.io
Runs words e Memory = IsSilent e.io ⊎ Ran words e Memory
Runs words e NotDrained = ⊥
Runs words e ListenerFault = ⊥
Runs words e end = Ran words e end

-- how a command ends whose cluster was read
abbrev pub Performs : Asked → Meaning → Edge → End → Type 0
Performs asked m e Usage = ⊥
Performs asked m e (Refused line) = ⊥
Performs asked m e FileFault = HasFile asked × HasRisen e.files_before e.files_now × IsSilent e.io
Performs asked m e Memory = IsSilent e.io ⊎ Did asked m e Memory
Performs asked m e NotDrained = ⊥
Performs asked m e ListenerFault = ⊥
Performs asked m e end = Did asked m e end

-- ---- the files that are loaded

-- what was read is what the text means, where it is told; a refusal is the text's first fault, and its line tells it; and where the text
-- wasn't had, the cause holds
abbrev pub ReadsFrom : Option (List ℕ) → Type 0 → Result ClusterFile LoadFault → Type 0
ReadsFrom text Cause (Ok file) = IfSome text (λ bytes. Means bytes (file_seen file))
ReadsFrom text Cause (Err (fault.Refused line)) = (f : Fault) × IfSome text (λ bytes. IsRefused bytes f) × (line.items ≡ refusal_line f)
ReadsFrom text Cause (Err fault.Failed) = Cause
ReadsFrom text Cause (Err fault.Memory) = Unit {0}

-- so of the text that a command's cluster is read from; it wasn't had only of a command that reads a file, and a fault was counted
abbrev pub Loads : (List ℕ → Option (List ℕ)) → Asked → ℕ → ℕ → Result ClusterFile LoadFault → Type 0
Loads told asked before now result = ReadsFrom (source_of told asked) (HasFile asked × HasRisen before now) result

-- a refusal with the line of the fault that is told, unless memory ran out
abbrev pub TellsRefusal : Option Fault → LoadFault → Type 0
TellsRefusal told (fault.Refused line) = (f : Fault) × (told ≡ Some f) × (line.items ≡ refusal_line f)
TellsRefusal told fault.Failed = ⊥
TellsRefusal told fault.Memory = Unit {0}

-- where a cluster was read, refused or not, the log has its file; where it was not, the log may have it
abbrev pub HasLoaded : Option (List (List ℕ)) → Option (List (List ℕ)) → Option (List (List ℕ)) → Result ClusterFile LoadFault → Type 0
HasLoaded old new loaded (Ok file) = new ≡ loaded
HasLoaded old new loaded (Err (fault.Refused line)) = new ≡ loaded
HasLoaded old new loaded (Err fault.Failed) = (new ≡ old) ⊎ (new ≡ loaded)
HasLoaded old new loaded (Err fault.Memory) = (new ≡ old) ⊎ (new ≡ loaded)

-- the names of the files that were loaded, with those of a command at their end: FILE before TRACE
abbrev pub with_files : Option (List (List ℕ)) → Asked → Option (List (List ℕ))
with_files log (plan file trace ask) = with_name log file
with_files log (check file trace ask) = with_name (with_name log file) trace
with_files log (apply file ask) = with_name log file
with_files log (gen seed brokers partitions file ask) = log
with_files log (session file review) = with_name log file

-- of a command's further files, `check` loads its trace
abbrev pub with_more : Option (List (List ℕ)) → Asked → Option (List (List ℕ))
with_more log (plan file trace ask) = log
with_more log (check file trace ask) = with_name log trace
with_more log (apply file ask) = log
with_more log (gen seed brokers partitions file ask) = log
with_more log (session file review) = log

-- the words are a command, and just its files were loaded, in their order
pub record LoadsAll (words : List (List ℕ)) (old new : Option (List (List ℕ))) : Type 0 where
  pub asked : Asked
  pub means : command words ≡ Some asked
  pub log : new ≡ with_files old asked

-- the words are a command, and just its cluster file was loaded, if it has one
pub record LoadsFile (words : List (List ℕ)) (old new : Option (List (List ℕ))) : Type 0 where
  pub asked : Asked
  pub means : command words ≡ Some asked
  pub log : new ≡ with_source old asked

-- the words are a command, and its cluster file was loaded alone, if it has one; or all its files were, in their order, and the cluster's text
-- has a meaning
pub record LoadsSome (words : List (List ℕ)) (told : List ℕ → Option (List ℕ)) (old new : Option (List (List ℕ))) : Type 0 where
  pub asked : Asked
  pub means : command words ≡ Some asked
  pub log : (new ≡ with_source old asked) ⊎ ((new ≡ with_files old asked) × ((m : Meaning) × IfSome (source_of told asked) (λ bytes. Means bytes m)))

-- what each end says of the files that were loaded
abbrev pub Logs : List (List ℕ) → (List ℕ → Option (List ℕ)) → Option (List (List ℕ)) → Option (List (List ℕ)) → End → Type 0
Logs words told old new Usage = new ≡ old
Logs words told old new (Refused line) = LoadsFile words old new
Logs words told old new FileFault = (new ≡ old) ⊎ LoadsSome words told old new
Logs words told old new Memory = (new ≡ old) ⊎ LoadsSome words told old new
Logs words told old new end = LoadsAll words old new

-- the same once the cluster was read
abbrev pub PerformLogs : Asked → Option (List (List ℕ)) → Option (List (List ℕ)) → End → Type 0
PerformLogs asked old new Usage = ⊥
PerformLogs asked old new (Refused line) = ⊥
PerformLogs asked old new FileFault = (new ≡ old) ⊎ (new ≡ with_more old asked)
PerformLogs asked old new Memory = (new ≡ old) ⊎ (new ≡ with_more old asked)
PerformLogs asked old new end = new ≡ with_more old asked

-- a run: its words, what it did to the outside, the names of the files that were loaded before and after, and how it ended
pub record QuietRun : Type 0 where
  pub words : List (List ℕ)
  pub edge : Edge
  pub old : Option (List (List ℕ))
  pub new : Option (List (List ℕ))
  pub end : End
  pub runs : Runs words edge end
  pub logs : Logs words edge.told old new end
