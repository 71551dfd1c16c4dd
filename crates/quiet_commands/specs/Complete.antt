-- When a run that waits for nobody has to end well: where no call outside failed, and nothing that was given to it stands in the way.
use Rattle.std.specs.Prelude.{◌≡◌, ◌⊎◌, ℕ, List, Option, Some}
use Rattle.cc_base.specs.Outside.{HasRisen}
use Rattle.cluster_json.specs.File.{Meaning}
use Rattle.quiet_commands.specs.Commands.{Asked, apply, check, command, gen, plan, session, source_of}
use Rattle.quiet_commands.specs.Edges.{Edge}
use Rattle.quiet_commands.specs.Input.{Means}
use Rattle.quiet_commands.specs.Sessions.{IsWholeInput}

-- what is left to read is told, and is whole requests
pub record HasWholeInput (left : Option (List ℕ)) : Type 0 where
  pub stream : List ℕ
  pub told : left ≡ Some stream
  pub whole : IsWholeInput stream

-- a call of the files, of the input or of the output failed
abbrev pub HasFailed : Edge → Type 0
HasFailed e = HasRisen e.files_before e.files_now ⊎ HasRisen e.io.in_before e.io.in_now ⊎ HasRisen e.io.out_before e.io.out_now

-- a session needs an input of whole requests
abbrev pub IsServable : Asked → Edge → Type 0
IsServable (session file review) e = HasWholeInput e.io.left
IsServable asked e = Unit {0}

-- the words are a command, the cluster's text has a meaning, and the input is what the command needs
pub record IsWellGiven (words : List (List ℕ)) (e : Edge) (asked : Asked) : Type 0 where
  pub means : command words ≡ Some asked
  pub bytes : List ℕ
  pub told : source_of e.told asked ≡ Some bytes
  pub file : Meaning
  pub meant : Means bytes file
  pub servable : IsServable asked e

-- the statuses of a command that did what it is for: 4 is a plan's goal that fails, 11 a trace that isn't good
abbrev pub IsWell : Asked → ℕ → Type 0
IsWell (plan file trace ask) status = (status ≡ 0) ⊎ (status ≡ 4)
IsWell (check file trace ask) status = (status ≡ 0) ⊎ (status ≡ 11)
IsWell (apply file ask) status = (status ≡ 0) ⊎ (status ≡ 4)
IsWell (gen seed brokers partitions file ask) status = (status ≡ 0) ⊎ (status ≡ 4)
IsWell (session file review) status = status ≡ 0
