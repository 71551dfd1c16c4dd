-- What the program plans for: a cluster with the loads of its samples, its lists and its caps.
use Rattle.std.specs.Prelude.{◌≡◌, ℕ, List, Ok, Err}
use Rattle.plan_terms.specs.Cluster.{Cluster, Lists}
use Rattle.plan_terms.specs.declared.settings.Caps.{Caps}
use Rattle.cluster_json.specs.Faults.{Fault}
use Rattle.cluster_json.specs.File.{Meaning, meaning_of}
use Rattle.core_terms.specs.Asked.{case_of}
use Rattle.core_terms.specs.Input.{accepted, loaded_parts}
use Rattle.user_tasks.specs.Asks.{AskView}
use Rattle.quiet_commands.specs.declared.input.Loaded.{Loaded}

-- a cluster, the replica list of each of its partitions, and how many movements there may be at a time
pub record ClusterLists : Type 0 where
  pub cluster : Cluster
  pub lists : Lists
  pub caps : Caps

-- the cluster of a file with the loads of its samples' windows; a partition without keeps what the file gives, or none
unfoldable pub loaded_cluster : Meaning → Cluster
loaded_cluster m = record m.cluster { parts = loaded_parts m (accepted m.rules m.samples) }

-- what is planned for: the cluster as the request sees it
unfoldable pub planned_for : AskView → Meaning → ClusterLists
planned_for ask m = record { cluster = case_of ask (loaded_cluster m); lists = m.lists; caps = m.caps }

-- the same as a value of the program
abbrev pub cluster_lists : Loaded → ClusterLists
cluster_lists loaded = record { cluster = loaded.case; lists = loaded.lists; caps = loaded.caps }

-- the bytes of a file mean this
abbrev pub Means : List ℕ → Meaning → Type 0
Means bytes m = meaning_of bytes ≡ Ok m

-- the bytes are refused for this fault, the first of theirs
abbrev pub IsRefused : List ℕ → Fault → Type 0
IsRefused bytes fault = meaning_of bytes ≡ Err fault
