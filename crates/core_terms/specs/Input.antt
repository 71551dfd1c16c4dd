-- The loads of a cluster: those of the windows of samples, else those that the file gives.
use Rattle.std.specs.Prelude.{◌≡◌, ℕ, suc, Bool, ◌||◌, List, [], ◌∷◌, ◌++◌, fold, get_or, false, Option, Some, None, is_none, is_some, if◌then◌else◌, length}
use Rattle.std.specs.List.{All, count_by, range_with_len}
use Rattle.plan_terms.specs.Belongs.{Belongs}
use Rattle.plan_terms.specs.Faults.{IsCase}
use Rattle.plan_terms.specs.declared.cluster.Loads.{Loads}
use Rattle.plan_terms.specs.declared.cluster.Part.{Part}
use Rattle.plan_terms.specs.declared.settings.Sample.{Sample}
use Rattle.plan_terms.specs.declared.settings.WindowRules.{WindowRules}
use Rattle.metric_windows.specs.Samples.{refusal, load_of}
use Rattle.cluster_json.specs.File.{Meaning}
use Rattle.cluster_json.specs.Ranges.{AreCaps, AreRules, IsShare, IsSample}

-- the samples so far, and one more where it isn't refused
abbrev pub and_accepted : WindowRules → List Sample → Sample → List Sample
and_accepted rules seen s = if is_none (refusal rules seen s) then seen ++ s ∷ [] else seen

-- the samples that are accepted, one after another
unfoldable pub accepted : WindowRules → List Sample → List Sample
accepted rules samples = fold (and_accepted rules) [] samples

-- a partition with other loads, where there are any
abbrev pub loaded_one : Option Loads → Part → Part
loaded_one None p = p
loaded_one (Some loads) p = record p { loads = loads }

-- each partition, of which the first has place i, with the loads of its place
abbrev pub loaded_from : (ℕ → Option Loads) → ℕ → List Part → List Part
loaded_from loads i [] = []
loaded_from loads i (p ∷ ps) = loaded_one (loads i) p ∷ loaded_from loads (suc i) ps

-- the file's partitions with the loads of the windows of these samples; one without keeps what the file gives, or none
unfoldable pub loaded_parts : Meaning → List Sample → List Part
loaded_parts m samples = loaded_from (load_of m.rules samples) 0 m.cluster.parts

-- the partition has loads: of its windows, or of the file
abbrev pub has_loads : Meaning → List Sample → ℕ → Bool
has_loads m samples p = is_some (load_of m.rules samples p) || get_or m.with_load p false

-- how many partitions have loads
unfoldable pub valid_parts : Meaning → List Sample → ℕ
valid_parts m samples = count_by (has_loads m samples) (range_with_len 0 (length m.cluster.parts))

-- what a file that was read keeps: its cluster is one, its lists belong to it, and caps, windows, ratio and samples are in their ranges
pub record IsInput (m : Meaning) : Type 0 where
  pub case : IsCase m.cluster
  pub belongs : Belongs m.cluster m.lists
  pub caps : AreCaps m.caps
  pub rules : AreRules m.rules
  pub share : IsShare m.ratio
  pub one_each : length m.with_load ≡ length m.cluster.parts
  pub samples : All (IsSample (length m.cluster.parts)) m.samples
