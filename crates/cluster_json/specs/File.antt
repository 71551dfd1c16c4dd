-- What the bytes of a cluster file mean, or their first fault.
use Rattle.std.specs.Prelude.{ℕ, Bool, ◌==◌, ◌||◌, List, [], map, if◌then◌else◌, Option, Some, None, Ok, Err, codes}
use Rattle.std.specs.Str.{is_utf8}
use Rattle.serde_json.specs.Data.{Data, Num}
use Rattle.serde_json.specs.Find.{as_number, as_u64}
use Rattle.serde_json.specs.Read.{read}
use Rattle.plan_terms.specs.Cluster.{Cluster, Lists}
use Rattle.plan_terms.specs.Faults.{cluster_fault, lists_fault}
use Rattle.plan_terms.specs.Fraction.{Fraction}
use Rattle.plan_terms.specs.declared.cluster.Broker.{Broker}
use Rattle.plan_terms.specs.declared.cluster.MinLeaders.{MinLeaders}
use Rattle.plan_terms.specs.declared.cluster.Options.{Options}
use Rattle.plan_terms.specs.declared.faults.CaseFault.{CaseFault}
use Rattle.cluster_json.specs.Brokers.{broker_at}
use Rattle.cluster_json.specs.Capacities.{entries_at, all_equipped}
use Rattle.cluster_json.specs.Config.{config_at}
use Rattle.cluster_json.specs.Faults.{Read, not_json, wrong_shape, unsupported_version, no_case, ◌>>=◌}
use Rattle.cluster_json.specs.Leaders.{min_leaders_at}
use Rattle.cluster_json.specs.Partitions.{part_at}
use Rattle.cluster_json.specs.Samples.{samples_at}
use Rattle.cluster_json.specs.Shapes.{inside, object_at, all_at, required, optional}
use Rattle.plan_terms.specs.declared.settings.Caps.{Caps}
use Rattle.plan_terms.specs.declared.settings.WindowRules.{WindowRules}
use Rattle.cluster_json.specs.declared.config.Config.{Config}
use Rattle.cluster_json.specs.declared.partitions.FilePart.{FilePart}
use Rattle.plan_terms.specs.declared.settings.Sample.{Sample}

-- the members of a file
pub record FileMembers : Type 0 where
  pub brokers : List Broker
  pub parts : List FilePart
  pub config : Config
  pub samples : List Sample
  pub min_leaders : List MinLeaders

-- what a file means
pub record Meaning : Type 0 where
  pub cluster : Cluster
  pub lists : Lists
  pub caps : Caps
  pub rules : WindowRules
  pub ratio : Fraction
  pub with_load : List Bool
  pub samples : List Sample

-- the number 1 or 2
abbrev pub known_version : Option ℕ → Read ℕ
known_version None = Err unsupported_version
known_version (Some n) = if (n == 1) || (n == 2) then Ok n else Err unsupported_version

-- a number, which is 1 or 2
abbrev pub version_number : Option Num → Read ℕ
version_number None = Err (wrong_shape [])
version_number (Some n) = known_version (as_u64 n)

unfoldable pub version_at : Data → Read ℕ
version_at d = version_number (as_number d)

-- an object of `version`, `brokers`, `partitions`, and perhaps `brokerCapacities`, `config`, `samples` and, in version 2,
-- `minTopicLeaders`
unfoldable pub members_at : Data → Read FileMembers
members_at d = do
  is ← object_at d
  version ← inside (codes "version") (required version_at) d
  named ← inside (codes "brokers") (required (all_at broker_at)) d
  entries ← inside (codes "brokerCapacities") (optional None entries_at) d
  brokers ← all_equipped entries named
  parts ← inside (codes "partitions") (required (all_at part_at)) d
  config ← inside (codes "config") config_at d
  samples ← inside (codes "samples") (optional [] (samples_at (map (λ p. p.part) parts))) d
  min_leaders ← min_leaders_at version d
  Ok (record { brokers = brokers; parts = parts; config = config; samples = samples; min_leaders = min_leaders })

-- no fault
abbrev pub unless : Option CaseFault → Read (Unit {0})
unless None = Ok tt
unless (Some fault) = Err (no_case fault)

-- the thresholds of the settings, with the least leaders
abbrev pub options_with : Options → List MinLeaders → Options
options_with options min_leaders = record options { min_leaders = min_leaders }

abbrev pub cluster_of : FileMembers → Cluster
cluster_of m = record { brokers = m.brokers; parts = map (λ p. p.part) m.parts; options = options_with m.config.options m.min_leaders }

abbrev pub lists_of : FileMembers → Lists
lists_of m = map (λ p. p.replicas) m.parts

-- brokers, partitions and least leaders within the limits and without repetition, and lists of brokers of the file
unfoldable pub cluster_at : FileMembers → Read Meaning
cluster_at m = do
  case_is ← unless (cluster_fault m.brokers (map (λ p. p.part) m.parts) (options_with m.config.options m.min_leaders))
  lists_are ← unless (lists_fault (cluster_of m) (lists_of m))
  Ok (record {
    cluster = cluster_of m;
    lists = lists_of m;
    caps = m.config.caps;
    rules = m.config.rules;
    ratio = m.config.ratio;
    with_load = map (λ p. p.with_load) m.parts;
    samples = m.samples;
  })

-- the meaning of a JSON value
unfoldable pub file_at : Data → Read Meaning
file_at d = members_at d >>= cluster_at

-- the meaning of JSON that was read
abbrev pub file_where : Option Data → Read Meaning
file_where None = Err not_json
file_where (Some d) = file_at d

-- the meaning of the bytes of a file, or its first fault
unfoldable pub meaning_of : List ℕ → Read Meaning
meaning_of bytes = if is_utf8 bytes then file_where (read bytes) else Err not_json
