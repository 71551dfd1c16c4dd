-- The configuration of a file.
use Rattle.std.specs.Prelude.{false, List, [], ◌∷◌, if◌then◌else◌, Option, Some, None, Ok, Err, codes}
use Rattle.serde_json.specs.Data.{Data, Members, no_members, member}
use Rattle.serde_json.specs.Find.{as_object}
use Rattle.plan_terms.specs.Fraction.{Fraction}
use Rattle.plan_terms.specs.declared.cluster.Options.{Options}
use Rattle.cluster_json.specs.Faults.{Read, wrong_shape, bad_config, ◌>>=◌}
use Rattle.cluster_json.specs.Settings.{is_setting, ratio_setting, whole_setting}
use Rattle.plan_terms.specs.declared.settings.Caps.{Caps}
use Rattle.plan_terms.specs.declared.settings.WindowRules.{WindowRules}
use Rattle.cluster_json.specs.declared.config.Config.{Config}

-- each member is a setting; they go by the bytes of their names
abbrev pub settings_of : Members → Read (Unit {0})
settings_of no_members = Ok tt
settings_of (member name d rest) = if is_setting name d then settings_of rest else Err (bad_config name)

-- the members of an object
abbrev pub settings_where : Option Members → Read (Unit {0})
settings_where None = Err (wrong_shape [])
settings_where (Some members) = settings_of members

-- an object of settings
unfoldable pub settings_at : Data → Read (Unit {0})
settings_at d = settings_where (as_object d)

-- the capacity thresholds of CPU, NW_IN, NW_OUT and DISK
abbrev pub limits_of : Option Data → List Fraction
limits_of config =
    ratio_setting (codes "cpu.capacity.threshold") config
    ∷ ratio_setting (codes "network.inbound.capacity.threshold") config
    ∷ ratio_setting (codes "network.outbound.capacity.threshold") config
    ∷ ratio_setting (codes "disk.capacity.threshold") config ∷ []

-- and their balance thresholds
abbrev pub balances_of : Option Data → List Fraction
balances_of config =
    ratio_setting (codes "cpu.balance.threshold") config
    ∷ ratio_setting (codes "network.inbound.balance.threshold") config
    ∷ ratio_setting (codes "network.outbound.balance.threshold") config
    ∷ ratio_setting (codes "disk.balance.threshold") config ∷ []

-- the goals' thresholds; the least leaders are no setting
unfoldable pub options_of : Option Data → Options
options_of config = record {
  limit = limits_of config;
  balance = balances_of config;
  replica_balance = ratio_setting (codes "replica.count.balance.threshold") config;
  leader_balance = ratio_setting (codes "leader.replica.count.balance.threshold") config;
  topic_balance = ratio_setting (codes "topic.replica.count.balance.threshold") config;
  max_replicas = whole_setting (codes "max.replicas.per.broker") config;
  leads_only = false;
  min_leaders = [];
}

-- how many movements there may be at a time
unfoldable pub caps_of : Option Data → Caps
caps_of config = record {
  broker = whole_setting (codes "num.concurrent.partition.movements.per.broker") config;
  cluster = whole_setting (codes "max.num.cluster.movements") config;
  leader = whole_setting (codes "num.concurrent.leader.movements") config;
}

-- the windows of samples
unfoldable pub rules_of : Option Data → WindowRules
rules_of config = record {
  width = whole_setting (codes "partition.metrics.window.ms") config;
  keep = whole_setting (codes "num.partition.metrics.windows") config;
  least = whole_setting (codes "min.samples.per.partition.metrics.window") config;
  need = whole_setting (codes "min.valid.windows") config;
}

-- the share of partitions that have to have a load
unfoldable pub valid_ratio_of : Option Data → Fraction
valid_ratio_of config = ratio_setting (codes "min.valid.partition.ratio") config

-- what the settings say, and the defaults where they say nothing
unfoldable pub config_of : Option Data → Config
config_of config = record { options = options_of config; caps = caps_of config; rules = rules_of config; ratio = valid_ratio_of config }

-- the settings, where there are any
abbrev pub checked : Option Data → Read (Unit {0})
checked None = Ok tt
checked (Some d) = settings_at d

-- the configuration, which may be absent
unfoldable pub config_at : Option Data → Read Config
config_at config = checked config >>= (λ is. Ok (config_of config))
