-- Small clusters on which the definitions are computed.
use Rattle.std.specs.Prelude.{ℕ, false, List, [], ◌∷◌, Some, codes}
use Rattle.plan_terms.specs.Cluster.{Cluster}
use Rattle.plan_terms.specs.Fraction.{Fraction}
use Rattle.plan_terms.specs.declared.cluster.Broker.{Broker}
use Rattle.plan_terms.specs.declared.cluster.BrokerState.{BrokerState}
use Rattle.plan_terms.specs.declared.cluster.BrokerState.TheVariants.{Alive, Dead, New}
use Rattle.plan_terms.specs.declared.cluster.Options.{Options}
use Rattle.plan_terms.specs.declared.cluster.Part.{Part}

abbrev one : Fraction
one = record { num = 1; den = 1 }

abbrev options : Options
options = record {
  limit = one ∷ one ∷ one ∷ one ∷ [];
  balance = one ∷ one ∷ one ∷ one ∷ [];
  replica_balance = one;
  leader_balance = one;
  topic_balance = one;
  max_replicas = 10;
  leads_only = false;
  min_leaders = [];
}

abbrev broker : ℕ → List ℕ → BrokerState → Broker
broker b rack state = record { id = b; rack = Some rack; cap = 9 ∷ 9 ∷ 9 ∷ 9 ∷ []; state = state }

-- its leader carries 1, 2, 3, 4 of the resources and each follower 5, 6, 0, 7
abbrev part : ℕ → Part
part n = record { topic = codes "t"; number = n; loads = record { lead = 1 ∷ 2 ∷ 3 ∷ 4 ∷ []; follow = 5 ∷ 6 ∷ 0 ∷ 7 ∷ [] }; excluded = false; chunks = 1 }

-- brokers 0 and 1 on one rack, broker 2 on another, and one partition
abbrev pub shared_rack : Cluster
shared_rack = record {
  brokers = broker 0 (97 ∷ []) Alive ∷ broker 1 (97 ∷ []) Alive ∷ broker 2 (98 ∷ []) Alive ∷ [];
  parts = part 0 ∷ [];
  options = options;
}

-- broker 0 is lost, broker 1 stays, broker 2 is being added, and each has one of three partitions
abbrev pub replaced_broker : Cluster
replaced_broker = record {
  brokers = broker 0 (97 ∷ []) Dead ∷ broker 1 (98 ∷ []) Alive ∷ broker 2 (99 ∷ []) New ∷ [];
  parts = part 0 ∷ part 1 ∷ part 2 ∷ [];
  options = options;
}

abbrev pub one_each : List (List ℕ)
one_each = (0 ∷ []) ∷ (1 ∷ []) ∷ (2 ∷ []) ∷ []
