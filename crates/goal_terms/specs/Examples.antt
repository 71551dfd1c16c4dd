-- A small cluster on which the definitions are computed.
use Rattle.std.specs.Prelude.{[], ◌∷◌, None}
use Rattle.plan_terms.specs.Cluster.{Cluster}
use Rattle.plan_terms.specs.Examples.{shared_rack}
use Rattle.plan_terms.specs.declared.cluster.BrokerState.TheVariants.{Alive, Demoted}

-- broker 0 is not to lead, broker 1 may, and there is one partition
abbrev pub demoted_broker : Cluster
demoted_broker = record {
  brokers = record { id = 0; rack = None; cap = 9 ∷ 9 ∷ 9 ∷ 9 ∷ []; state = Demoted } ∷ record { id = 1; rack = None; cap = 9 ∷ 9 ∷ 9 ∷ 9 ∷ []; state = Alive } ∷ [];
  parts = shared_rack.parts;
  options = shared_rack.options;
}
