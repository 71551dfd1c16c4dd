-- Brokers and partitions with one member of one of them changed.
use Rattle.std.specs.Prelude.{ℕ, zero, suc, Bool, List, [], ◌∷◌}
use Rattle.plan_terms.specs.declared.cluster.Broker.{Broker}
use Rattle.plan_terms.specs.declared.cluster.BrokerState.{BrokerState}
use Rattle.plan_terms.specs.declared.cluster.Loads.{Loads}
use Rattle.plan_terms.specs.declared.cluster.Part.{Part}

-- the broker at place i has state s
abbrev pub with_state : List Broker → ℕ → BrokerState → List Broker
with_state [] i s = []
with_state (b ∷ bs) zero s = record b { state = s } ∷ bs
with_state (b ∷ bs) (suc i) s = b ∷ with_state bs i s

-- the partition at place i has loads l
abbrev pub with_loads : List Part → ℕ → Loads → List Part
with_loads [] i l = []
with_loads (p ∷ ps) zero l = record p { loads = l } ∷ ps
with_loads (p ∷ ps) (suc i) l = p ∷ with_loads ps i l

-- whether the topic of the partition at place i is excluded is e
abbrev pub with_excluded : List Part → ℕ → Bool → List Part
with_excluded [] i e = []
with_excluded (p ∷ ps) zero e = record p { excluded = e } ∷ ps
with_excluded (p ∷ ps) (suc i) e = p ∷ with_excluded ps i e
