-- The states of brokers.
use Rattle.std.specs.Prelude.{Bool, true, false}
use Rattle.plan_terms.specs.declared.cluster.BrokerState.{BrokerState}
use Rattle.plan_terms.specs.declared.cluster.BrokerState.TheVariants.{Alive, Dead, New, Demoted}

-- lost: its replicas are to leave it
abbrev pub is_dead : BrokerState → Bool
is_dead Alive = false
is_dead Dead = true
is_dead New = false
is_dead Demoted = false

-- being added
abbrev pub is_new : BrokerState → Bool
is_new Alive = false
is_new Dead = false
is_new New = true
is_new Demoted = false

-- not to lead
abbrev pub is_demoted : BrokerState → Bool
is_demoted Alive = false
is_demoted Dead = false
is_demoted New = false
is_demoted Demoted = true
