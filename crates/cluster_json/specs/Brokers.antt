-- The brokers of a file.
use Rattle.std.specs.Prelude.{ℕ, List, [], bytes_eq, if◌then◌else◌, Option, Some, None, Ok, Err, codes}
use Rattle.serde_json.specs.Data.{Data}
use Rattle.plan_terms.specs.declared.cluster.BrokerState.{BrokerState}
use Rattle.plan_terms.specs.declared.cluster.BrokerState.TheVariants.{Alive, Dead, New, Demoted}
use Rattle.cluster_json.specs.Faults.{Read, wrong_shape, ◌>>=◌}
use Rattle.cluster_json.specs.Shapes.{inside, id_at, object_at, text_at, required, optional}
use Rattle.cluster_json.specs.declared.brokers.FileBroker.{FileBroker}

-- the rack's name
abbrev pub rack_at : Data → Read (Option (List ℕ))
rack_at d = text_at d >>= (λ s. Ok (Some s))

-- a state by its name
unfoldable pub state_of : List ℕ → Read BrokerState
state_of s =
    if bytes_eq s (codes "ALIVE") then Ok Alive else (
    if bytes_eq s (codes "DEAD") then Ok Dead else (
    if bytes_eq s (codes "NEW") then Ok New else (
    if bytes_eq s (codes "DEMOTED") then Ok Demoted else Err (wrong_shape []))))

abbrev pub state_at : Data → Read BrokerState
state_at d = text_at d >>= state_of

-- an object of `id`, perhaps `rack`, and perhaps `state`
unfoldable pub broker_at : Data → Read FileBroker
broker_at d = do
  is ← object_at d
  id ← inside (codes "id") (required id_at) d
  rack ← inside (codes "rack") (optional None rack_at) d
  state ← inside (codes "state") (optional Alive state_at) d
  Ok (record { id = id; rack = rack; state = state })
