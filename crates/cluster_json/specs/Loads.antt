-- What a replica of a partition puts on its broker.
use Rattle.std.specs.Prelude.{ℕ, ◌^◌, List, [], ◌∷◌, Ok, codes}
use Rattle.serde_json.specs.Data.{Data}
use Rattle.plan_terms.specs.declared.cluster.Loads.{Loads}
use Rattle.cluster_json.specs.Faults.{Read, ◌>>=◌}
use Rattle.cluster_json.specs.Shapes.{inside, object_at, number_at, optional}

-- a load, 0 where it is absent
abbrev pub load_at : Data → Read ℕ
load_at = number_at 0 (2 ^ 32)

abbrev pub no_load : List ℕ
no_load = 0 ∷ 0 ∷ 0 ∷ 0 ∷ []

-- the leader's: an object of `CPU`, `NW_IN`, `NW_OUT` and `DISK`, each of which may be absent
unfoldable pub leader_at : Data → Read (List ℕ)
leader_at d = do
  is ← object_at d
  cpu ← inside (codes "CPU") (optional 0 load_at) d
  nw_in ← inside (codes "NW_IN") (optional 0 load_at) d
  nw_out ← inside (codes "NW_OUT") (optional 0 load_at) d
  disk ← inside (codes "DISK") (optional 0 load_at) d
  Ok (cpu ∷ nw_in ∷ nw_out ∷ disk ∷ [])

-- a follower's: the same without `NW_OUT`, since it sends nothing to clients
unfoldable pub follower_at : Data → Read (List ℕ)
follower_at d = do
  is ← object_at d
  cpu ← inside (codes "CPU") (optional 0 load_at) d
  nw_in ← inside (codes "NW_IN") (optional 0 load_at) d
  disk ← inside (codes "DISK") (optional 0 load_at) d
  Ok (cpu ∷ nw_in ∷ 0 ∷ disk ∷ [])

-- an object of `leader` and `follower`, each of which may be absent
unfoldable pub loads_at : Data → Read Loads
loads_at d = do
  is ← object_at d
  lead ← inside (codes "leader") (optional no_load leader_at) d
  follow ← inside (codes "follower") (optional no_load follower_at) d
  Ok (record { lead = lead; follow = follow })

-- no load at all
abbrev pub no_loads : Loads
no_loads = record { lead = no_load; follow = no_load }
