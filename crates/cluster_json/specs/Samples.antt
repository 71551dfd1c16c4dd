-- The samples of a file.
use Rattle.std.specs.Prelude.{ℕ, suc, ◌^◌, ◌==◌, Bool, ◌&&◌, List, [], ◌∷◌, bytes_eq, if◌then◌else◌, Option, Some, None, Ok, Err, codes}
use Rattle.serde_json.specs.Data.{Data}
use Rattle.plan_terms.specs.declared.cluster.Part.{Part}
use Rattle.cluster_json.specs.Faults.{Read, wrong_shape, ◌>>=◌}
use Rattle.cluster_json.specs.Shapes.{inside, id_at, object_at, number_at, all_at, required}
use Rattle.cluster_json.specs.Loads.{loads_at}
use Rattle.cluster_json.specs.Partitions.{topic_at}
use Rattle.plan_terms.specs.declared.settings.Sample.{Sample}

-- the partition has this topic and number
abbrev pub is_named : List ℕ → ℕ → Part → Bool
is_named topic number p = bytes_eq topic p.topic && (number == p.number)

-- the place of the first partition that passes the test, where the list's first has place i
abbrev pub place_from : (Part → Bool) → ℕ → List Part → Option ℕ
place_from test i [] = None
place_from test i (p ∷ ps) = if test p then Some i else place_from test (suc i) ps

-- the place of the partition of this topic and number
abbrev pub place_of : List Part → List ℕ → ℕ → Option ℕ
place_of parts topic number = place_from (is_named topic number) 0 parts

-- a partition that is there
abbrev pub or_no_partition : Option ℕ → Read ℕ
or_no_partition None = Err (wrong_shape [])
or_no_partition (Some place) = Ok place

-- an object of `topic`, `partition`, `time` and `load`, for a partition of the file
unfoldable pub sample_at : List Part → Data → Read Sample
sample_at parts d = do
  is ← object_at d
  topic ← inside (codes "topic") (required topic_at) d
  number ← inside (codes "partition") (required id_at) d
  time ← inside (codes "time") (required (number_at 0 (2 ^ 53))) d
  loads ← inside (codes "load") (required loads_at) d
  part ← or_no_partition (place_of parts topic number)
  Ok (record { part = part; time = time; loads = loads })

-- the samples, in order
abbrev pub samples_at : List Part → Data → Read (List Sample)
samples_at parts = all_at (sample_at parts)
