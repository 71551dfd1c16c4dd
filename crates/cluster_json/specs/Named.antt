-- A sample on its own, which names its partition.
use Rattle.std.specs.Prelude.{ℕ, ◌^◌, List, if◌then◌else◌, Option, Some, None, Ok, Err, codes}
use Rattle.std.specs.Str.{is_utf8}
use Rattle.serde_json.specs.Data.{Data}
use Rattle.serde_json.specs.Read.{read}
use Rattle.cluster_json.specs.Faults.{Read, not_json, ◌>>=◌}
use Rattle.cluster_json.specs.Loads.{loads_at}
use Rattle.cluster_json.specs.Partitions.{topic_at}
use Rattle.cluster_json.specs.Shapes.{inside, id_at, object_at, number_at, required}
use Rattle.cluster_json.specs.declared.named.NamedSample.{NamedSample}

-- an object of `topic`, `partition`, `time` and `load`
unfoldable pub named_at : Data → Read NamedSample
named_at d = do
  is ← object_at d
  topic ← inside (codes "topic") (required topic_at) d
  number ← inside (codes "partition") (required id_at) d
  time ← inside (codes "time") (required (number_at 0 (2 ^ 53))) d
  loads ← inside (codes "load") (required loads_at) d
  Ok (record { topic = topic; number = number; time = time; loads = loads })

abbrev pub named_where : Option Data → Read NamedSample
named_where None = Err not_json
named_where (Some d) = named_at d

-- the meaning of the bytes of a sample, or its first fault
unfoldable pub named_of : List ℕ → Read NamedSample
named_of bytes = if is_utf8 bytes then named_where (read bytes) else Err not_json
