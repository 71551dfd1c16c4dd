-- The partitions of a file.
use Rattle.std.specs.Prelude.{ℕ, suc, ◌==◌, Bool, false, not, ◌&&◌, ◌||◌, nat_le, List, [], length, bytes_eq, if◌then◌else◌, Option, Some, None, unwrap_or, is_some, Ok, Err, codes}
use Rattle.std.specs.List.{list_all}
use Rattle.serde_json.specs.Data.{Data, Items, no_items, item}
use Rattle.plan_terms.specs.declared.cluster.Loads.{Loads}
use Rattle.cluster_json.specs.Faults.{Read, bad_topic, index_step, under, ◌>>=◌}
use Rattle.cluster_json.specs.Shapes.{inside, id_at, object_at, number_at, text_at, note_at, list_at, all_at, required, optional}
use Rattle.cluster_json.specs.Loads.{loads_at, no_loads}
use Rattle.cluster_json.specs.declared.partitions.FilePart.{FilePart}
use Rattle.plan_terms.specs.Bytes.{hyphen, point, digit_0, digit_9, upper_a, upper_z, underscore, lower_a, lower_z}

-- an ASCII letter or digit, `.`, `_` or `-`
abbrev pub is_topic_byte : ℕ → Bool
is_topic_byte b = (nat_le lower_a b && nat_le b lower_z) || (nat_le upper_a b && nat_le b upper_z) || (nat_le digit_0 b && nat_le b digit_9) || (b == point) || (b == underscore) || (b == hyphen)

-- 1 to 249 such characters, but neither `.` nor `..`
abbrev pub is_topic : List ℕ → Bool
is_topic s = nat_le 1 (length s) && nat_le (length s) 249 && list_all is_topic_byte s && not (bytes_eq s (codes ".")) && not (bytes_eq s (codes ".."))

-- a topic's name
unfoldable pub topic_at : Data → Read (List ℕ)
topic_at d = text_at d >>= (λ s. if is_topic s then Ok s else Err (bad_topic []))

-- the replica list
abbrev pub replicas_at : Data → Read (List ℕ)
replicas_at = all_at id_at

-- texts that aren't used, of which the first has this index
abbrev pub notes_from : ℕ → Items → Read (Unit {0})
notes_from i no_items = Ok tt
notes_from i (item d ds) = under (index_step i) (note_at d) >>= (λ is. notes_from (suc i) ds)

-- a list of texts that aren't used
abbrev pub log_dirs_at : Data → Read (Unit {0})
log_dirs_at d = list_at d >>= notes_from 0

-- its loads, where it has them
abbrev pub given_loads_at : Data → Read (Option Loads)
given_loads_at d = loads_at d >>= (λ loads. Ok (Some loads))

-- an object of `topic`, `partition`, `replicas`, and perhaps `log_dirs`, `chunks` and `load`
unfoldable pub part_at : Data → Read FilePart
part_at d = do
  is ← object_at d
  topic ← inside (codes "topic") (required topic_at) d
  number ← inside (codes "partition") (required id_at) d
  replicas ← inside (codes "replicas") (required replicas_at) d
  log_dirs ← inside (codes "log_dirs") (optional tt log_dirs_at) d
  chunks ← inside (codes "chunks") (optional 1 (number_at 1 1001)) d
  load ← inside (codes "load") (optional None given_loads_at) d
  Ok (record {
    part = record { topic = topic; number = number; loads = unwrap_or load no_loads; excluded = false; chunks = chunks };
    replicas = replicas;
    with_load = is_some load;
  })
