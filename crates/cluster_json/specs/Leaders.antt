-- The least leaders of topics, from the file's second version on.
use Rattle.std.specs.Prelude.{ℕ, suc, ◌==◌, List, [], ◌∷◌, ◌++◌, map, bytes_eq, if◌then◌else◌, Ok, Err, codes}
use Rattle.std.specs.List.{list_any}
use Rattle.serde_json.specs.Data.{Data, Items, no_items, item}
use Rattle.plan_terms.specs.declared.cluster.MinLeaders.{MinLeaders}
use Rattle.cluster_json.specs.Faults.{Read, wrong_shape, under, ◌>>=◌, index_step}
use Rattle.cluster_json.specs.Partitions.{topic_at}
use Rattle.cluster_json.specs.Shapes.{inside, object_at, number_at, list_at, required, optional}

-- a topic that no earlier entry names
abbrev pub new_topic : List (List ℕ) → List ℕ → Read (List ℕ)
new_topic seen topic = if list_any (bytes_eq topic) seen then Err (wrong_shape []) else Ok topic

abbrev pub new_topic_at : List (List ℕ) → Data → Read (List ℕ)
new_topic_at seen d = topic_at d >>= new_topic seen

-- an object of `topic` and `leaders`, behind those that name the topics seen before
unfoldable pub leaders_at : List (List ℕ) → Data → Read MinLeaders
leaders_at seen d = do
  is ← object_at d
  topic ← inside (codes "topic") (required (new_topic_at seen)) d
  leaders ← inside (codes "leaders") (required (number_at 1 10001)) d
  Ok (record { topic = topic; leaders = leaders })

-- the entries, of which the next has this index
abbrev pub leaders_from : ℕ → List MinLeaders → Items → Read (List MinLeaders)
leaders_from i seen no_items = Ok seen
leaders_from i seen (item d ds) = under (index_step i) (leaders_at (map (λ m. m.topic) seen) d) >>= (λ m. leaders_from (suc i) (seen ++ m ∷ []) ds)

-- the list of entries
abbrev pub all_leaders_at : Data → Read (List MinLeaders)
all_leaders_at d = list_at d >>= leaders_from 0 []

-- the entries of a file of version 2, which may be absent; another version has none
unfoldable pub min_leaders_at : ℕ → Data → Read (List MinLeaders)
min_leaders_at version d = if version == 2 then inside (codes "minTopicLeaders") (optional [] all_leaders_at) d else Ok []
