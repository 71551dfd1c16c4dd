-- The reassignment JSON that Kafka's tools read: which list each partition is to have.
use Rattle.std.specs.Prelude.{ℕ, List, [], ◌∷◌, codes, zero, suc}
use Rattle.std.specs.List.{flat_map}
use Rattle.serde_json.specs.Data.{Data, string, array, object, member, no_members}
use Rattle.serde_json.specs.View.{items_of}
use Rattle.serde_json.specs.Written.{compact_text}
use Rattle.plain_json.specs.Numbers.{number_data, numbers_data}
use Rattle.plan_terms.specs.declared.cluster.Part.{Part}
use Rattle.plan_terms.specs.declared.lists.Proposal.{Proposal}

-- a partition, by its topic and its number there, and the list that it is to have
abbrev pub entry_of : Part → List ℕ → Data
entry_of part replicas = object (member (codes "partition") (number_data part.number)
    (member (codes "replicas") (numbers_data replicas)
    (member (codes "topic") (string part.topic) no_members)))

-- the entry of the partition at place p, or none past the last partition
abbrev pub entry_at : List Part → ℕ → List ℕ → List Data
entry_at [] p replicas = []
entry_at (x ∷ xs) zero replicas = entry_of x replicas ∷ []
entry_at (x ∷ xs) (suc p) replicas = entry_at xs p replicas

-- each proposal's partition with its new list, in order
abbrev pub proposal_entries : List Part → List Proposal → List Data
proposal_entries parts proposals = flat_map (λ p. entry_at parts p.part p.after) proposals

-- each partition with its list, in order
abbrev pub list_entries : List Part → List (List ℕ) → List Data
list_entries [] lists = []
list_entries (x ∷ xs) [] = []
list_entries (x ∷ xs) (list ∷ lists) = entry_of x list ∷ list_entries xs lists

-- the whole: the entries, and version 1 of the form
abbrev pub reassignment : List Data → Data
reassignment entries = object (member (codes "partitions") (array (items_of entries)) (member (codes "version") (number_data 1) no_members))

-- the proposals as a text, compact, with keys in the order of their bytes
unfoldable pub reassignment_text : List Part → List Proposal → List ℕ
reassignment_text parts proposals = compact_text (reassignment (proposal_entries parts proposals))

-- all lists as a text of the same form
unfoldable pub assignment_text : List Part → List (List ℕ) → List ℕ
assignment_text parts lists = compact_text (reassignment (list_entries parts lists))
