-- The lists after a change of the replication factor of some topics.
use Rattle.std.specs.Prelude.{ℕ, zero, suc, ◌-◌, Bool, false, nat_le, List, [], ◌∷◌, ◌++◌, map, take, length, get_or, slice_set, bytes_eq, fold, Option, Some, None, if◌then◌else◌}
use Rattle.std.specs.List.{list_any, range_with_len}
use Rattle.plan_terms.specs.Cluster.{Cluster, Lists, list_of}
use Rattle.plan_terms.specs.declared.cluster.Part.{Part}
use Rattle.factor_change.specs.Choice.{next_member}

-- the partition's topic is named
abbrev pub is_named : List (List ℕ) → Part → Bool
is_named topics p = list_any (bytes_eq p.topic) topics

-- so the topic of the partition at place p
abbrev pub is_named_at : Cluster → List (List ℕ) → ℕ → Bool
is_named_at c topics p = get_or (map (is_named topics) c.parts) p false

-- one member more at the end of the list of partition p
abbrev pub with_member : Lists → ℕ → Option ℕ → Lists
with_member lists p None = lists
with_member lists p (Some b) = slice_set lists p (list_of lists p ++ b ∷ [])

-- n members more, one by one, each chosen over the lists as changed so far
abbrev pub grown : Cluster → ℕ → ℕ → Lists → Lists
grown c p zero lists = lists
grown c p (suc n) lists = with_member (grown c p n lists) p (next_member c (grown c p n lists) (list_of (grown c p n lists) p))

-- partition p, of a named topic: a list that is long enough becomes its prefix, a shorter one grows
abbrev pub fitted : Cluster → ℕ → Lists → ℕ → Lists
fitted c factor lists p =
    if nat_le factor (length (list_of lists p))
    then slice_set lists p (take factor (list_of lists p))
    else grown c p (factor - length (list_of lists p)) lists

-- partition p: that of another topic stays
abbrev pub resized_at : Cluster → List (List ℕ) → ℕ → Lists → ℕ → Lists
resized_at c topics factor lists p = if is_named_at c topics p then fitted c factor lists p else lists

-- all partitions, in their order
unfoldable pub resized : Cluster → List (List ℕ) → ℕ → Lists → Lists
resized c topics factor lists = fold (resized_at c topics factor) lists (range_with_len 0 (length lists))
