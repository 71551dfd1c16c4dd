-- What is to change between two assignments, and what a partition's list is meanwhile.
use Rattle.std.specs.Prelude.{ℕ, Bool, not, ◌&&◌, ◌||◌, List, [], ◌∷◌, ◌++◌, length, slice_set, bytes_eq}
use Rattle.std.specs.List.{filter, list_any}
use Rattle.plan_terms.specs.Cluster.{Lists, list_of, has}
use Rattle.plan_terms.specs.Legal.{each_below}
use Rattle.plan_terms.specs.declared.lists.Proposal.{Proposal}

-- the same members in the same order
abbrev pub same_list : List ℕ → List ℕ → Bool
same_list = bytes_eq

-- partition p, with its list before and after
abbrev pub proposal_at : Lists → Lists → ℕ → Proposal
proposal_at before after p = record { part = p; before = list_of before p; after = list_of after p }

-- the two lists differ
abbrev pub is_change : Proposal → Bool
is_change p = not (same_list p.before p.after)

-- the partitions whose lists differ, in order
unfoldable pub proposals : Lists → Lists → List Proposal
proposals before after = filter is_change (each_below (λ p. proposal_at before after p ∷ []) (length before))

-- the lists after each proposal's new list has come into its partition's place, one proposal after another
abbrev pub carried_out : List Proposal → Lists → Lists
carried_out [] lists = lists
carried_out (p ∷ ps) lists = carried_out ps (slice_set lists p.part p.after)

-- the members of the new list that the old one lacks, in order
abbrev pub added : List ℕ → List ℕ → List ℕ
added before after = filter (λ b. not (has before b)) after

-- the second list has the broker and the first hasn't
abbrev pub gains : List ℕ → List ℕ → ℕ → Bool
gains before after b = has after b && not (has before b)

-- the two lists differ as sets
abbrev pub differ : List ℕ → List ℕ → Bool
differ before after = list_any (λ b. not (has before b)) after || list_any (λ b. not (has after b)) before

-- the list of a partition in flight: the old list first, and then what the new one adds
abbrev pub union : List ℕ → List ℕ → List ℕ
union before after = before ++ added before after
