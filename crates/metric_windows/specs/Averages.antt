-- Loads added up and averaged, number by number.
use Rattle.std.specs.Prelude.{◌/◌, ℕ, List, [], ◌∷◌, length, slice_index}
use Rattle.std.specs.List.{sum_by}
use Rattle.plan_terms.specs.declared.cluster.Loads.{Loads}

-- one number for each resource
abbrev pub by_resource : (ℕ → ℕ) → List ℕ
by_resource f = f 0 ∷ f 1 ∷ f 2 ∷ f 3 ∷ []

-- each of the eight numbers, added up over the loads
unfoldable pub total_of : List Loads → Loads
total_of xs = record {
  lead = by_resource (λ r. sum_by (λ x. slice_index x.lead r) xs);
  follow = by_resource (λ r. sum_by (λ x. slice_index x.follow r) xs);
}

-- each of the eight numbers, divided and rounded down
unfoldable pub divided : Loads → ℕ → Loads
divided x n = record {
  lead = by_resource (λ r. slice_index x.lead r / n);
  follow = by_resource (λ r. slice_index x.follow r / n);
}

-- the average of each of the eight numbers, rounded down
abbrev pub mean_of : List Loads → Loads
mean_of xs = divided (total_of xs) (length xs)
