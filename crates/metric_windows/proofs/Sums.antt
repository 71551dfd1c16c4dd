-- Tallies of lists put together.
use Rattle.std.proofs.Common.{◌≡◌, ℕ, ◌+◌, List, [], ◌∷◌, ◌++◌, slice_index}
use Rattle.std.specs.List.{sum_by}
use Rattle.std.proofs.lemmas.List.{length_push, length-append}
use Rattle.std.proofs.lemmas.List.Sums.{sum_by_push, sum_by-append}
use Rattle.plan_terms.specs.declared.cluster.Loads.{Loads}
use Rattle.metric_windows.specs.Averages.{by_resource, total_of}
use Rattle.metric_windows.specs.Tables.{tally_of, with_load, joined, added}

by_resource-same : (f g : ℕ → ℕ) → ((r : ℕ) → f r ≡ g r) → by_resource f ≡ by_resource g
by_resource-same f g h = let a = h 0 in let b = h 1 in let c = h 2 in let d = h 3 in cc

loads-same : (a b c d : List ℕ) → a ≡ b → c ≡ d → ◌≡◌ {A = Loads} (record { lead = a; follow = c }) (record { lead = b; follow = d })
loads-same a b c d p q = cc

pub total-push : (xs : List Loads) (x : Loads) → total_of (xs ++ x ∷ []) ≡ added (total_of xs) x
unfolding total_of added
total-push xs x = loads-same _ _ _ _
    (by_resource-same (λ r. sum_by (λ (y : Loads). slice_index y.lead r) (xs ++ x ∷ [])) (λ r. sum_by (λ (y : Loads). slice_index y.lead r) xs + slice_index x.lead r) (λ r. sum_by_push (λ (y : Loads). slice_index y.lead r) xs x))
    (by_resource-same (λ r. sum_by (λ (y : Loads). slice_index y.follow r) (xs ++ x ∷ [])) (λ r. sum_by (λ (y : Loads). slice_index y.follow r) xs + slice_index x.follow r) (λ r. sum_by_push (λ (y : Loads). slice_index y.follow r) xs x))

pub total-append : (xs ys : List Loads) → total_of (xs ++ ys) ≡ added (total_of xs) (total_of ys)
unfolding total_of added
total-append xs ys = loads-same _ _ _ _
    (by_resource-same (λ r. sum_by (λ (y : Loads). slice_index y.lead r) (xs ++ ys)) (λ r. sum_by (λ (y : Loads). slice_index y.lead r) xs + sum_by (λ (y : Loads). slice_index y.lead r) ys) (λ r. sum_by-append (λ (y : Loads). slice_index y.lead r) xs ys))
    (by_resource-same (λ r. sum_by (λ (y : Loads). slice_index y.follow r) (xs ++ ys)) (λ r. sum_by (λ (y : Loads). slice_index y.follow r) xs + sum_by (λ (y : Loads). slice_index y.follow r) ys) (λ r. sum_by-append (λ (y : Loads). slice_index y.follow r) xs ys))

pub tally-push : (xs : List Loads) (x : Loads) → tally_of (xs ++ x ∷ []) ≡ with_load (tally_of xs) x
tally-push xs x = let e = total-push xs x in let l = length_push xs x in cc

pub tally-append : (xs ys : List Loads) → tally_of (xs ++ ys) ≡ joined (tally_of xs) (tally_of ys)
tally-append xs ys = let e = total-append xs ys in let l = length-append xs ys in cc
