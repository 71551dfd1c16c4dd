-- A broker that is no member has no legal move and no legal swap.
use Rattle.std.proofs.Common.{◌≡◌, ℕ, false, List, [], ◌∷◌, zero, suc, refl}
use Rattle.std.specs.List.{filter}
use Rattle.std.proofs.lemmas.Bool.{both_ways, false_from_ne_true}
use Rattle.std.proofs.lemmas.List.Elements.{filter-append}
use Rattle.plan_terms.specs.Cluster.{Cluster, Lists, list_of, has}
use Rattle.plan_terms.specs.Legal.{is_legal, moves_from, swaps_with, each_below}
use Rattle.plan_terms.proofs.EffectLemmas.{fits-legal, fits-Move, fits-Swap}
use Rattle.plan_terms.specs.declared.cluster.Broker.{Broker}
use Rattle.plan_terms.specs.declared.actions.Action.TheVariants.{Move, Swap}

module _ (c : Cluster) (lists : Lists) (p a : ℕ) (none : has (list_of lists p) a ≡ false) where
  no_move : (b : ℕ) → is_legal c lists (Move p a b) ≡ false
  no_move b = false_from_ne_true _ (λ h. both_ways _ none (fits-Move lists p a b (fits-legal c lists (Move p a b) h)).source)

  no_swap : (q b : ℕ) → is_legal c lists (Swap p a q b) ≡ false
  no_swap q b = false_from_ne_true _ (λ h. both_ways _ none (fits-Swap lists p a q b (fits-legal c lists (Swap p a q b) h)).source)

  pub no_moves_from : (brokers : List Broker) → filter (is_legal c lists) (moves_from brokers p a) ≡ []
  no_moves_from [] = refl
  no_moves_from (x ∷ xs) = rw (no_move x.id) (no_moves_from xs)

  no_swaps_with : (brokers : List Broker) (q : ℕ) → filter (is_legal c lists) (swaps_with brokers p a q) ≡ []
  no_swaps_with [] q = refl
  no_swaps_with (x ∷ xs) q = rw (no_swap q x.id) (no_swaps_with xs q)

  pub no_swaps_from : (brokers : List Broker) (n : ℕ) → filter (is_legal c lists) (each_below (swaps_with brokers p a) n) ≡ []
  no_swaps_from brokers zero = refl
  no_swaps_from brokers (suc n) = rw (filter-append, no_swaps_from brokers n, no_swaps_with brokers n) refl
