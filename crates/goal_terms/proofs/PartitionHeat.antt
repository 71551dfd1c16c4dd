-- An action of two brokers that hold no member of a bad partition lessens no goal over partitions, nor does one of good partitions.
use Rattle.std.specs.Prelude.{nat_lt, IsTrue, ◌&&◌}
use Rattle.std.proofs.Common.{◌≡◌, ℕ, ◌<◌, Bool, true, false, List, [], ◌∷◌, length, get_or, zero, suc, refl, arith, inl, inr, eq-eqb}
use Rattle.std.specs.List.{list_any}
use Rattle.std.proofs.lemmas.Bool.{and_from, or_left, or_right, or_parts, lt-ltb, ltb-false, false≢true, cases_lt}
use Rattle.plan_terms.specs.Cluster.{Cluster, Lists, list_of, has}
use Rattle.plan_terms.specs.Belongs.{Belongs}
use Rattle.plan_terms.specs.Fits.{fits}
use Rattle.plan_terms.specs.Effect.{replace, exchange_first}
use Rattle.plan_terms.specs.Goal.{Lessens, per_partition}
use Rattle.goal_terms.specs.Heats.{partition_heat, has_excess}
use Rattle.goal_terms.specs.Pairs.{giver, taker, touches, ColdPairs, StillParts}
use Rattle.plan_terms.proofs.EffectLemmas.{fits-Move, fits-Lead, fits-Swap}
use Rattle.plan_terms.proofs.PartitionLemmas.{lessens-one, lessens-two}
use Rattle.goal_terms.specs.declared.heat.Heat.TheVariants.{Cold}
use Rattle.plan_terms.specs.declared.actions.Action.{Action}
use Rattle.plan_terms.specs.declared.actions.Action.TheVariants.{Move, Lead, Swap}

module _ (f : List ℕ → ℕ) where
  -- a member of a bad partition is found
  holds : (lists : Lists) (p k : ℕ) → p < length lists → has (list_of lists p) k ≡ true → 0 < f (list_of lists p) → list_any (λ list. has list k && nat_lt 0 (f list)) lists ≡ true
  holds [] p k l h i = absurd (omega arith)
  holds (x ∷ lists) zero k l h i = or_left _ _ (and_from _ _ h (lt-ltb 0 (f x) i))
  holds (x ∷ lists) (suc p) k l h i = or_right _ _ (holds lists p k (omega arith) h i)

  -- and is not cold
  not_cold : (lists : Lists) (p k : ℕ) → p < length lists → has (list_of lists p) k ≡ true → 0 < f (list_of lists p) → partition_heat f lists k ≡ Cold → ⊥
  not_cold lists p k l h i e = let other = rw (holds lists p k l h i) at e in absurd (cc)

  -- the first member is one
  has-first : (xs : List ℕ) (b : ℕ) → has xs b ≡ true → has xs (get_or xs 0 0) ≡ true
  has-first [] b h = absurd (false≢true h)
  has-first (x ∷ xs) b h = or_left _ _ (eq-eqb x x refl)

  -- an action of two cold brokers lessens no goal over partitions
  pub partition-cold_pairs : (hard : Bool) (c : Cluster) (lists : Lists) → Belongs c lists → ColdPairs (per_partition hard f c) (partition_heat f lists) lists
  partition-cold_pairs hard c lists belongs = record { none = none } where
    none : (a : Action) → IsTrue (fits lists a) → partition_heat f lists (giver lists a) ≡ Cold → partition_heat f lists (taker a) ≡ Cold → Lessens (per_partition hard f c) lists a → ⊥
    none (Move p a b) fit h i less =
        let move = fits-Move lists p a b fit in
        let l : p < length lists = move.within in
        let lower = lessens-one hard f c lists belongs (Move p a b) p (replace a b (list_of lists p)) l refl less in
        not_cold lists p a l move.source (omega arith) h
    none (Lead p b) fit h i less =
        let lead = fits-Lead lists p b fit in
        let l : p < length lists = lead.within in
        let lower = lessens-one hard f c lists belongs (Lead p b) p (exchange_first b (list_of lists p)) l refl less in
        not_cold lists p (get_or (list_of lists p) 0 0) l (has-first (list_of lists p) b lead.member) (omega arith) h
    none (Swap p a q b) fit h i less =
        let swap = fits-Swap lists p a q b fit in
        let lower = lessens-two hard f c lists belongs (Swap p a q b) p q (replace a b (list_of lists p)) (replace b a (list_of lists q)) swap.first swap.second swap.apart refl less in
        elim (cases_lt 0 (f (list_of lists p))) as (λ _. ⊥) [
          | inl some ↦ not_cold lists p a swap.first swap.source some h
          | inr nothing ↦ not_cold lists q b swap.second swap.target (omega arith) i
        ]

  -- an action of partitions without an excess lessens no goal over partitions
  pub partition-still_parts : (hard : Bool) (c : Cluster) (lists : Lists) → Belongs c lists → StillParts (per_partition hard f c) (has_excess f lists) lists
  partition-still_parts hard c lists belongs = record { none = none } where
    none : (a : Action) → IsTrue (fits lists a) → touches (has_excess f lists) a ≡ false → Lessens (per_partition hard f c) lists a → ⊥
    none (Move p a b) fit still less =
        let l : p < length lists = (fits-Move lists p a b fit).within in
        let lower = lessens-one hard f c lists belongs (Move p a b) p (replace a b (list_of lists p)) l refl less in
        let none = ltb-false 0 (f (list_of lists p)) still in
        omega arith
    none (Lead p b) fit still less =
        let l : p < length lists = (fits-Lead lists p b fit).within in
        let lower = lessens-one hard f c lists belongs (Lead p b) p (exchange_first b (list_of lists p)) l refl less in
        let none = ltb-false 0 (f (list_of lists p)) still in
        omega arith
    none (Swap p a q b) fit still less =
        let swap = fits-Swap lists p a q b fit in
        let lower = lessens-two hard f c lists belongs (Swap p a q b) p q (replace a b (list_of lists p)) (replace b a (list_of lists q)) swap.first swap.second swap.apart refl less in
        let parts = or_parts (has_excess f lists p) (has_excess f lists q) still in
        let one = ltb-false 0 (f (list_of lists p)) parts.0 in
        let two = ltb-false 0 (f (list_of lists q)) parts.1 in
        omega arith
