-- The leads of a partition, by the rows of the brokers.
use Rattle.std.specs.Prelude.{List, Option, Some, None}
use Rattle.std.proofs.Common.{◌≡◌, ℕ, suc, true, false, [], ◌∷◌, map, refl, ap, ◌∙◌, sym, subst, arith, inl, inr}
use Rattle.std.specs.List.{All}
use Rattle.std.proofs.lemmas.Bool.{cases_eq, ne_eqb, false≢true}
use Rattle.plan_terms.specs.Cluster.{Cluster, Lists, has, ids_of}
use Rattle.plan_terms.specs.Legal.{leads_of}
use Rattle.plan_terms.specs.declared.cluster.Broker.{Broker}
use Rattle.plan_terms.specs.declared.actions.Action.TheVariants.{Lead}
use Rattle.plan_terms.specs.declared.cluster.Part.{Part}
use Rattle.goal_terms.specs.Quantity.{Weights}
use Rattle.candidate_order.specs.Looks.{look_weight, look_out, look_back}
use Rattle.candidate_order.proofs.RowLemmas.{through}

pub leads-rows : {R : Type 0} (id : R → ℕ) (rows : List R) (c : Cluster) (p : ℕ) → map id rows ≡ ids_of c.brokers → leads_of c.brokers p ≡ map (λ r. Lead p (id r)) rows
leads-rows id rows c p e = through (λ k. Lead p k) (λ (y : Broker). y.id) c.brokers ∙ ap (map (λ k. Lead p k)) (sym e) ∙ sym (through (λ k. Lead p k) id rows)

-- a lead gives what the first place weighs and gets back what another one does
module _ (parts : List Part) (lists : Lists) (p b : ℕ) where
  out-is : (o : Option Weights) → look_weight o parts p true ≡ look_out o parts lists (Lead p b)
  out-is None = refl
  out-is (Some w) = refl

  back-is : (o : Option Weights) → look_weight o parts p false ≡ look_back o parts lists (Lead p b)
  back-is None = refl
  back-is (Some w) = refl

same-map : {X Y : Type 0} (f g : X → Y) → ((x : X) → f x ≡ g x) → (xs : List X) → map f xs ≡ map g xs
same-map f g e [] = refl
same-map f g e (x ∷ xs) = let h = e x in let t = same-map f g e xs in cc

pub lead-outs : {X : Type 0} (weighs : X → Option Weights) (parts : List Part) (lists : Lists) (p b : ℕ) (xs : List X)
    → map (λ x. look_weight (weighs x) parts p true) xs ≡ map (λ x. look_out (weighs x) parts lists (Lead p b)) xs
lead-outs weighs parts lists p b = same-map _ _ (λ x. out-is parts lists p b (weighs x))

pub lead-backs : {X : Type 0} (weighs : X → Option Weights) (parts : List Part) (lists : Lists) (p b : ℕ) (xs : List X)
    → map (λ x. look_weight (weighs x) parts p false) xs ≡ map (λ x. look_back (weighs x) parts lists (Lead p b)) xs
lead-backs weighs parts lists p b = same-map _ _ (λ x. back-is parts lists p b (weighs x))

-- what holds of all members holds of one
pub All-has : (P : ℕ → Type 0) (xs : List ℕ) (b : ℕ) → All P xs → has xs b ≡ true → P b
All-has P [] b all h = absurd (false≢true h)
All-has P (x ∷ xs) b all h = elim (cases_eq x b) as (λ _. P b) [
  | inl e ↦ subst P e (all 0 x (omega arith))
  | inr n ↦ All-has P xs b (λ k d l. all (suc k) d (omega arith)) (rw (ne_eqb x b n) at h)
]
