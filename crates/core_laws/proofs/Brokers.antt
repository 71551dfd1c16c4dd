-- The brokers of a cluster, by their ids.
use Rattle.std.proofs.Common.{◌≡◌, ℕ, Bool, true, false, ◌||◌, cond, List, [], ◌∷◌, map, refl, inl, inr}
use Rattle.std.specs.Prelude.{◌==◌, is_some, Some}
use Rattle.std.specs.List.{list_any}
use Rattle.std.proofs.lemmas.Bool.{or_cases, or_parts, eqb-true, false≢true}
use Rattle.plan_terms.specs.Cluster.{has, leads, broker_of}
use Rattle.plan_terms.specs.declared.cluster.Broker.{Broker}

-- the ids of brokers
abbrev pub ids : List Broker → List ℕ
ids brokers = map (λ (b : Broker). b.id) brokers

-- a broker is known where its id is among the ids
pub is_known-has : (brokers : List Broker) (b : ℕ) → is_some (broker_of brokers b) ≡ has (ids brokers) b
is_known-has [] b = refl
is_known-has (x ∷ xs) b = by (x.id == b) (is_known-has xs b) where
  by : (c : Bool) → is_some (broker_of xs b) ≡ has (ids xs) b → is_some (cond c (Some x) (broker_of xs b)) ≡ (c || has (ids xs) b)
  by true more = refl
  by false more = more

-- a member of a list in which none passes doesn't pass
pub member : (p : ℕ → Bool) (xs : List ℕ) (b : ℕ) → list_any p xs ≡ false → has xs b ≡ true → p b ≡ false
member p [] b n h = absurd (false≢true h)
member p (x ∷ xs) b n h =
    let two = or_parts (p x) (list_any p xs) n in
    elim (or_cases (x == b) (has xs b) h) [
      | inl e ↦ rw (eqb-true x b e) at two.0
      | inr r ↦ member p xs b two.1 r
    ]

-- who is no member doesn't lead
pub leads-has : (list : List ℕ) (b : ℕ) → has list b ≡ false → leads list b ≡ false
leads-has [] b h = refl
leads-has (x ∷ xs) b h = (or_parts (x == b) (has xs b) h).0
