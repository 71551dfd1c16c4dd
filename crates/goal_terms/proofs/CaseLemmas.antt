-- A case is within the limits.
use Rattle.std.specs.Prelude.{◌||◌, nat_le, option_map, if◌then◌else◌, slice_index}
use Rattle.std.proofs.Common.{◌≡◌, ℕ, ◌<◌, Bool, true, false, eqb, List, [], ◌∷◌, ◌++◌, zero, suc, refl, ◌∙◌, arith, Option, Some, None}
use Rattle.std.specs.List.{All, list_any}
use Rattle.std.proofs.lemmas.List.Elements.{All-nil, All-cons}
use Rattle.std.proofs.lemmas.Bool.{and_from, or_parts, or_from, leb-false, not_from_false, ne_eqb, both_ways}
use Rattle.plan_terms.specs.Cluster.{Cluster, has, ids_of}
use Rattle.plan_terms.specs.Faults.{IsCase, case_fault, broker_repeat, part_repeat, first_repeat, repeat_from, same_id, is_heavy, is_large}
use Rattle.plan_terms.specs.declared.cluster.Broker.{Broker}
use Rattle.plan_terms.specs.declared.cluster.Part.{Part}
use Rattle.plan_terms.proofs.FaultLemmas.{option_or-None, WithinLimits-faultless}
use Rattle.plan_terms.proofs.MemberLemmas.{eqb-sym}
use Rattle.goal_terms.specs.Limits.{Limits, SmallLoads, SmallCap}
use Rattle.goal_terms.specs.PerBroker.{distinct_ids}

-- none of the numbers is as great as the top, nor the 0 past their end
none_great : (top : ℕ) → 0 < top → (xs : List ℕ) → list_any (λ x. nat_le top x) xs ≡ false → (r : ℕ) → slice_index xs r < top
none_great top some [] h r = some
none_great top some (x ∷ xs) h zero = leb-false top x (or_parts _ _ h).0
none_great top some (x ∷ xs) h (suc r) = none_great top some xs (or_parts _ _ h).1 r

-- where no member passes the test, a fact of those that fail it holds of all
all_from_none : {X : Type 0} (test : X → Bool) (P : X → Type 0) → ((x : X) → test x ≡ false → P x) → (xs : List X) → list_any test xs ≡ false → All P xs
all_from_none test P f [] h = All-nil P
all_from_none test P f (x ∷ xs) h = let here = or_parts _ _ h in All-cons P x xs (f x here.0) (all_from_none test P f xs here.1)

-- a partition that isn't heavy has small loads
small_loads : (p : Part) → is_heavy p ≡ false → SmallLoads p
small_loads p h = record {
  lead = none_great 4294967296 (omega arith) p.loads.lead (or_parts _ _ h).0;
  follow = none_great 4294967296 (omega arith) p.loads.follow (or_parts _ _ h).1;
}

-- a broker that isn't large has small capacities
small_cap : (x : Broker) → is_large x ≡ false → SmallCap x
small_cap x h = record { each = none_great 1099511627776 (omega arith) x.cap h }

-- a test that would be a repetition fails, and the rest has none
passes : (t : Bool) (n : ℕ) (rest : Option ℕ) → (if t then Some n else rest) ≡ None → (t ≡ false) × (rest ≡ None)
passes true n rest h = absurd cc
passes false n rest h = (refl, h)

-- a broker whose id none of those seen has
fresh_id : (x : Broker) (seen : List Broker) → list_any (same_id x) seen ≡ false → has (ids_of seen) x.id ≡ false
fresh_id x [] h = refl
fresh_id x (y ∷ seen) h = or_from _ _ (eqb-sym x.id y.id (or_parts _ _ h).0) (fresh_id x seen (or_parts _ _ h).1)

-- the ids with one more at the end
ids_push : (k : ℕ) (x : Broker) (seen : List Broker) → has (ids_of (seen ++ x ∷ [])) k ≡ (has (ids_of seen) k || (eqb x.id k || false))
ids_push k x [] = refl
ids_push k x (y ∷ seen) =
    elim (eqb y.id k) as (λ t. (t || has (ids_of (seen ++ x ∷ [])) k) ≡ ((t || has (ids_of seen) k) || (eqb x.id k || false))) [ true ↦ refl | false ↦ ids_push k x seen ]

-- an id that was seen does not come again
unseen : (k n : ℕ) (seen xs : List Broker) → repeat_from same_id seen n xs ≡ None → has (ids_of seen) k ≡ true → has (ids_of xs) k ≡ false
unseen k n seen [] h s = refl
unseen k n seen (x ∷ xs) h s =
    let new = passes (list_any (same_id x) seen) n _ h in
    or_from (eqb x.id k) (has (ids_of xs) k) (ne_eqb x.id k (λ e. let none : has (ids_of seen) k ≡ false = rw e at (fresh_id x seen new.0) in both_ways (has (ids_of seen) k) none s))
    (unseen k (suc n) (seen ++ x ∷ []) xs new.1 (ids_push k x seen ∙ rw s refl))

-- brokers none of which repeats an earlier one have distinct ids
distinct-unrepeated : (n : ℕ) (seen xs : List Broker) → repeat_from same_id seen n xs ≡ None → distinct_ids xs ≡ true
distinct-unrepeated n seen [] h = refl
distinct-unrepeated n seen (x ∷ xs) h =
    let new = passes (list_any (same_id x) seen) n _ h in
    and_from _ _ (not_from_false _ (unseen x.id (suc n) (seen ++ x ∷ []) xs new.1 (ids_push x.id x seen ∙ last (has (ids_of seen) x.id) x.id)))
    (distinct-unrepeated (suc n) (seen ++ x ∷ []) xs new.1) where
      last : (t : Bool) (k : ℕ) → (t || (eqb k k || false)) ≡ true
      last t k = grind arith

-- nothing comes of nothing alone
option_map-None : {X Y : Type 0} (f : X → Y) (o : Option X) → option_map f o ≡ None → o ≡ None
option_map-None f None h = refl
option_map-None f (Some x) h = absurd cc

-- a case has distinct ids
pub distinct-case : (c : Cluster) → IsCase c → distinct_ids c.brokers ≡ true
unfolding case_fault broker_repeat
distinct-case c h =
    let none : first_repeat same_id c.brokers ≡ None = option_map-None _ (first_repeat same_id c.brokers) (option_or-None (broker_repeat c.brokers) (part_repeat c.parts) (option_or-None _ _ h.faultless).1).0 in
    distinct-unrepeated 0 [] c.brokers none

-- a case is within the limits
pub Limits-case : (c : Cluster) → IsCase c → Limits c
Limits-case c h =
    let within = WithinLimits-faultless c.brokers c.parts h.faultless in
    record {
      few_brokers = within.few_brokers;
      few_topics = within.few_topics;
      few_parts = within.few_parts;
      loads = all_from_none is_heavy SmallLoads small_loads c.parts within.light;
      caps = all_from_none is_large SmallCap small_cap c.brokers within.small;
      ids = distinct-case c h;
    }
