-- The brokers of a case, those of them that are lost, and how many chunks its partitions have.
use Rattle.std.proofs.Common.{◌≡◌, ℕ, ◌≤◌, Bool, true, false, not, ◌||◌, cond, List, [], ◌∷◌, ◌++◌, map, get_or, refl, sym, ap, ◌∙◌, suc, inl, inr}
use Rattle.std.specs.Prelude.{◌==◌, nat_lt, is_some, Option, Some, None}
use Rattle.std.specs.List.{All, list_any, list_all, filter}
use Rattle.std.specs.Option.{option_map, option_map_or}
use Rattle.std.proofs.lemmas.Bool.{ltb-false, and_from, and_parts, not_from_false, not-true, or_cases, or_left, or_right, or_parts, or_from, eq-eqb, ne_eqb, eqb-true, true≢false, false≢true, false_from_ne_true}
use Rattle.std.proofs.Math.Path.{fun_ext}
use Rattle.plan_terms.specs.Belongs.{distinct}
use Rattle.plan_terms.specs.Cluster.{Cluster, Lists, has, leads, is_known, broker_of}
use Rattle.plan_terms.specs.Faults.{IsCase, has_bad_chunks, case_fault, broker_repeat, first_repeat, repeat_from, same_id}
use Rattle.plan_terms.specs.Legal.{is_lost}
use Rattle.plan_terms.specs.States.{is_dead}
use Rattle.plan_terms.specs.declared.cluster.Broker.{Broker}
use Rattle.plan_terms.proofs.FaultLemmas.{WithinLimits-faultless, option_or-None}
use Rattle.plan_terms.specs.declared.cluster.Part.{Part}
use Rattle.std.proofs.lemmas.List.Elements.{All-map}
use Rattle.exec_terms.proofs.Gives.{none_any}

-- the ids of brokers, and of those that are lost
abbrev pub ids : List Broker → List ℕ
ids brokers = map (λ (b : Broker). b.id) brokers

abbrev pub lost_ids : List Broker → List ℕ
lost_ids brokers = ids (filter (λ (b : Broker). is_dead b.state) brokers)

-- a broker is known where its id is among the ids
pub is_known-has : (brokers : List Broker) (b : ℕ) → is_some (broker_of brokers b) ≡ has (ids brokers) b
is_known-has [] b = refl
is_known-has (x ∷ xs) b = by (x.id == b) (is_known-has xs b) where
  by : (c : Bool) → is_some (broker_of xs b) ≡ has (ids xs) b → is_some (cond c (Some x) (broker_of xs b)) ≡ (c || has (ids xs) b)
  by true more = refl
  by false more = more

-- no id stands twice
has-seen : (x : Broker) (seen : List Broker) → list_any (same_id x) seen ≡ false → has (ids seen) x.id ≡ false
has-seen x [] h = refl
has-seen x (y ∷ ys) h =
    let two = or_parts (same_id x y) (list_any (same_id x) ys) h in
    or_from (y.id == x.id) (has (ids ys) x.id) (ne_eqb y.id x.id (λ e. true≢false (sym (eq-eqb x.id y.id (sym e)) ∙ two.0))) (has-seen x ys two.1)

has-last : (x : Broker) (seen : List Broker) → has (ids (seen ++ x ∷ [])) x.id ≡ true
has-last x [] = or_left (x.id == x.id) false (eq-eqb x.id x.id refl)
has-last x (y ∷ ys) = or_right (y.id == x.id) (has (ids (ys ++ x ∷ [])) x.id) (has-last x ys)

has-earlier : (x : Broker) (seen : List Broker) (b : ℕ) → has (ids seen) b ≡ true → has (ids (seen ++ x ∷ [])) b ≡ true
has-earlier x [] b h = absurd (false≢true h)
has-earlier x (y ∷ ys) b h = elim (or_cases (y.id == b) (has (ids ys) b) h) [
  | inl e ↦ or_left (y.id == b) (has (ids (ys ++ x ∷ [])) b) e
  | inr r ↦ or_right (y.id == b) (has (ids (ys ++ x ∷ [])) b) (has-earlier x ys b r)
]

fresh : (t : Bool) (m : ℕ) (o : Option ℕ) → cond t (Some m) o ≡ None → (t ≡ false) × (o ≡ None)
fresh true m o e = absurd cc
fresh false m o e = (refl, e)

apart : (seen xs : List Broker) (m b : ℕ) → repeat_from same_id seen m xs ≡ None → has (ids seen) b ≡ true → has (ids xs) b ≡ false
apart seen [] m b h e = refl
apart seen (x ∷ xs) m b h e =
    let new = fresh (list_any (same_id x) seen) m (repeat_from same_id (seen ++ x ∷ []) (suc m) xs) h in
    or_from (x.id == b) (has (ids xs) b)
    (ne_eqb x.id b (λ s. true≢false (sym (rw (← s) at e) ∙ has-seen x seen new.0)))
    (apart (seen ++ x ∷ []) xs (suc m) b new.1 (has-earlier x seen b e))

once_from : (seen xs : List Broker) (m : ℕ) → repeat_from same_id seen m xs ≡ None → distinct (ids xs) ≡ true
once_from seen [] m h = refl
once_from seen (x ∷ xs) m h =
    let new = fresh (list_any (same_id x) seen) m (repeat_from same_id (seen ++ x ∷ []) (suc m) xs) h in
    and_from (not (has (ids xs) x.id)) (distinct (ids xs))
    (not_from_false (has (ids xs) x.id) (apart (seen ++ x ∷ []) xs (suc m) x.id new.1 (has-last x seen)))
    (once_from (seen ++ x ∷ []) xs (suc m) new.1)

option_map-None : {X Y : Type 0} (f : X → Y) (o : Option X) → option_map f o ≡ None → o ≡ None
option_map-None f None h = refl
option_map-None f (Some x) h = absurd cc

pub ids_once : (c : Cluster) → IsCase c → distinct (ids c.brokers) ≡ true
unfolding case_fault broker_repeat
ids_once c i = once_from [] c.brokers 0 (option_map-None _ (first_repeat same_id c.brokers) (option_or-None (broker_repeat c.brokers) _ (option_or-None _ _ i.faultless).1).0)

-- the ids of the lost brokers are ids of brokers
all_has : (q : ℕ → Bool) (xs : List ℕ) → ((b : ℕ) → has xs b ≡ true → q b ≡ true) → list_all q xs ≡ true
all_has q [] h = refl
all_has q (x ∷ xs) h = and_from (q x) (list_all q xs) (h x (or_left (x == x) (has xs x) (eq-eqb x x refl))) (all_has q xs (λ b m. h b (or_right (x == b) (has xs b) m)))

has-lost : (brokers : List Broker) (b : ℕ) → has (lost_ids brokers) b ≡ true → has (ids brokers) b ≡ true
has-lost [] b h = h
has-lost (x ∷ xs) b h = by (is_dead x.state) h (has-lost xs b) where
  by : (c : Bool) → has (ids (cond c (x ∷ filter (λ (b : Broker). is_dead b.state) xs) (filter (λ (b : Broker). is_dead b.state) xs))) b ≡ true → (has (lost_ids xs) b ≡ true → has (ids xs) b ≡ true) → ((x.id == b) || has (ids xs) b) ≡ true
  by true h' more = elim (or_cases (x.id == b) (has (lost_ids xs) b) h') [
    | inl e ↦ or_left (x.id == b) (has (ids xs) b) e
    | inr r ↦ or_right (x.id == b) (has (ids xs) b) (more r)
  ]
  by false h' more = or_right (x.id == b) (has (ids xs) b) (more h')

pub lost_known : (brokers : List Broker) → list_all (has (ids brokers)) (lost_ids brokers) ≡ true
lost_known brokers = all_has (has (ids brokers)) (lost_ids brokers) (λ b h. has-lost brokers b h)

-- a broker among them is lost
pub lost_is : (brokers : List Broker) (b : ℕ) → distinct (ids brokers) ≡ true → has (lost_ids brokers) b ≡ true → option_map_or (λ (x : Broker). is_dead x.state) (broker_of brokers b) false ≡ true
lost_is [] b once h = absurd (false≢true h)
lost_is (x ∷ xs) b once h = by (x.id == b) refl (is_dead x.state) refl h (lost_is xs b (and_parts (not (has (ids xs) x.id)) (distinct (ids xs)) once).1) where
  parts : (not (has (ids xs) x.id) ≡ true) × (distinct (ids xs) ≡ true)
  parts = and_parts (not (has (ids xs) x.id)) (distinct (ids xs)) once

  by : (c : Bool) → (x.id == b) ≡ c → (d : Bool) → is_dead x.state ≡ d
      → has (ids (cond d (x ∷ filter (λ (b : Broker). is_dead b.state) xs) (filter (λ (b : Broker). is_dead b.state) xs))) b ≡ true
      → (has (lost_ids xs) b ≡ true → option_map_or (λ (x : Broker). is_dead x.state) (broker_of xs b) false ≡ true)
      → option_map_or (λ (x : Broker). is_dead x.state) (cond c (Some x) (broker_of xs b)) false ≡ true
  by true e true f h' more = f
  by true e false f h' more =
      let twice : has (ids xs) x.id ≡ true = rw (eqb-true x.id b e) (has-lost xs b h') in
      absurd (true≢false (sym twice ∙ not-true (has (ids xs) x.id) parts.0))
  by false e true f h' more = elim (or_cases (x.id == b) (has (lost_ids xs) b) h') [
    | inl s ↦ absurd (true≢false (sym s ∙ e))
    | inr r ↦ more r
  ]
  by false e false f h' more = more h'

-- a list without lost members has none of the lost brokers
member : (p : ℕ → Bool) (xs : List ℕ) (b : ℕ) → list_any p xs ≡ false → has xs b ≡ true → p b ≡ false
member p [] b n h = absurd (false≢true h)
member p (x ∷ xs) b n h =
    let two = or_parts (p x) (list_any p xs) n in
    elim (or_cases (x == b) (has xs b) h) [
      | inl e ↦ rw (eqb-true x b e) at two.0
      | inr r ↦ member p xs b two.1 r
    ]

pub not_among : (c : Cluster) (list : List ℕ) (b : ℕ) → distinct (ids c.brokers) ≡ true → list_any (is_lost c) list ≡ false → has (lost_ids c.brokers) b ≡ true → has list b ≡ false
not_among c list b once none lost = false_from_ne_true (has list b) (λ h. true≢false (sym (lost_is c.brokers b once lost) ∙ member (is_lost c) list b none h))

pub leads-has : (list : List ℕ) (b : ℕ) → has list b ≡ false → leads list b ≡ false
leads-has [] b h = refl
leads-has (x ∷ xs) b h = (or_parts (x == b) (has xs b) h).0

-- the members of the lists that belong to a case are among the ids
pub members_known : (c : Cluster) (lists : Lists) → All (λ list. list_all (is_known c) list ≡ true) lists → All (λ list. list_all (has (ids c.brokers)) list ≡ true) lists
members_known c lists known = λ k d m. ap (λ (p : ℕ → Bool). list_all p (get_or lists k d)) (sym (fun_ext (is_known-has c.brokers))) ∙ known k d m

-- the chunk counts of a case are within the limit
pub few_chunks : (c : Cluster) → IsCase c → All (λ n. n ≤ 1000) (map (λ p. p.chunks) c.parts)
few_chunks c h =
    let good = none_any has_bad_chunks c.parts (WithinLimits-faultless c.brokers c.parts h.faultless).chunked in
    All-map (λ n. n ≤ 1000) (λ (p : Part). p.chunks) c.parts (λ k d l.
    let p : Part = get_or c.parts k d in
    ltb-false 1000 p.chunks (or_parts (p.chunks == 0) (nat_lt 1000 p.chunks) (good k d l)).1)
