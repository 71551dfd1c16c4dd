-- A broker by its place among all, and what is said of the one of its id.
use Rattle.std.specs.Prelude.{if◌then◌else◌, ◌==◌, ◌||◌, cond, map}
use Rattle.std.proofs.Common.{◌≡◌, ◌∙◌, ℕ, ◌+◌, ◌<◌, ◌≤◌, Bool, true, false, List, [], ◌∷◌, length, get_or, drop, zero, suc, refl, ap, sym, arith, eq-eqb, add-one, position, Some, None, inl, inr}
use Rattle.std.specs.List.{sum_by, position_or_len}
use Rattle.std.proofs.lemmas.Bool.{ne_eqb, cases_Bool, eqb-true, and_parts, or_left, or_right, or_parts, false≢true, not-true, ltb-false}
use Rattle.std.proofs.lemmas.List.{get_or-map}
use Rattle.std.proofs.lemmas.List.Quantifiers.{position-Some}
use Rattle.std.proofs.lemmas.List.Sums.{sum_by-cons}
use Rattle.plan_terms.specs.Cluster.{has, id_at, ids_of}
use Rattle.plan_terms.specs.States.{is_dead}
use Rattle.plan_terms.specs.declared.cluster.Broker.{Broker}
use Rattle.goal_terms.specs.Rooms.{room_at_id, free}
use Rattle.goal_terms.specs.declared.room.Room.{Room}
use Rattle.goal_terms.specs.Heats.{heat_at_id}
use Rattle.goal_terms.specs.PerBroker.{is_unit, unit_brokers, at_id, distinct_ids}
use Rattle.goal_terms.specs.declared.heat.Heat.{Heat}
use Rattle.goal_terms.specs.declared.heat.Heat.TheVariants.{Cold}

-- the id at a place is one of the ids
has-at : (xs : List Broker) (i : ℕ) → i < length xs → has (ids_of xs) (id_at xs i) ≡ true
has-at [] i l = absurd (omega arith)
has-at (x ∷ xs) zero l = or_left _ _ (eq-eqb x.id x.id refl)
has-at (x ∷ xs) (suc i) l = or_right _ _ (has-at xs i (omega arith))

-- where the ids are distinct, a later broker has another id than the first
apart : (x : Broker) (xs : List Broker) (i : ℕ) → distinct_ids (x ∷ xs) ≡ true → i < length xs → x.id ≡ id_at xs i → ⊥
apart x xs i d l e = false≢true (sym (not-true _ (and_parts _ _ d).0) ∙ ap (has (ids_of xs)) e ∙ has-at xs i l)

-- no broker that isn't lost has an id that none has
absent-units : (xs : List Broker) (k : ℕ) → has (ids_of xs) k ≡ false → has (ids_of (unit_brokers xs)) k ≡ false
absent-units [] k h = refl
absent-units (x ∷ xs) k h = elim (cases_Bool (is_unit x)) as (λ _. has (ids_of (cond (is_unit x) (x ∷ unit_brokers xs) (unit_brokers xs))) k ≡ false) [
  | inl e ↦ rw (e, (or_parts (x.id == k) (has (ids_of xs) k) h).0) (absent-units xs k (or_parts (x.id == k) (has (ids_of xs) k) h).1)
  | inr e ↦ rw e (absent-units xs k (or_parts (x.id == k) (has (ids_of xs) k) h).1)
]

module _ (f : Broker → ℕ) where
  -- nothing of an id that no broker has
  at_id-absent : (xs : List Broker) (k : ℕ) → has (ids_of xs) k ≡ false → at_id f xs k ≡ 0
  at_id-absent [] k h = refl
  at_id-absent (x ∷ xs) k h = rw (or_parts (x.id == k) (has (ids_of xs) k) h).0 (at_id-absent xs k (or_parts (x.id == k) (has (ids_of xs) k) h).1)

  -- of the broker at a place, or 0 where it is lost
  pub at_id-place : (xs : List Broker) (i : ℕ) (d : Broker) → distinct_ids xs ≡ true → i < length xs
      → at_id f (unit_brokers xs) (id_at xs i) ≡ (if is_unit (get_or xs i d) then f (get_or xs i d) else 0)
  at_id-place [] i d h l = absurd (omega arith)
  at_id-place (x ∷ xs) zero d h l = elim (cases_Bool (is_unit x)) as (λ _. at_id f (cond (is_unit x) (x ∷ unit_brokers xs) (unit_brokers xs)) x.id ≡ (if is_unit x then f x else 0)) [
    | inl e ↦ rw (e, eq-eqb x.id x.id refl) refl
    | inr e ↦ rw e (at_id-absent (unit_brokers xs) x.id (absent-units xs x.id (not-true _ (and_parts _ _ h).0)))
  ]
  at_id-place (x ∷ xs) (suc i) d h l =
      let later = at_id-place xs i d (and_parts _ _ h).1 (omega arith) in
      elim (cases_Bool (is_unit x)) as (λ _. at_id f (cond (is_unit x) (x ∷ unit_brokers xs) (unit_brokers xs)) (id_at xs i) ≡ (if is_unit (get_or xs i d) then f (get_or xs i d) else 0)) [
        | inl e ↦ rw (e, ne_eqb x.id (id_at xs i) (apart x xs i h (omega arith))) later
        | inr e ↦ rw e later
      ]

module _ (f : Broker → Heat) where
  -- an id that no broker has is cold
  heat-absent : (xs : List Broker) (k : ℕ) → has (ids_of xs) k ≡ false → heat_at_id f xs k ≡ Cold
  heat-absent [] k h = refl
  heat-absent (x ∷ xs) k h = rw (or_parts (x.id == k) (has (ids_of xs) k) h).0 (heat-absent xs k (or_parts (x.id == k) (has (ids_of xs) k) h).1)

  -- where the broker at a place lies, or Cold where it is lost
  pub heat_at_id-place : (xs : List Broker) (i : ℕ) (d : Broker) → distinct_ids xs ≡ true → i < length xs
      → heat_at_id f (unit_brokers xs) (id_at xs i) ≡ (if is_unit (get_or xs i d) then f (get_or xs i d) else Cold)
  heat_at_id-place [] i d h l = absurd (omega arith)
  heat_at_id-place (x ∷ xs) zero d h l = elim (cases_Bool (is_unit x)) as (λ _. heat_at_id f (cond (is_unit x) (x ∷ unit_brokers xs) (unit_brokers xs)) x.id ≡ (if is_unit x then f x else Cold)) [
    | inl e ↦ rw (e, eq-eqb x.id x.id refl) refl
    | inr e ↦ rw e (heat-absent (unit_brokers xs) x.id (absent-units xs x.id (not-true _ (and_parts _ _ h).0)))
  ]
  heat_at_id-place (x ∷ xs) (suc i) d h l =
      let later = heat_at_id-place xs i d (and_parts _ _ h).1 (omega arith) in
      elim (cases_Bool (is_unit x)) as (λ _. heat_at_id f (cond (is_unit x) (x ∷ unit_brokers xs) (unit_brokers xs)) (id_at xs i) ≡ (if is_unit (get_or xs i d) then f (get_or xs i d) else Cold)) [
        | inl e ↦ rw (e, ne_eqb x.id (id_at xs i) (apart x xs i h (omega arith))) later
        | inr e ↦ rw e later
      ]

module _ (f : Broker → Room) where
  -- an id that no broker has has no limit
  room-absent : (xs : List Broker) (k : ℕ) → has (ids_of xs) k ≡ false → room_at_id f xs k ≡ free
  room-absent [] k h = refl
  room-absent (x ∷ xs) k h = rw (or_parts (x.id == k) (has (ids_of xs) k) h).0 (room-absent xs k (or_parts (x.id == k) (has (ids_of xs) k) h).1)

  -- the room of the broker at a place, or no limit where it is lost
  pub room_at_id-place : (xs : List Broker) (i : ℕ) (d : Broker) → distinct_ids xs ≡ true → i < length xs
      → room_at_id f (unit_brokers xs) (id_at xs i) ≡ (if is_unit (get_or xs i d) then f (get_or xs i d) else free)
  room_at_id-place [] i d h l = absurd (omega arith)
  room_at_id-place (x ∷ xs) zero d h l = elim (cases_Bool (is_unit x)) as (λ _. room_at_id f (cond (is_unit x) (x ∷ unit_brokers xs) (unit_brokers xs)) x.id ≡ (if is_unit x then f x else free)) [
    | inl e ↦ rw (e, eq-eqb x.id x.id refl) refl
    | inr e ↦ rw e (room-absent (unit_brokers xs) x.id (absent-units xs x.id (not-true _ (and_parts _ _ h).0)))
  ]
  room_at_id-place (x ∷ xs) (suc i) d h l =
      let later = room_at_id-place xs i d (and_parts _ _ h).1 (omega arith) in
      elim (cases_Bool (is_unit x)) as (λ _. room_at_id f (cond (is_unit x) (x ∷ unit_brokers xs) (unit_brokers xs)) (id_at xs i) ≡ (if is_unit (get_or xs i d) then f (get_or xs i d) else free)) [
        | inl e ↦ rw (e, ne_eqb x.id (id_at xs i) (apart x xs i h (omega arith))) later
        | inr e ↦ rw e later
      ]

-- the place of an id is one of the places, and its broker has the id
pub id-placed : (xs : List Broker) (k i : ℕ) → position (λ x. x.id == k) xs ≡ Some i → (i < length xs) × (id_at xs i ≡ k)
id-placed [] k i e = absurd cc
id-placed (x ∷ xs) k i e =
    let at = position-Some (λ y. y.id == k) (x ∷ xs) i x e in
    (at.0, get_or-map (λ (y : Broker). y.id) (x ∷ xs) i x 0 at.0 ∙ eqb-true (get_or (x ∷ xs) i x).id k at.1)

-- an id that none of the brokers has
past-all : (xs : List Broker) (k : ℕ) → length xs ≤ position_or_len (λ x. x.id == k) xs → has (ids_of xs) k ≡ false
past-all [] k h = refl
past-all (x ∷ xs) k h = elim (cases_Bool (x.id == k)) as (λ _. (x.id == k || has (ids_of xs) k) ≡ false) [
  | inl e ↦ let none = rw e at h in absurd (omega arith)
  | inr e ↦ let more = rw e at h in rw e (past-all xs k (omega arith))
]

no_place : (b : Bool) (n : ℕ) → cond b (Some n) None ≡ None → b ≡ false
no_place true n h = absurd cc
no_place false n h = refl

-- an id without a place is none of the ids
pub id-unplaced : (xs : List Broker) (k : ℕ) → position (λ x. x.id == k) xs ≡ None → has (ids_of xs) k ≡ false
id-unplaced xs k e = past-all xs k (ltb-false (position_or_len (λ x. x.id == k) xs) (length xs) (no_place _ _ e))

-- and nothing is said of it
pub at_id-unplaced : (f : Broker → ℕ) (xs : List Broker) (k : ℕ) → position (λ x. x.id == k) xs ≡ None → at_id f (unit_brokers xs) k ≡ 0
at_id-unplaced f xs k e = at_id-absent f (unit_brokers xs) k (absent-units xs k (id-unplaced xs k e))

-- a sum over the brokers, by the id at each place
sum-drop : (q : ℕ → ℕ) (xs : List Broker) (i : ℕ) → i < length xs → sum_by (λ (x : Broker). q x.id) (drop i xs) ≡ q (id_at xs i) + sum_by (λ (x : Broker). q x.id) (drop (suc i) xs)
sum-drop q [] i l = absurd (omega arith)
sum-drop q (x ∷ xs) zero l = sum_by-cons (λ (y : Broker). q y.id) x xs
sum-drop q (x ∷ xs) (suc i) l = sum-drop q xs i (omega arith)

pub sum-next : (q : ℕ → ℕ) (xs : List Broker) (i : ℕ) → i < length xs → sum_by (λ (x : Broker). q x.id) (drop i xs) ≡ q (id_at xs i) + sum_by (λ (x : Broker). q x.id) (drop (i + 1) xs)
sum-next q xs i l = rw add-one (sum-drop q xs i l)

-- past the last broker there is nothing to add
pub sum-none : (f : Broker → ℕ) (xs : List Broker) (i : ℕ) → length xs ≤ i → sum_by f (drop i xs) ≡ 0
sum-none f [] zero l = refl
sum-none f [] (suc i) l = refl
sum-none f (x ∷ xs) zero l = absurd (omega arith)
sum-none f (x ∷ xs) (suc i) l = sum-none f xs i (omega arith)

-- the first unit from a broker that isn't lost on is that broker
pub unit-first : (f : Broker → ℕ) (xs : List Broker) (i : ℕ) (d : Broker) → i < length xs → is_dead (get_or xs i d).state ≡ false
    → get_or (map f (unit_brokers (drop i xs))) 0 0 ≡ get_or (map f xs) i 0
unit-first f [] i d l h = absurd (omega arith)
unit-first f (x ∷ xs) zero d l h = rw h refl
unit-first f (x ∷ xs) (suc i) d l h = unit-first f xs i d (omega arith) h
