-- A partition begins a new topic exactly where its topic's place is the number of topics found before it.
use Rattle.std.specs.Prelude.{◌==◌, bytes_eq, if◌then◌else◌, map, not}
use Rattle.std.proofs.Common.{◌≡◌, ◌∙◌, ℕ, ◌+◌, ◌<◌, Bool, true, false, List, [], ◌∷◌, ◌++◌, length, get_or, drop, suc, refl, sym, arith, inl, inr}
use Rattle.std.specs.List.{list_any}
use Rattle.std.proofs.lemmas.Bool.{cases_Bool, eq-eqb, ne_eqb}
use Rattle.std.proofs.lemmas.List.{get_or_append_left, get_or-map, length_push}
use Rattle.std.proofs.lemmas.Slice.Eq.{bytes_eq-Decides}
use Rattle.std.proofs.Math.Seq.{get_or-append_seam}
use Rattle.goal_terms.proofs.TopicList.{topics-next}
use Rattle.load_model.specs.Places.{topic_at, topic_of}
use Rattle.plan_terms.specs.Faults.{distinct_from, topics}
use Rattle.plan_terms.specs.declared.cluster.Part.{Part}

-- a text stands at a place of the list
record Stands (ts : List (List ℕ)) (t : List ℕ) (k : ℕ) : Type 0 where
  within : k < length ts
  is : get_or ts k [] ≡ t

-- a text stands where it stood when others come behind
kept : (seen ts : List (List ℕ)) (t : List ℕ) (k : ℕ) → Stands seen t k → Stands (distinct_from seen ts) t k
kept seen [] t k h = h
kept seen (x ∷ ts) t k h = kept (if list_any (bytes_eq x) seen then seen else seen ++ x ∷ []) ts t k (step (list_any (bytes_eq x) seen)) where
  step : (b : Bool) → Stands (if b then seen else seen ++ x ∷ []) t k
  step true = h
  step false = record { within = omega (arith, h.within, length_push seen x); is = get_or_append_left seen (x ∷ []) [] k h.within ∙ h.is }

-- a text that is found stands at a place
placed : (t : List ℕ) (ts : List (List ℕ)) → list_any (bytes_eq t) ts ≡ true → (k : ℕ) × Stands ts t k
placed t [] e = absurd (cc)
placed t (x ∷ xs) e = elim (cases_Bool (bytes_eq t x)) as (λ _. (k : ℕ) × Stands (x ∷ xs) t k) [
  | inl same ↦ (0, record { within = omega arith; is = sym ((bytes_eq-Decides t x).0 same) })
  | inr other ↦
      let rest = placed t xs (rw other at e) in
      (suc rest.0, record { within = omega (arith, rest.1.within); is = rest.1.is })
]

module _ (ps : List Part) (found : List (List ℕ)) (i place : ℕ) (d : Part) (l : i < length ps) (h : distinct_from found (map (λ p. p.topic) (drop i ps)) ≡ topics ps)
    (only : (t : ℕ) → t < length (topics ps) → topic_at ps t ≡ topic_of ps i → t ≡ place) where
  -- where the topic stands among those found, that is its place
  stands-place : (seen ts : List (List ℕ)) (k : ℕ) → distinct_from seen ts ≡ topics ps → Stands seen (topic_of ps i) k → k ≡ place
  stands-place seen ts k e s = let whole : Stands (topics ps) (topic_of ps i) k = rw e at (kept seen ts (topic_of ps i) k s) in only k whole.within whole.is

  here : topic_of ps i ≡ (get_or ps i d).topic
  here = get_or-map (λ (p : Part). p.topic) ps i d [] l

  pub begins-topic : list_any (bytes_eq (get_or ps i d).topic) found ≡ not (place == length found)
  begins-topic = elim (cases_Bool (list_any (bytes_eq (get_or ps i d).topic) found)) as (λ _. list_any (bytes_eq (get_or ps i d).topic) found ≡ not (place == length found)) [
    | inl e ↦
        let at = placed (get_or ps i d).topic found e in
        let is = stands-place found (map (λ p. p.topic) (drop i ps)) at.0 h (rw here at.1) in
        let other : (place == length found) ≡ false = ne_eqb place (length found) (λ same. absurd (omega (arith, at.1.within))) in
        rw (e, other) refl
    | inr e ↦
        let more = topics-next found (found ++ (get_or ps i d).topic ∷ []) ps i d l h (rw e refl) in
        let last : Stands (found ++ (get_or ps i d).topic ∷ []) (get_or ps i d).topic (length found) =
        record { within = omega (arith, length_push found (get_or ps i d).topic); is = get_or-append_seam found (get_or ps i d).topic [] [] } in
        let is = stands-place (found ++ (get_or ps i d).topic ∷ []) (map (λ p. p.topic) (drop (i + 1) ps)) (length found) more (rw here last) in
        rw (e, eq-eqb place (length found) (sym is)) refl
  ]
