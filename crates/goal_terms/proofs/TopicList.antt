-- The list of topics: each stands once, and each partition's topic is one of them.
use Rattle.std.specs.Prelude.{not, ◌&&◌, ◌||◌, bytes_eq, if◌then◌else◌, map}
use Rattle.std.proofs.Common.{◌≡◌, ◌⊎◌, ℕ, ◌+◌, ◌<◌, Bool, true, false, List, [], ◌∷◌, ◌++◌, length, get_or, drop, zero, suc, refl, ◌∙◌, sym, arith, inl, inr, add-one, drop-cons}
use Rattle.std.specs.List.{list_any}
use Rattle.std.proofs.lemmas.Bool.{cases_Bool, or_left, or_right, or_parts, or_from, and_parts, and_from, not-true, not_from_false, both_ways}
use Rattle.std.proofs.lemmas.Slice.Eq.{bytes_eq-Decides}
use Rattle.std.proofs.lemmas.List.Folds.{list_any-append}
use Rattle.std.proofs.lemmas.List.{length-map}
use Rattle.plan_terms.specs.Faults.{distinct_from, topics}
use Rattle.plan_terms.specs.declared.cluster.Part.{Part}
use Rattle.goal_terms.specs.PerTopic.{topic_at}

-- texts that are the same pass the test, and others don't
pub bytes-same : (x t : List ℕ) → x ≡ t → bytes_eq x t ≡ true
bytes-same x t e = (bytes_eq-Decides x t).1 e

-- texts that differ fail it
pub bytes-other : (x t : List ℕ) → (x ≡ t → ⊥) → bytes_eq x t ≡ false
bytes-other x t ne = elim (cases_Bool (bytes_eq x t)) as (λ _. bytes_eq x t ≡ false) [
  | inl e ↦ absurd (ne ((bytes_eq-Decides x t).0 e))
  | inr f ↦ f
]

-- two texts are the same, or they aren't
pub cases_text : (x t : List ℕ) → (x ≡ t) ⊎ (x ≡ t → ⊥)
cases_text x t = elim (cases_Bool (bytes_eq x t)) as (λ _. (x ≡ t) ⊎ (x ≡ t → ⊥)) [
  | inl e ↦ inl ((bytes_eq-Decides x t).0 e)
  | inr f ↦ inr (λ e. both_ways (bytes_eq x t) f (bytes-same x t e))
]

-- the text is one of them
abbrev pub among : List (List ℕ) → List ℕ → Bool
among ts t = list_any (bytes_eq t) ts

-- no text stands twice
abbrev pub is_distinct : List (List ℕ) → Bool
is_distinct [] = true
is_distinct (t ∷ ts) = not (among ts t) && is_distinct ts

-- one more at the end
among-push : (seen : List (List ℕ)) (x t : List ℕ) → among (seen ++ x ∷ []) t ≡ (among seen t || (bytes_eq t x || false))
among-push seen x t = list_any-append (bytes_eq t) seen (x ∷ [])

-- a new text at the end keeps texts distinct
distinct-push : (seen : List (List ℕ)) (x : List ℕ) → is_distinct seen ≡ true → among seen x ≡ false → is_distinct (seen ++ x ∷ []) ≡ true
distinct-push [] x d h = refl
distinct-push (y ∷ seen) x d h =
    let parts = and_parts (not (among seen y)) (is_distinct seen) d in
    let none = or_parts (bytes_eq x y) (among seen x) h in
    let other : bytes_eq y x ≡ false = bytes-other y x (λ e. both_ways (bytes_eq x y) none.0 (bytes-same x y (sym e))) in
    and_from _ _ (not_from_false _ (among-push seen x y ∙ or_from (among seen y) (bytes_eq y x || false) (not-true _ parts.0) (or_from _ _ other refl)))
    (distinct-push seen x parts.1 none.1)

-- those seen, and the new one where it is new
abbrev with_new : List (List ℕ) → List ℕ → List (List ℕ)
with_new seen t = if among seen t then seen else seen ++ t ∷ []

-- texts stay distinct
distinct-with_new : (seen : List (List ℕ)) (t : List ℕ) → is_distinct seen ≡ true → is_distinct (with_new seen t) ≡ true
distinct-with_new seen t d = elim (cases_Bool (among seen t)) as (λ _. is_distinct (with_new seen t) ≡ true) [
  | inl e ↦ rw e d
  | inr f ↦ rw f (distinct-push seen t d f)
]

-- and so does the whole list
distinct-distinct_from : (seen ts : List (List ℕ)) → is_distinct seen ≡ true → is_distinct (distinct_from seen ts) ≡ true
distinct-distinct_from seen [] d = d
distinct-distinct_from seen (t ∷ ts) d = distinct-distinct_from (with_new seen t) ts (distinct-with_new seen t d)

-- what was seen stays, and what comes is there
still-with_new : (seen : List (List ℕ)) (x t : List ℕ) → among seen t ≡ true → among (with_new seen x) t ≡ true
still-with_new seen x t h = elim (cases_Bool (among seen x)) as (λ _. among (with_new seen x) t ≡ true) [
  | inl e ↦ rw e h
  | inr f ↦ rw f (among-push seen x t ∙ or_left _ _ h)
]

-- the new text is there
new-with_new : (seen : List (List ℕ)) (t : List ℕ) → among (with_new seen t) t ≡ true
new-with_new seen t = elim (cases_Bool (among seen t)) as (λ _. among (with_new seen t) t ≡ true) [
  | inl e ↦ rw e e
  | inr f ↦ rw f (among-push seen t t ∙ or_right (among seen t) _ (or_left _ _ (bytes-same t t refl)))
]

-- what was seen is in the whole list
still-distinct_from : (seen ts : List (List ℕ)) (t : List ℕ) → among seen t ≡ true → among (distinct_from seen ts) t ≡ true
still-distinct_from seen [] t h = h
still-distinct_from seen (x ∷ ts) t h = still-distinct_from (with_new seen x) ts t (still-with_new seen x t h)

-- each text is in the whole list
among-distinct_from : (seen ts : List (List ℕ)) (p : ℕ) → p < length ts → among (distinct_from seen ts) (get_or ts p []) ≡ true
among-distinct_from seen [] p l = absurd (omega arith)
among-distinct_from seen (t ∷ ts) zero l = still-distinct_from (with_new seen t) ts t (new-with_new seen t)
among-distinct_from seen (t ∷ ts) (suc p) l = among-distinct_from (with_new seen t) ts p (omega arith)

-- the topics are distinct
pub topics-distinct : (ps : List Part) → is_distinct (topics ps) ≡ true
unfolding topics
topics-distinct ps = distinct-distinct_from [] (map (λ p. p.topic) ps) refl

-- each partition's topic is one of them
pub topics-has : (ps : List Part) (p : ℕ) → p < length ps → among (topics ps) (topic_at ps p) ≡ true
unfolding topics
topics-has ps p l = among-distinct_from [] (map (λ q. q.topic) ps) p (rw (length-map ps (λ (q : Part). q.topic)) l)

-- the list of topics, one partition after another
pub topics-next : (found found' : List (List ℕ)) (ps : List Part) (i : ℕ) (d : Part) → i < length ps → distinct_from found (map (λ p. p.topic) (drop i ps)) ≡ topics ps
    → found' ≡ (if list_any (bytes_eq (get_or ps i d).topic) found then found else found ++ (get_or ps i d).topic ∷ [])
    → distinct_from found' (map (λ p. p.topic) (drop (i + 1) ps)) ≡ topics ps
topics-next found found' ps i d l h e = rw (e, add-one) (rw (drop-cons ps i d l) at h)

-- before the first partition, and behind the last
pub topics-start : (ps : List Part) → distinct_from [] (map (λ p. p.topic) (drop 0 ps)) ≡ topics ps
unfolding topics
topics-start ps = refl
