-- The topics' places: each text stands once among the distinct ones.
use Rattle.std.proofs.Common.{◌≡◌, ◌∙◌, ℕ, ◌<◌, ◌≤◌, ◌+◌, Bool, true, false, cond, List, [], ◌∷◌, ◌++◌, length, get_or, map, suc, zero, Some, refl, sym, ap, arith, slice_get, inl, inr, Decides}
use Rattle.std.specs.List.{list_any}
use Rattle.std.specs.Str.{bytes_eq}
use Rattle.std.proofs.lemmas.Bool.{cases_lt, false≢true}
use Rattle.std.proofs.lemmas.Slice.Eq.{bytes_eq-Decides}
use Rattle.std.proofs.Math.Seq.{get_or-append_seam}
use Rattle.std.proofs.lemmas.List.{get_or_append_left, get_or-map, length-map, length_push}
use Rattle.std.proofs.lemmas.Option.{get_or_from_slice_get}
use Rattle.plan_terms.specs.Faults.{distinct_from, topics}
use Rattle.plan_terms.specs.declared.cluster.Part.{Part}
use Rattle.indexmap.specs.IndexSet.{insert_key}
use Rattle.load_model.specs.Places.{StandsAt, topic_of}
use Rattle.load_model.proofs.Texts.{Name, texts, same, text_insert}
use Rattle.load_model.proofs.Listed.{or_parts}

abbrev Text : Type 0
Text = List ℕ

-- a text stands where it stood when another comes behind
StandsAt-push : (ts : List Text) (t u : Text) (i : ℕ) → StandsAt ts t i → StandsAt (ts ++ u ∷ []) t i
StandsAt-push ts t u i h = record { within = omega (arith, h.within, length_push ts u); is = get_or_append_left ts (u ∷ []) [] i h.within ∙ h.is }

-- and when a name is put into the set
pub StandsAt-insert : (ks : List Name) (k : Name) (t : Text) (i : ℕ) → StandsAt (texts ks) t i → StandsAt (texts (insert_key same ks k)) t i
StandsAt-insert ks k t i h =
    rw (text_insert k ks)
    (elim (list_any (bytes_eq k.now) (texts ks)) as (λ b. StandsAt (cond b (texts ks) (texts ks ++ k.now ∷ [])) t i) [ true ↦ h | false ↦ StandsAt-push (texts ks) t k.now i h ])

-- the place at which the set keeps a name that is the same
pub StandsAt-own : (ks : List Name) (v k : Name) (i : ℕ) → i < length ks → slice_get ks i ≡ Some k → bytes_eq v.now k.now ≡ true → StandsAt (texts ks) v.now i
StandsAt-own ks v k i within at e = record {
  within = rw (length-map ks (λ (s : Name). s.now)) within;
  is = get_or-map (λ (s : Name). s.now) ks i k [] within ∙ ap (λ (s : Name). s.now) (get_or_from_slice_get ks i k k at) ∙ sym (same_true (bytes_eq-Decides v.now k.now) e);
} where
  same_true : {r : Bool} {P : Type 0} → Decides r P → r ≡ true → P
  same_true d e = d.0 e

-- no text stands at two places
record OnceEach (ts : List Text) : Type 0 where
  once : (i j : ℕ) → i < length ts → j < length ts → get_or ts i [] ≡ get_or ts j [] → i ≡ j

absent-at : (t : Text) (ts : List Text) (i : ℕ) → list_any (bytes_eq t) ts ≡ false → i < length ts → get_or ts i [] ≡ t → ⊥
absent-at t [] i h l e = absurd (omega arith)
absent-at t (x ∷ xs) zero h l e = false≢true (sym (or_parts (bytes_eq t x) (list_any (bytes_eq t) xs) h).0 ∙ (bytes_eq-Decides t x).1 (sym e))
absent-at t (x ∷ xs) (suc i) h l e = absent-at t xs i (or_parts (bytes_eq t x) (list_any (bytes_eq t) xs) h).1 (omega arith) e

OnceEach-push : (ts : List Text) (t : Text) → list_any (bytes_eq t) ts ≡ false → OnceEach ts → OnceEach (ts ++ t ∷ [])
OnceEach-push ts t none h = record { once = apart } where
  old : (i : ℕ) → i < length ts → get_or (ts ++ t ∷ []) i [] ≡ get_or ts i []
  old i l = get_or_append_left ts (t ∷ []) [] i l

  last : (i : ℕ) → i < length (ts ++ t ∷ []) → length ts ≤ i → i ≡ length ts
  last i l g = omega (arith, length_push ts t)

  new : (i : ℕ) → i ≡ length ts → get_or (ts ++ t ∷ []) i [] ≡ t
  new i e = rw e (get_or-append_seam ts t [] [])

  apart : (i j : ℕ) → i < length (ts ++ t ∷ []) → j < length (ts ++ t ∷ []) → get_or (ts ++ t ∷ []) i [] ≡ get_or (ts ++ t ∷ []) j [] → i ≡ j
  apart i j l m e = elim (cases_lt i (length ts)) as (λ _. i ≡ j) [
    | inl a ↦ elim (cases_lt j (length ts)) as (λ _. i ≡ j) [
      | inl b ↦ h.once i j a b (sym (old i a) ∙ e ∙ old j b)
      | inr b ↦ absurd (absent-at t ts i none a (sym (old i a) ∙ e ∙ new j (last j m b)))
    ]
    | inr a ↦ elim (cases_lt j (length ts)) as (λ _. i ≡ j) [
      | inl b ↦ absurd (absent-at t ts j none b (sym (old j b) ∙ sym e ∙ new i (last i l a)))
      | inr b ↦ last i l a ∙ sym (last j m b)
    ]
  ]

OnceEach-distinct : (seen ts : List Text) → OnceEach seen → OnceEach (distinct_from seen ts)
OnceEach-distinct seen [] h = h
OnceEach-distinct seen (t ∷ ts) h = elim (list_any (bytes_eq t) seen) as (λ b. list_any (bytes_eq t) seen ≡ b → OnceEach (distinct_from (cond b seen (seen ++ t ∷ [])) ts)) [
  | true ↦ λ e. OnceEach-distinct seen ts h
  | false ↦ λ e. OnceEach-distinct (seen ++ t ∷ []) ts (OnceEach-push seen t e h)
] refl

-- no topic stands at two places
pub topics-once : (parts : List Part) (i j : ℕ) → i < length (topics parts) → j < length (topics parts) → get_or (topics parts) i [] ≡ get_or (topics parts) j [] → i ≡ j
unfolding topics
topics-once parts = (OnceEach-distinct [] (map (λ p. p.topic) parts) (record { once = λ i j l m e. absurd (omega arith) })).once

-- one partition more
pub StandsAt-more : (ks : List Name) (k : Name) (ps : List Part) (places : List ℕ) (i place : ℕ) → i < length ps → length places ≡ i → StandsAt (texts (insert_key same ks k)) (topic_of ps i) place
    → ((p : ℕ) → p < i → StandsAt (texts ks) (topic_of ps p) (get_or places p 0))
    → (p : ℕ) → p < i + 1 → StandsAt (texts (insert_key same ks k)) (topic_of ps p) (get_or (places ++ place ∷ []) p 0)
StandsAt-more ks k ps places i place l long here before p m = elim (cases_lt p i) as (λ _. StandsAt (texts (insert_key same ks k)) (topic_of ps p) (get_or (places ++ place ∷ []) p 0)) [
  | inl a ↦ rw (get_or_append_left places (place ∷ []) 0 p (rw long a)) (StandsAt-insert ks k (topic_of ps p) (get_or places p 0) (before p a))
  | inr a ↦ let e : p ≡ length places = omega (arith, long) in rw (e, get_or-append_seam places place [] 0) (rw (← long) at here)
]
