-- A set of borrowed texts, seen as the texts.
use Rattle.std.proofs.Common.{◌≡◌, ◌∙◌, ◌∷◌, ℕ, List, [], ◌++◌, map, Bool, true, false, cond, refl, ap, Bor, ◌||◌}
use Rattle.std.proofs.lemmas.List.{map-append}
use Rattle.std.specs.List.{list_any}
use Rattle.std.specs.Str.{bytes_eq}
use Rattle.indexmap.specs.IndexSet.{insert_key}
use Rattle.plan_terms.specs.Faults.{distinct_from}

abbrev pub Name : Type 0
Name = Bor (List ℕ)

abbrev pub same : Name → Name → Bool
same a b = bytes_eq a.now b.now

abbrev pub texts : List Name → List (List ℕ)
texts = map (λ s. s.now)

any_text : (k : Name) (ks : List Name) → list_any (same k) ks ≡ list_any (bytes_eq k.now) (texts ks)
any_text k [] = refl
any_text k (x ∷ ks) = ap (λ b. bytes_eq k.now x.now || b) (any_text k ks)

-- a text is put at the end where it isn't there yet
pub text_insert : (k : Name) (ks : List Name) → texts (insert_key same ks k) ≡ cond (list_any (bytes_eq k.now) (texts ks)) (texts ks) (texts ks ++ k.now ∷ [])
text_insert k ks =
    elim (list_any (same k) ks) as (λ v. list_any (same k) ks ≡ v → texts (cond v ks (ks ++ k ∷ [])) ≡ cond v (texts ks) (texts ks ++ k.now ∷ [])) [
      | true ↦ λ e. refl
      | false ↦ λ e. map-append (λ s. s.now) ks (k ∷ [])
    ] refl ∙ ap (λ v. cond v (texts ks) (texts ks ++ k.now ∷ [])) (any_text k ks)

-- one topic more
pub next_topic : (seen : List Name) (k : Name) (t : List ℕ) (ts : List (List ℕ)) → k.now ≡ t → distinct_from (texts (insert_key same seen k)) ts ≡ distinct_from (texts seen) (t ∷ ts)
next_topic seen k t ts e =
    ap (λ s. distinct_from s ts) (text_insert k seen ∙ ap (λ x. cond (list_any (bytes_eq x) (texts seen)) (texts seen) (texts seen ++ x ∷ [])) e)
