-- The topics that entries name, by a set of texts.
use Rattle.std.proofs.Common.{◌≡◌, ◌∙◌, ℕ, Bool, false, cond, List, [], ◌∷◌, ◌++◌, refl, ap, ◌||◌}
use Rattle.std.specs.Borrow.{Bor}
use Rattle.std.specs.List.{list_any}
use Rattle.std.specs.Str.{bytes_eq}
use Rattle.std.proofs.lemmas.List.{map-append}
use Rattle.indexmap.specs.IndexSet.{insert_key}
use Rattle.cluster_json.specs.Views.{texts_seen}

abbrev pub same_text : Bor (List ℕ) → Bor (List ℕ) → Bool
same_text a b = bytes_eq a.now b.now

pub seen-any : (topic : List ℕ) (ks : List (Bor (List ℕ))) → list_any (λ k. bytes_eq topic k.now) ks ≡ list_any (bytes_eq topic) (texts_seen ks)
seen-any topic [] = refl
seen-any topic (k ∷ ks) = ap (λ b. bytes_eq topic k.now || b) (seen-any topic ks)

pub seen-new : (k : Bor (List ℕ)) (ks : List (Bor (List ℕ))) → list_any (bytes_eq k.now) (texts_seen ks) ≡ false → texts_seen (insert_key same_text ks k) ≡ texts_seen ks ++ k.now ∷ []
seen-new k ks h =
    ap (λ b. texts_seen (cond b ks (ks ++ k ∷ []))) (seen-any k.now ks ∙ h) ∙ map-append (λ (k : Bor (List ℕ)). k.now) ks (k ∷ [])
