-- An index of names, one entry more, and the places that it gives.
use Rattle.std.proofs.Common.{◌≡◌, ℕ, ◌+◌, ◌<◌, suc, Bool, true, false, cond, List, [], ◌∷◌, ◌++◌, map, length, Option, Some, None, IfSome, is_some, refl, arith}
use Rattle.std.specs.Map.{lookup}
use Rattle.std.proofs.lemmas.List.{length-map}
use Rattle.plan_terms.specs.declared.cluster.Part.{Part}
use Rattle.cluster_json.specs.declared.partitions.FilePart.{FilePart}
use Rattle.std.specs.Option.{option_or}
use Rattle.cluster_json.specs.Places.{Name}
use Rattle.cluster_json.specs.Samples.{place_from, place_of, is_named}

-- what is looked up behind one entry more
pub lookup-push : (test : Name → Bool) (es : List (Name × ℕ)) (k : Name) (v : ℕ) → lookup test (es ++ (k, v) ∷ []) ≡ option_or (lookup test es) (cond (test k) (Some v) None)
lookup-push test [] k v = refl
lookup-push test (e ∷ es) k v =
    elim (test e.0) as (λ b. cond b (Some e.1) (lookup test (es ++ (k, v) ∷ [])) ≡ option_or (cond b (Some e.1) (lookup test es)) (cond (test k) (Some v) None))
    [ true ↦ refl | false ↦ lookup-push test es k v ]

pub none_from : {X : Type 0} (o : Option X) → false ≡ is_some o → o ≡ None
none_from None h = refl
none_from (Some x) h = absurd cc

-- a place that is found is one of the list's
place_from-lt : (test : Part → Bool) (i : ℕ) (ps : List Part) → IfSome (place_from test i ps) (λ place. place < i + length ps)
place_from-lt test i [] = tt
place_from-lt test i (p ∷ ps) =
    elim (test p) as (λ b. IfSome (cond b (Some i) (place_from test (suc i) ps)) (λ place. place < i + length (p ∷ ps)))
    [ true ↦ omega arith | false ↦ weaker (place_from test (suc i) ps) (place_from-lt test (suc i) ps) ]
  where
    weaker : (o : Option ℕ) → IfSome o (λ place. place < suc i + length ps) → IfSome o (λ place. place < i + suc (length ps))
    weaker None h = tt
    weaker (Some n) h = omega arith

pub place_of-known : (parts : List FilePart) (topic : List ℕ) (number : ℕ) → IfSome (place_of (map (λ p. p.part) parts) topic number) (λ place. place < length parts)
place_of-known parts topic number =
    to (place_of (map (λ p. p.part) parts) topic number) (place_from-lt (is_named topic number) 0 (map (λ p. p.part) parts))
  where
    to : (o : Option ℕ) → IfSome o (λ place. place < 0 + length (map (λ (p : FilePart). p.part) parts)) → IfSome o (λ place. place < length parts)
    to None h = tt
    to (Some n) h = omega (arith, length-map parts (λ (p : FilePart). p.part))
