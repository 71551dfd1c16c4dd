-- The pieces of a text between its commas.
use Rattle.std.proofs.Common.{◌≡◌, ◌≢◌, ℕ, suc, ◌<◌, ◌==◌, false, List, [], ◌∷◌, ◌++◌, Bor, MatchOption, Option, Some, None, length, get_or, refl, ap, ◌∙◌, arith}
use Rattle.std.proofs.lemmas.Bool.Decides.{nat_tests}
use Rattle.plan_terms.specs.Commas.{onto_first, pieces}

-- no comma stands in the text
abbrev pub Lacks : List ℕ → Type 0
Lacks xs = (i : ℕ) → i < length xs → get_or xs i 0 ≢ 44

other : (x : ℕ) (xs : List ℕ) → Lacks (x ∷ xs) → (x == 44) ≡ false
other x xs h = let ne : x ≢ 44 = h 0 (omega arith) in grind (arith, nat_tests)

later : (x : ℕ) (xs : List ℕ) → Lacks (x ∷ xs) → Lacks xs
later x xs h = λ i l. h (suc i) (omega arith)

pub split_here : (xs ys : List ℕ) → Lacks xs → pieces (xs ++ 44 ∷ ys) ≡ xs ∷ pieces ys
unfolding pieces
split_here [] ys h = refl
split_here (x ∷ xs) ys h = rw (other x xs h) (ap (onto_first x) (split_here xs ys (later x xs h)))

pub split_none : (xs : List ℕ) → Lacks xs → pieces xs ≡ xs ∷ []
unfolding pieces
split_none [] h = refl
split_none (x ∷ xs) h = rw (other x xs h) (ap (onto_first x) (split_none xs (later x xs h)))

-- a text cut at its first comma, if it has one
pub cut_pieces : (text : List ℕ) (cut : Option (Bor (List ℕ) × Bor (List ℕ))) → MatchOption cut (Lacks text) (λ x. (text ≡ x.0.now ++ 44 ∷ x.1.now) × Lacks x.0.now)
    → MatchOption cut (pieces text ≡ text ∷ []) (λ x. pieces text ≡ x.0.now ∷ pieces x.1.now)
cut_pieces text None h = split_none text h
cut_pieces text (Some x) h = ap pieces h.0 ∙ split_here x.0.now x.1.now h.1
