-- The same caller after a while: laws of it.
use Rattle.std.proofs.Common.{◌≤◌, ℕ, suc, List, [], ◌∷◌, ◌++◌, length, refl, ap, sym, ◌∙◌, append_assoc, append-nil, arith}
use mathlib.Core.List.{IsPrefix}
use Rattle.turn_book.specs.Known.{Known as PassView}
use Rattle.mover_workers.specs.Callers.{CallerView, HasGrown, IsSince, Rise}

-- a list begins with itself, and with what its beginning begins with
pub begins_itself : {A : Type 0} (xs : List A) → IsPrefix xs xs
begins_itself [] = ([], refl)
begins_itself (x ∷ xs) = let r = begins_itself xs in (r.0, ap (λ ys. x ∷ ys) r.1)

pub begins_on : {A : Type 0} (xs ys zs : List A) → IsPrefix xs ys → IsPrefix ys zs → IsPrefix xs zs
begins_on xs ys zs p q = (p.0 ++ q.0, sym (append_assoc xs p.0 q.0) ∙ (ap (λ w. w ++ q.0) p.1 ∙ q.1))

-- places that rise from further on rise from here on, and go on rising
rise_from : {E : Type 0} (a b c : ℕ) → a ≤ b → (xs : List (ℕ × E)) → Rise b c xs → Rise a c xs
rise_from a b c l [] r = omega (arith, l, r)
rise_from a b c l (x ∷ xs) r = (omega (arith, l, r.0), r.1)

pub rise_on : {E : Type 0} (a b c : ℕ) (xs ys : List (ℕ × E)) → Rise a b xs → Rise b c ys → Rise a c (xs ++ ys)
rise_on a b c [] ys p q = rise_from a b c p ys q
rise_on a b c (x ∷ xs) ys p q = (p.0, rise_on (suc x.0) b c xs ys p.1 q)

pub grown_itself : {O E : Type 0} (v : PassView O E) → HasGrown v v
grown_itself v = record { seen = begins_itself v.seen; parts = refl; added = []; mine = sym (append-nil v.mine); rise = omega arith }

pub grown_on : {O E : Type 0} (v u w : PassView O E) → HasGrown v u → HasGrown u w → HasGrown v w
grown_on v u w p q = record {
  seen = begins_on v.seen u.seen w.seen p.seen q.seen;
  parts = q.parts ∙ p.parts;
  added = p.added ++ q.added;
  mine = q.mine ∙ (ap (λ xs. xs ++ q.added) p.mine ∙ append_assoc v.mine p.added q.added);
  rise = rise_on (length v.seen) (length u.seen) (length w.seen) p.added q.added p.rise q.rise;
}

-- it is the same at once
pub since_itself : {A : Type 0} (b : CallerView A) → IsSince b b
since_itself b = record { turn = refl; grown = grown_itself b.pass }

-- and the same after two whiles
pub since_on : {A : Type 0} (b c d : CallerView A) → IsSince b c → IsSince c d → IsSince b d
since_on b c d p q = record { turn = q.turn ∙ p.turn; grown = grown_on b.pass c.pass d.pass p.grown q.grown }
