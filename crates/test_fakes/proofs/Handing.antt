-- Links that are handed out one after another.
use Rattle.std.proofs.Common.{◌≡◌, ◌-◌, ◌+◌, ℕ, List, [], ◌∷◌, ◌++◌, Option, Some, length, map, refl, take, ap, sym, ◌∙◌, subst, append_assoc, arith}
use Rattle.std.proofs.Math.Logic.{∥∥₁_elim, ∥∥₁_map}
use Rattle.std.proofs.Math.Seq.{take-append_seam}
use Rattle.std.proofs.Props.{props}
use Rattle.std.proofs.lemmas.List.{length-append, map-append}
use Rattle.std.proofs.lemmas.List.Elements.{All-head, All-tail}
use Rattle.net_links.specs.Links.{AcceptedLink, IsFresh}
use Rattle.test_fakes.specs.Handed.{AreFresh, handed_out}

rest_of_sum : (whole front rest : ℕ) → whole ≡ front + rest → whole - rest ≡ front
rest_of_sum whole front rest e = omega arith

-- the links that are handed out before and with this one, and the others
split_next : {C : Type 0} (given : List C) (link : C) (waiting : List C) → given ≡ handed_out given (link ∷ waiting) ++ link ∷ waiting → given ≡ (handed_out given (link ∷ waiting) ++ link ∷ []) ++ waiting
split_next given link waiting e = e ∙ sym (append_assoc (handed_out given (link ∷ waiting)) (link ∷ []) waiting)

-- one more is handed out
pub handed_next : {C : Type 0} (given : List C) (link : C) (waiting : List C) → given ≡ handed_out given (link ∷ waiting) ++ link ∷ waiting → handed_out given waiting ≡ handed_out given (link ∷ waiting) ++ link ∷ []
handed_next given link waiting e =
    let front = handed_out given (link ∷ waiting) ++ link ∷ [] in
    let whole : given ≡ front ++ waiting = split_next given link waiting e in
    let count : length given - length waiting ≡ length front = rest_of_sum (length given) (length front) (length waiting) (ap length whole ∙ length-append front waiting) in
    ap (λ n. take n given) count ∙ ap (λ links. take (length front) links) whole ∙ take-append_seam front waiting

rest_step : {C : Type 0} (given : List C) (link : C) (waiting : List C) → given ≡ handed_out given (link ∷ waiting) ++ link ∷ waiting → given ≡ handed_out given waiting ++ waiting
rest_step given link waiting e = split_next given link waiting e ∙ ap (λ links. links ++ waiting) (sym (handed_next given link waiting e))

-- the others still wait
pub rest_next : {C : Type 0} (given : List C) (link : C) (old new : List C) → old ≡ link ∷ new → ∥ given ≡ handed_out given old ++ old ∥₁ → ∥ given ≡ handed_out given new ++ new ∥₁
rest_next {C} given link old new e h =
    let P : List C → Type 0 = λ links. ∥ given ≡ handed_out given links ++ links ∥₁ in
    ∥∥₁_map (subst P e h) (λ s. rest_step given link new s)

told_step : {C : Type 0} (tell : C → AcceptedLink) (given : List C) (link : C) (waiting : List C) → given ≡ handed_out given (link ∷ waiting) ++ link ∷ waiting → Some (map tell (handed_out given waiting)) ≡ Some (map tell (handed_out given (link ∷ waiting)) ++ tell link ∷ [])
told_step tell given link waiting e = ap Some (ap (map tell) (handed_next given link waiting e) ∙ map-append tell (handed_out given (link ∷ waiting)) (link ∷ []))

-- it stands at the end of what is told
pub told_next : {C : Type 0} (tell : C → AcceptedLink) (given : List C) (link : C) (old new : List C) → old ≡ link ∷ new → ∥ given ≡ handed_out given old ++ old ∥₁ → Some (map tell (handed_out given new)) ≡ Some (map tell (handed_out given old) ++ tell link ∷ [])
told_next {C} tell given link old new e h =
    let P : List C → Type 0 = λ links. ∥ given ≡ handed_out given links ++ links ∥₁ in
    let Q : List C → Type 0 = λ links. Some (map tell (handed_out given new)) ≡ Some (map tell (handed_out given links) ++ tell link ∷ []) in
    subst Q (sym e) (∥∥₁_elim (subst P e h) (hlevel props) (λ s. told_step tell given link new s))

-- nothing was written to it
pub fresh_next : {C : Type 0} (written : C → Option (List ℕ)) (link : C) (old new : List C) → old ≡ link ∷ new → ∥ AreFresh written old ∥₁ → IsFresh (written link)
fresh_next {C} written link old new e h =
    let P : List C → Type 0 = λ links. ∥ AreFresh written links ∥₁ in
    ∥∥₁_elim (subst P e h) (hlevel props) (λ fresh. All-head (λ x. IsFresh (written x)) link new fresh)

-- nor to the others
pub fresh_rest : {C : Type 0} (written : C → Option (List ℕ)) (link : C) (old new : List C) → old ≡ link ∷ new → ∥ AreFresh written old ∥₁ → ∥ AreFresh written new ∥₁
fresh_rest {C} written link old new e h =
    let P : List C → Type 0 = λ links. ∥ AreFresh written links ∥₁ in
    ∥∥₁_map (subst P e h) (λ fresh. All-tail (λ x. IsFresh (written x)) link new fresh)

-- before one is handed out, all wait
none_out : {C : Type 0} (given : List C) → given ≡ handed_out given given ++ given
none_out given = let none : length given - length given ≡ 0 = omega arith in rw none refl

pub all_wait : {C : Type 0} (given waiting : List C) → waiting ≡ given → ∥ given ≡ handed_out given waiting ++ waiting ∥₁
all_wait given waiting e = ∣ subst (λ links. given ≡ handed_out given links ++ links) (sym e) (none_out given) ∣₁

pub all_fresh : {C : Type 0} (written : C → Option (List ℕ)) (given waiting : List C) → waiting ≡ given → AreFresh written given → ∥ AreFresh written waiting ∥₁
all_fresh written given waiting e h = ∣ subst (AreFresh written) (sym e) h ∣₁
