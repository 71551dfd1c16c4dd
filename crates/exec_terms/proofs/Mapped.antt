-- A loop that changes each element of a list in place.
use Rattle.std.proofs.Common.{◌≡◌, ℕ, ◌+◌, ◌<◌, List, [], ◌∷◌, ◌++◌, map, set, take, drop, length, get_or, arith, sym, ap, ◌∙◌, append_assoc}
use Rattle.std.proofs.lemmas.List.{drop_more, map_more, set_at, get_or_at, length-map, length-take-le}

pub map_step : {X : Type 0} (f : X → X) (xs cur : List X) (i : ℕ) (x y : X) → i < length xs → cur ≡ map f (take i xs) ++ drop i xs
    → x ≡ get_or cur i x → y ≡ f x → set cur i y ≡ map f (take (i + 1) xs) ++ drop (i + 1) xs
map_step {X} f xs cur i x y l e read is =
    let front : List X = map f (take i xs) in
    let len : length front ≡ i = length-map (take i xs) f ∙ length-take-le i xs (omega arith) in
    let parts : cur ≡ front ++ get_or xs i x ∷ drop (i + 1) xs = e ∙ ap (λ (ys : List X). front ++ ys) (drop_more xs i x l) in
    let old : x ≡ get_or xs i x = rw parts at read ∙ get_or_at front (get_or xs i x) (drop (i + 1) xs) x i len in
    let put : set cur i y ≡ front ++ y ∷ drop (i + 1) xs = ap (λ (ys : List X). set ys i y) parts ∙ set_at front (get_or xs i x) (drop (i + 1) xs) y i len in
    let new : y ≡ f (get_or xs i x) = is ∙ ap f old in
    put ∙ ap (λ (z : X). front ++ z ∷ drop (i + 1) xs) new
    ∙ sym (append_assoc front (f (get_or xs i x) ∷ []) (drop (i + 1) xs))
    ∙ ap (λ (ys : List X). ys ++ drop (i + 1) xs) (sym (map_more f xs i x l))

-- the same, where the element is read off the list
pub map_step_at : {X : Type 0} (f : X → X) (xs cur : List X) (i : ℕ) (d y : X) → i < length xs → cur ≡ map f (take i xs) ++ drop i xs
    → y ≡ f (get_or cur i d) → set cur i y ≡ map f (take (i + 1) xs) ++ drop (i + 1) xs
map_step_at {X} f xs cur i d y l e is =
    let front : List X = map f (take i xs) in
    let len : length front ≡ i = length-map (take i xs) f ∙ length-take-le i xs (omega arith) in
    let parts : cur ≡ front ++ get_or xs i d ∷ drop (i + 1) xs = e ∙ ap (λ (ys : List X). front ++ ys) (drop_more xs i d l) in
    let old : get_or cur i d ≡ get_or xs i d = ap (λ (ys : List X). get_or ys i d) parts ∙ get_or_at front (get_or xs i d) (drop (i + 1) xs) d i len in
    let put : set cur i y ≡ front ++ y ∷ drop (i + 1) xs = ap (λ (ys : List X). set ys i y) parts ∙ set_at front (get_or xs i d) (drop (i + 1) xs) y i len in
    let new : y ≡ f (get_or xs i d) = is ∙ ap f old in
    put ∙ ap (λ (z : X). front ++ z ∷ drop (i + 1) xs) new
    ∙ sym (append_assoc front (f (get_or xs i d) ∷ []) (drop (i + 1) xs))
    ∙ ap (λ (ys : List X). ys ++ drop (i + 1) xs) (sym (map_more f xs i d l))

-- what the loop has not come to is as it was
pub map_old : {X : Type 0} (f : X → X) (xs cur : List X) (i : ℕ) (d : X) → i < length xs → cur ≡ map f (take i xs) ++ drop i xs → get_or cur i d ≡ get_or xs i d
map_old {X} f xs cur i d l e =
    let front : List X = map f (take i xs) in
    let len : length front ≡ i = length-map (take i xs) f ∙ length-take-le i xs (omega arith) in
    let parts : cur ≡ front ++ get_or xs i d ∷ drop (i + 1) xs = e ∙ ap (λ (ys : List X). front ++ ys) (drop_more xs i d l) in
    ap (λ (ys : List X). get_or ys i d) parts ∙ get_or_at front (get_or xs i d) (drop (i + 1) xs) d i len
