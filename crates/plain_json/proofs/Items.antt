-- Lists of JSON values have no float and are shallow where their members are.
use Rattle.std.proofs.Common.{◌≡◌, ℕ, List, [], ◌∷◌, map, false, refl, ◌≤◌, arith}
use Rattle.serde_json.specs.Data.{Data, depth, items_depth}
use Rattle.serde_json.specs.View.{items_of}
use Rattle.serde_json.specs.Written.{has_float, items_have_float}
use Rattle.plain_json.specs.Numbers.{number_data}

pub whole_items : {X : Type 0} (f : X → Data) → ((x : X) → has_float (f x) ≡ false) → (xs : List X) → items_have_float (items_of (map f xs)) ≡ false
whole_items f h [] = refl
whole_items f h (x ∷ xs) = rw (h x) (whole_items f h xs)

pub flat_items : {X : Type 0} (f : X → Data) (n : ℕ) → ((x : X) → depth (f x) ≤ n) → (xs : List X) → items_depth (items_of (map f xs)) ≤ n
flat_items f n h [] = omega arith
flat_items f n h (x ∷ xs) = omega (arith, h x, flat_items f n h xs)

pub whole_numbers : (ns : List ℕ) → items_have_float (items_of (map number_data ns)) ≡ false
whole_numbers = whole_items number_data (λ n. refl)

pub flat_numbers : (ns : List ℕ) → items_depth (items_of (map number_data ns)) ≤ 0
flat_numbers = flat_items number_data 0 (λ n. omega arith)
