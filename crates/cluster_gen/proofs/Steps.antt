-- One more value in a list of values.
use Rattle.std.proofs.Common.{◌≡◌, ℕ, ◌+◌, List, [], ◌∷◌, ◌++◌, map, arith}
use Rattle.std.proofs.lemmas.List.{map-append}
use Rattle.std.proofs.lemmas.List.FromFn.{map-range_with_len_more}
use Rattle.serde_json.specs.Data.{Data}
use Rattle.serde_json.specs.View.{view}
use Rattle.serde_json.specs.declared.value.Value.{Value}
use Rattle.plain_json.specs.Numbers.{number_data}
use Rattle.cluster_gen.specs.Clusters.{numbers_below}

pub values_more : (f : ℕ → Data) (n : ℕ) (values : List Value) (value : Value) → map view values ≡ map f (numbers_below n) → view value ≡ f n
    → map view (values ++ value ∷ []) ≡ map f (numbers_below (n + 1))
values_more f n values value so_far here =
    rw (map-append view values (value ∷ []), map-range_with_len_more f 0 n n (omega arith), so_far, here)

pub numbers_more : (f : ℕ → ℕ) (n : ℕ) (values : List Value) (value : Value) → map view values ≡ map number_data (map f (numbers_below n))
    → view value ≡ number_data (f n) → map view (values ++ value ∷ []) ≡ map number_data (map f (numbers_below (n + 1)))
numbers_more f n values value so_far here =
    rw (map-append view values (value ∷ []), map-range_with_len_more f 0 n n (omega arith), map-append number_data (map f (numbers_below n)) (f n ∷ []), so_far, here)
