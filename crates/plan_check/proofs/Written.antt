-- A loop that writes each of a list.
use Rattle.std.proofs.Common.{◌≡◌, ℕ, ◌+◌, ◌<◌, List, [], ◌∷◌, ◌++◌, length, map, take, get_or, Option, refl, add-one}
use Rattle.std.specs.List.{All}
use Rattle.std.proofs.Math.Seq.{take-suc}
use Rattle.std.proofs.lemmas.List.{map-append}
use Rattle.std.proofs.lemmas.List.Elements.{All-push}
use Rattle.serde_json.specs.Data.{Data}
use Rattle.serde_json.specs.View.{view}
use Rattle.serde_json.specs.declared.value.Value.{Value}
use Rattle.plan_check.specs.Reading.{IsReadBack}

-- the values are what is written of the things, and each thing is read back
abbrev pub AreWritten : {X : Type 0} → (Data → Option X) → (X → Data) → List X → List Value → Type 0
AreWritten read write xs values = (map view values ≡ map write xs) × All (IsReadBack read write) xs

-- the first i of xs, and one more
pub AreWritten-push : {X : Type 0} (read : Data → Option X) (write : X → Data) (xs : List X) (i : ℕ) (d x : X) (values : List Value) (value : Value)
    → i < length xs → x ≡ get_or xs i d → view value ≡ write x → IsReadBack read write x → AreWritten read write (take i xs) values
    → AreWritten read write (take (i + 1) xs) (values ++ value ∷ [])
AreWritten-push read write xs i d x values value l at_place is back so_far =
    rw (add-one i, take-suc xs i d l, ← at_place) (
      rw (map-append view values (value ∷ []), map-append write (take i xs) (x ∷ []), so_far.0, is) refl,
      All-push (IsReadBack read write) (take i xs) x so_far.1 back,
    )
