-- What the calls of a source, a sink and the files tell.
use Rattle.std.specs.Prelude.{◌≡◌, ◌≤◌, ◌⊎◌, ℕ, ◌+◌, ◌-◌, ◌^◌, min, List, [], ◌∷◌, ◌++◌, length, take, drop, Option, option_map, Result, OnOk, OnErr}

-- what a link tells of its other side: the count of faults, and the bytes
abbrev pub Beside : Type 0
Beside = ℕ × Option (List ℕ)

-- a count has risen, or stands at the end of a u64
abbrev pub HasRisen : ℕ → ℕ → Type 0
HasRisen before now = min (before + 1) (2 ^ 64 - 1) ≤ now

-- a count never falls, an error comes only where it has risen, and a call that goes through leaves it
pub record HasCause {T E : Type 0} (before now : ℕ) (result : Result T E) : Type 0 where
  pub later : before ≤ now
  pub failed : OnErr result (HasRisen before now)
  pub kept : OnOk result (now ≡ before)

-- what is told, with this piece at its end
abbrev pub appended : Option (List ℕ) → List ℕ → Option (List ℕ)
appended told piece = option_map (λ bytes. bytes ++ piece) told

-- what is told to be left, after n bytes
abbrev pub after : ℕ → Option (List ℕ) → Option (List ℕ)
after n told = option_map (drop n) told

-- The buffer begins with the n bytes that were next. None comes only at the end.
pub record IsNext (n : ℕ) (buffer told : List ℕ) : Type 0 where
  pub within : n ≤ length told
  pub bytes : take n buffer ≡ take n told
  pub end : n ≡ 0 → told ≡ []

-- what was told had no more than a front of the bytes put at its end
abbrev pub IsPrefixOut : Option (List ℕ) → Option (List ℕ) → List ℕ → Type 0
IsPrefixOut old new bytes = (n : ℕ) × (n ≤ length bytes) × (new ≡ appended old (take n bytes))

-- what is told of the names, with this name at their end
abbrev pub with_name : Option (List (List ℕ)) → List ℕ → Option (List (List ℕ))
with_name told name = option_map (λ names. names ++ name ∷ []) told

-- a file that is loaded adds its name to the names; one that is not may have added it or not
pub record IsLogged {T E : Type 0} (old new : Option (List (List ℕ))) (name : List ℕ) (result : Result T E) : Type 0 where
  pub loaded : OnOk result (new ≡ with_name old name)
  pub failed : OnErr result ((new ≡ old) ⊎ (new ≡ with_name old name))
