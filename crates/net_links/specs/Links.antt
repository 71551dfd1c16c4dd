-- What a listener tells of the links that it accepted.
use Rattle.std.specs.Prelude.{◌≡◌, ℕ, List, [], ◌∷◌, ◌++◌, Option, IfSome, option_map}

-- what is told of a link when it is accepted: the faults of both sides, and the bytes that are left to read
pub record AcceptedLink : Type 0 where
  pub source_faults : ℕ
  pub sink_faults : ℕ
  pub left : Option (List ℕ)

-- what is told, with this link at its end
abbrev pub with_link : Option (List AcceptedLink) → AcceptedLink → Option (List AcceptedLink)
with_link told link = option_map (λ links. links ++ link ∷ []) told

-- nothing was written, where it is told
abbrev pub IsFresh : Option (List ℕ) → Type 0
IsFresh written = IfSome written (λ bytes. bytes ≡ [])

-- no call has failed, and no link was accepted, where that is told
abbrev pub IsUnused : ℕ → Option (List AcceptedLink) → Type 0
IsUnused faults accepted = (faults ≡ 0) × IfSome accepted (λ links. links ≡ [])
