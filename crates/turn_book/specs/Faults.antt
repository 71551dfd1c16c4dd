-- What a fault of a step does to the number that the book was blamed for.
use Rattle.std.specs.Prelude.{◌≡◌, ◌≤◌, ◌<◌, ℕ}
use Rattle.cc_base.specs.Outside.{HasRisen}

-- a fault with a blame raises the number to that blame, and one without leaves it
pub record HasBlamed (blame before now : ℕ) : Type 0 where
  pub none : blame ≡ 0 → now ≡ before
  pub some : 0 < blame → (now ≡ blame) × (before ≤ now) × HasRisen before now
