-- Receipts.
use Rattle.std.specs.Prelude.{ℕ}

-- the receipt of a copy, as contracts see it
pub record ReceiptView : Type 0 where
  pub lease : ℕ
  pub part : ℕ
  pub to : ℕ
  pub chunk : ℕ
