-- Quantities and totals, one partition after another.
use Rattle.std.proofs.Common.{◌≡◌, ℕ, ◌+◌, ◌<◌, ◌≤◌, List, [], ◌∷◌, length, get_or, drop, zero, suc, refl, arith, add-one}
use Rattle.plan_terms.specs.Cluster.{Lists, list_of}
use Rattle.plan_terms.specs.Load.{list_load}
use Rattle.goal_terms.specs.Quantity.{Weights, quantity, total, list_whole}
use Rattle.plan_terms.specs.declared.cluster.Part.{Part}

module _ (w : Weights) where
  -- the i-th partition's part of a quantity, and the rest
  quantity-drop-suc : (b : ℕ) (ps : List Part) (lists : Lists) (i : ℕ) (d : Part) → length lists ≡ length ps → i < length ps
      → quantity w (drop i ps) b (drop i lists) ≡ list_load (w.lead (get_or ps i d)) (w.follow (get_or ps i d)) b (list_of lists i) + quantity w (drop (suc i) ps) b (drop (suc i) lists)
  unfolding quantity
  quantity-drop-suc b [] lists i d e l = absurd (omega arith)
  quantity-drop-suc b (p ∷ ps) [] i d e l = absurd (omega arith)
  quantity-drop-suc b (p ∷ ps) (list ∷ lists) zero d e l = refl
  quantity-drop-suc b (p ∷ ps) (list ∷ lists) (suc i) d e l = quantity-drop-suc b ps lists i d (omega arith) (omega arith)

  -- one more partition is added
  pub quantity-next : (b : ℕ) (ps : List Part) (lists : Lists) (i : ℕ) (d : Part) (amount x : ℕ) → length lists ≡ length ps → i < length ps
      → x ≡ list_load (w.lead (get_or ps i d)) (w.follow (get_or ps i d)) b (list_of lists i)
      → amount + quantity w (drop i ps) b (drop i lists) ≡ quantity w ps b lists
      → amount + x + quantity w (drop (i + 1) ps) b (drop (i + 1) lists) ≡ quantity w ps b lists
  quantity-next b ps lists i d amount x e l is h = rw add-one (omega (arith, quantity-drop-suc b ps lists i d e l))

  -- past the last partition there is nothing
  pub quantity-none : (b : ℕ) (ps : List Part) (lists : Lists) (i : ℕ) → length ps ≤ i → quantity w (drop i ps) b lists ≡ 0
  unfolding quantity
  quantity-none b [] lists zero h = refl
  quantity-none b [] lists (suc i) h = refl
  quantity-none b (p ∷ ps) lists zero h = absurd (omega arith)
  quantity-none b (p ∷ ps) lists (suc i) h = quantity-none b ps lists i (omega arith)

  -- the i-th partition's part of what all carry, and the rest
  total-drop-suc : (ps : List Part) (lists : Lists) (i : ℕ) (d : Part) → length lists ≡ length ps → i < length ps
      → total w (drop i ps) (drop i lists) ≡ list_whole (w.lead (get_or ps i d)) (w.follow (get_or ps i d)) (length (list_of lists i)) + total w (drop (suc i) ps) (drop (suc i) lists)
  unfolding total
  total-drop-suc [] lists i d e l = absurd (omega arith)
  total-drop-suc (p ∷ ps) [] i d e l = absurd (omega arith)
  total-drop-suc (p ∷ ps) (list ∷ lists) zero d e l = refl
  total-drop-suc (p ∷ ps) (list ∷ lists) (suc i) d e l = total-drop-suc ps lists i d (omega arith) (omega arith)

  -- one more partition is added
  pub total-next : (ps : List Part) (lists : Lists) (i : ℕ) (d : Part) (amount x : ℕ) → length lists ≡ length ps → i < length ps
      → x ≡ list_whole (w.lead (get_or ps i d)) (w.follow (get_or ps i d)) (length (list_of lists i))
      → amount + total w (drop i ps) (drop i lists) ≡ total w ps lists
      → amount + x + total w (drop (i + 1) ps) (drop (i + 1) lists) ≡ total w ps lists
  total-next ps lists i d amount x e l is h = rw add-one (omega (arith, total-drop-suc ps lists i d e l))

  -- past the last partition there is nothing
  pub total-none : (ps : List Part) (lists : Lists) (i : ℕ) → length ps ≤ i → total w (drop i ps) lists ≡ 0
  unfolding total
  total-none [] lists zero h = refl
  total-none [] lists (suc i) h = refl
  total-none (p ∷ ps) lists zero h = absurd (omega arith)
  total-none (p ∷ ps) lists (suc i) h = total-none ps lists i (omega arith)
