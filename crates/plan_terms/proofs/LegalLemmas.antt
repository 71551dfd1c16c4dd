-- Laws of legal actions.
use Rattle.std.proofs.Common.{true, ◌≡◌, ℕ, ◌<◌, ◌≤◌, false, List, [], ◌∷◌, length, get_or, zero, suc, refl, arith}
use Rattle.std.specs.Prelude.{not}
use Rattle.std.specs.List.{All}
use Rattle.std.proofs.lemmas.List.Elements.{filter_passes}
use Rattle.plan_terms.specs.Cluster.{Cluster, Lists}
use Rattle.plan_terms.specs.Legal.{is_open, is_legal, candidates, all_actions}
use Rattle.plan_terms.specs.declared.cluster.Part.{Part}

-- whether a partition is open, by its place
pub is_open-at : (xs : List Part) (p : ℕ) (d : Part) → p < length xs → not (get_or xs p d).excluded ≡ is_open xs p
is_open-at [] p d h = absurd (omega arith)
is_open-at (x ∷ xs) zero d h = refl
is_open-at (x ∷ xs) (suc p) d h = is_open-at xs p d (omega arith)

pub is_open-past : (xs : List Part) (p : ℕ) → length xs ≤ p → is_open xs p ≡ false
is_open-past [] p h = refl
is_open-past (x ∷ xs) zero h = absurd (omega arith)
is_open-past (x ∷ xs) (suc p) h = is_open-past xs p (omega arith)

-- every listed action is legal
pub all_actions-legal : (c : Cluster) (lists : Lists) → All (λ a. is_legal c lists a ≡ true) (all_actions c lists)
unfolding all_actions
all_actions-legal c lists = filter_passes (is_legal c lists) (candidates c.brokers (length lists))
