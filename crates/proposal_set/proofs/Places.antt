-- The partitions that proposals name.
use Rattle.std.proofs.Common.{ℕ, ◌<◌, ◌≤◌, [], ◌∷◌, length, zero, suc, arith}
use Rattle.std.specs.List.{All}
use Rattle.std.proofs.lemmas.List.Elements.{All-filter, All-nil, All-push}
use Rattle.plan_terms.specs.Change.{proposal_at, is_change, proposals}
use Rattle.plan_terms.specs.Cluster.{Lists}
use Rattle.plan_terms.specs.Legal.{each_below}

-- each proposal's place is within the lists, as `reassignment_text` requires
pub proposals_within : (before after : Lists) → All (λ p. p.part < length before) (proposals before after)
unfolding proposals
proposals_within before after = All-filter is_change (λ p. p.part < length before) _ (below (length before) (omega arith)) where
  below : (n : ℕ) → n ≤ length before → All (λ p. p.part < length before) (each_below (λ p. proposal_at before after p ∷ []) n)
  below zero l = All-nil (λ p. p.part < length before)
  below (suc n) l = All-push (λ p. p.part < length before) (each_below (λ p. proposal_at before after p ∷ []) n) (proposal_at before after n) (below n (omega arith)) (omega arith)
