-- The changes among the first partitions.
use Rattle.std.proofs.Common.{◌≡◌, ℕ, true, false, List, [], ◌∷◌, ◌++◌, suc, append-nil}
use Rattle.std.specs.List.{filter}
use Rattle.std.proofs.lemmas.List.Elements.{filter-append}
use Rattle.plan_terms.specs.Change.{proposal_at, is_change, same_list}
use Rattle.plan_terms.specs.Cluster.{Lists, list_of}
use Rattle.plan_terms.specs.Legal.{each_below}
use Rattle.plan_terms.specs.declared.lists.Proposal.{Proposal}

-- the proposals of the partitions below n
abbrev pub changes_below : Lists → Lists → ℕ → List Proposal
changes_below before after n = filter is_change (each_below (λ p. proposal_at before after p ∷ []) n)

pub changes_below-changed : (before after : Lists) (n : ℕ) → same_list (list_of before n) (list_of after n) ≡ false
    → changes_below before after (suc n) ≡ changes_below before after n ++ proposal_at before after n ∷ []
changes_below-changed before after n e =
    rw (filter-append is_change (each_below (λ p. proposal_at before after p ∷ []) n) (proposal_at before after n ∷ []), e)

pub changes_below-same : (before after : Lists) (n : ℕ) → same_list (list_of before n) (list_of after n) ≡ true
    → changes_below before after (suc n) ≡ changes_below before after n
changes_below-same before after n e =
    rw (filter-append is_change (each_below (λ p. proposal_at before after p ∷ []) n) (proposal_at before after n ∷ []), e, append-nil)
