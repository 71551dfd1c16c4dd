-- What the changes among the first partitions do when they are carried out.
use Rattle.std.proofs.Common.{◌≡◌, ℕ, ◌<◌, ◌≤◌, List, [], ◌∷◌, ◌++◌, length, take, drop, set, zero, suc, refl, arith, append_assoc, append-nil, inl, inr}
use Rattle.std.proofs.Math.Seq.{drop-cons, drop-length, set-append_seam, take-suc}
use Rattle.std.proofs.lemmas.Bool.{cases_Bool}
use Rattle.std.proofs.lemmas.List.{take_all, length-take-le}
use Rattle.std.proofs.lemmas.Slice.Eq.{bytes_eq-Decides}
use Rattle.plan_terms.specs.Change.{proposal_at, same_list, proposals}
use Rattle.plan_terms.specs.Cluster.{Lists, list_of}
use Rattle.plan_terms.specs.declared.lists.Proposal.{Proposal}
use Rattle.plan_terms.specs.Change.{carried_out}
use Rattle.proposal_set.proofs.Below.{changes_below, changes_below-changed, changes_below-same}

carried_out-append : (ps qs : List Proposal) (lists : Lists) → carried_out (ps ++ qs) lists ≡ carried_out qs (carried_out ps lists)
carried_out-append [] qs lists = refl
carried_out-append (p ∷ ps) qs lists = carried_out-append ps qs (set lists p.part p.after)

set-at_seam : (xs : Lists) (y : List ℕ) (ys : Lists) (a : List ℕ) (n : ℕ) → length xs ≡ n → set (xs ++ y ∷ ys) n a ≡ xs ++ a ∷ ys
set-at_seam xs y ys a n e = rw (← e) (set-append_seam xs y ys a)

module _ (before after : Lists) (n : ℕ) (l : n < length before) (m : n < length after) where
  -- the first n lists are the new ones, and one more is
  one_more : take (suc n) after ++ drop (suc n) before ≡ take n after ++ list_of after n ∷ drop (suc n) before
  one_more = rw (take-suc after n [] m, append_assoc)

  changed : set (take n after ++ drop n before) n (list_of after n) ≡ take (suc n) after ++ drop (suc n) before
  changed =
      let first : length (take n after) ≡ n = length-take-le n after (omega arith) in
      rw (drop-cons before n [] l, one_more) (set-at_seam (take n after) (list_of before n) (drop (suc n) before) (list_of after n) n first)

  same : list_of before n ≡ list_of after n → take n after ++ drop n before ≡ take (suc n) after ++ drop (suc n) before
  same e = rw (drop-cons before n [] l, one_more, e)

  step : carried_out (changes_below before after n) before ≡ take n after ++ drop n before
      → carried_out (changes_below before after (suc n)) before ≡ take (suc n) after ++ drop (suc n) before
  step h = elim (cases_Bool (same_list (list_of before n) (list_of after n))) [
    | inl e ↦ rw (changes_below-same before after n e, h) (same ((bytes_eq-Decides (list_of before n) (list_of after n)).0 e))
    | inr e ↦ rw (changes_below-changed before after n e, carried_out-append (changes_below before after n) (proposal_at before after n ∷ []) before, h) changed
  ]

carried_out-below : (before after : Lists) → length before ≡ length after → (n : ℕ) → n ≤ length before
    → carried_out (changes_below before after n) before ≡ take n after ++ drop n before
carried_out-below before after e zero l = refl
carried_out-below before after e (suc n) l = step before after n (omega arith) (omega arith) (carried_out-below before after e n (omega arith))

pub carried_out-proposals : (before after : Lists) → length before ≡ length after → carried_out (proposals before after) before ≡ after
unfolding proposals
carried_out-proposals before after e =
    rw (carried_out-below before after e (length before) (omega arith), drop-length before, append-nil, take_all (length before) after (omega arith))
