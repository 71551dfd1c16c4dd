-- The proposals between two assignments.
use Rattle.std.proofs.Common.{◌≡◌, ℕ, ◌+◌, ◌<◌, ◌≤◌, Bool, true, false, not, cond, List, [], ◌∷◌, ◌++◌, length, get_or, arith, refl, sym, ◌∙◌, zero, suc, inl, inr, append-nil}
use Rattle.std.specs.Prelude.{◌==◌, Some}
use Rattle.std.specs.List.{All, count_by, filter}
use Rattle.std.proofs.lemmas.Bool.{cases_eq, eq-eqb, ne_eqb, true≢false}
use Rattle.std.proofs.lemmas.List.Elements.{All-nil, All-push, All-pop, All-filter, filter-append}
use Rattle.std.proofs.lemmas.List.Sums.{length-filter, count_by-le-length, sum_by-append, sum_by-cons}
use Rattle.std.proofs.lemmas.Slice.Eq.{bytes_eq-Decides}
use Rattle.plan_terms.specs.Cluster.{Lists, list_of}
use Rattle.plan_terms.specs.Change.{proposal_at, is_change, same_list, proposals}
use Rattle.plan_terms.specs.Legal.{each_below}
use Rattle.plan_terms.specs.declared.lists.Proposal.{Proposal}
use Rattle.exec_terms.proofs.Launch.{length-each_below}

module _ (before after : Lists) where
  -- the proposals of the partitions below n, also of those that do not change
  abbrev below : ℕ → List Proposal
  below n = each_below (λ p. proposal_at before after p ∷ []) n

  below_all : (P : Proposal → Type 0) (n : ℕ) → ((p : ℕ) → p < n → P (proposal_at before after p)) → All P (below n)
  below_all P zero h = All-nil P
  below_all P (suc n) h = All-push P (below n) (proposal_at before after n) (below_all P n (λ p l. h p (omega arith))) (h n (omega arith))

  -- what holds of each partition's proposal holds of each proposal
  pub proposals_all : (P : Proposal → Type 0) → ((p : ℕ) → p < length before → P (proposal_at before after p)) → All P (proposals before after)
  unfolding proposals
  proposals_all P h = All-filter is_change P (below (length before)) (below_all P (length before) h)

  -- each proposal's lists differ
  filter_passes : (qs : List Proposal) → All (λ q. is_change q ≡ true) (filter is_change qs)
  filter_passes [] = All-nil (λ q. is_change q ≡ true)
  filter_passes (q ∷ qs) = by (is_change q) refl (filter_passes qs) where
    first : is_change q ≡ true → All (λ x. is_change x ≡ true) (filter is_change qs) → (k : ℕ) (d : Proposal) → k < length (q ∷ filter is_change qs) → is_change (get_or (q ∷ filter is_change qs) k d) ≡ true
    first e h zero d l = e
    first e h (suc k) d l = h k d (omega (arith, l))

    by : (b : Bool) → is_change q ≡ b → All (λ x. is_change x ≡ true) (filter is_change qs) → All (λ x. is_change x ≡ true) (cond b (q ∷ filter is_change qs) (filter is_change qs))
    by true e h = λ k d l. first e h k d l
    by false e h = h

  -- what holds of each partition's proposal where its lists differ holds of each proposal
  pub proposals_changed : (P : Proposal → Type 0) → ((p : ℕ) → p < length before → is_change (proposal_at before after p) ≡ true → P (proposal_at before after p)) → All P (proposals before after)
  unfolding proposals
  proposals_changed P h = λ k d l. proposals_all (λ q. is_change q ≡ true → P q) h k d l (filter_passes (below (length before)) k d l)

  -- each proposal leads to the new list of its partition
  pub all_lead : All (λ q. q.after ≡ list_of after q.part) (proposals before after)
  all_lead = proposals_all (λ q. q.after ≡ list_of after q.part) (λ p l. refl)

  pub few_proposals : length (proposals before after) ≤ length before
  unfolding proposals
  few_proposals = omega (arith, length-filter is_change (below (length before)), count_by-le-length is_change (below (length before)), length-each_below (proposal_at before after) (length before))

  more : (n : ℕ) → filter is_change (below (suc n)) ≡ filter is_change (below n) ++ filter is_change (proposal_at before after n ∷ [])
  more n = filter-append is_change (below n) (proposal_at before after n ∷ [])

  -- a partition without a proposal has the same list afterwards
  same_below : (p n : ℕ) → p < n → All (λ q. (q.part == p) ≡ false) (filter is_change (below n)) → list_of before p ≡ list_of after p
  same_below p zero l h = absurd (omega arith)
  same_below p (suc n) l h = by (same_list (list_of before n) (list_of after n)) refl (rw (more n) at h) (same_below p n) where
    by : (c : Bool) → same_list (list_of before n) (list_of after n) ≡ c
        → All (λ q. (q.part == p) ≡ false) (filter is_change (below n) ++ cond (not c) (proposal_at before after n ∷ []) [])
        → (p < n → All (λ q. (q.part == p) ≡ false) (filter is_change (below n)) → list_of before p ≡ list_of after p) → list_of before p ≡ list_of after p
    by true e h' fewer = elim (cases_eq p n) as (λ _. list_of before p ≡ list_of after p) [
      | inl same ↦ rw same ((bytes_eq-Decides (list_of before n) (list_of after n)).0 e)
      | inr other ↦ fewer (omega arith) (rw append-nil at h')
    ]
    by false e h' fewer =
        let two = All-pop (λ q. (q.part == p) ≡ false) _ (filter is_change (below n)) (Some (proposal_at before after n)) refl h' in
        elim (cases_eq n p) as (λ _. list_of before p ≡ list_of after p) [
          | inl same ↦ absurd (true≢false (sym (eq-eqb n p same) ∙ two.1))
          | inr other ↦ fewer (omega arith) two.0
        ]

  pub unchanged : (p : ℕ) → p < length before → All (λ q. (q.part == p) ≡ false) (proposals before after) → list_of before p ≡ list_of after p
  unfolding proposals
  unchanged p l h = same_below p (length before) l h

  -- how many of the first proposals are of partition p
  abbrev count_of : ℕ → List Proposal → ℕ
  count_of p = count_by (λ q. q.part == p)

  count_more : (p n : ℕ) → count_of p (filter is_change (below (suc n))) ≡ count_of p (filter is_change (below n)) + count_of p (filter is_change (proposal_at before after n ∷ []))
  count_more p n = rw (more n) (sum_by-append (λ q. cond (q.part == p) 1 0) (filter is_change (below n)) (filter is_change (proposal_at before after n ∷ [])))

  last_most : (p n : ℕ) → count_of p (filter is_change (proposal_at before after n ∷ [])) ≤ cond (n == p) 1 0
  last_most p n = by (is_change (proposal_at before after n)) where
    by : (c : Bool) → count_of p (cond c (proposal_at before after n ∷ []) []) ≤ cond (n == p) 1 0
    by true = omega (arith, sum_by-cons (λ (q : Proposal). cond (q.part == p) 1 0) (proposal_at before after n) [])
    by false = omega arith

  none_below : (p n : ℕ) → n ≤ p → count_of p (filter is_change (below n)) ≡ 0
  none_below p zero l = refl
  none_below p (suc n) l =
      let apart : (n == p) ≡ false = ne_eqb n p (λ e. absurd (omega (arith, e))) in
      let last : count_of p (filter is_change (proposal_at before after n ∷ [])) ≤ 0 = rw apart at (last_most p n) in
      omega (arith, count_more p n, none_below p n (omega arith), last)

  one_below : (p n : ℕ) → count_of p (filter is_change (below n)) ≤ 1
  one_below p zero = omega arith
  one_below p (suc n) = elim (cases_eq n p) as (λ _. count_of p (filter is_change (below (suc n))) ≤ 1) [
    | inl same ↦
        let last : count_of p (filter is_change (proposal_at before after n ∷ [])) ≤ 1 = rw (eq-eqb n p same) at (last_most p n) in
        omega (arith, count_more p n, none_below p n (omega arith), last)
    | inr other ↦
        let last : count_of p (filter is_change (proposal_at before after n ∷ [])) ≤ 0 = rw (ne_eqb n p other) at (last_most p n) in
        omega (arith, count_more p n, one_below p n, last)
  ]

  -- the proposals are of partitions that differ
  pub one_each : (p : ℕ) → count_by (λ q. q.part == p) (proposals before after) ≤ 1
  unfolding proposals
  one_each p = one_below p (length before)
