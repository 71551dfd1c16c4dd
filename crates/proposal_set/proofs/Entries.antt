-- The entries that are still to come.
use Rattle.std.proofs.Common.{◌≡◌, ℕ, ◌+◌, ◌<◌, List, [], ◌∷◌, length, get_or, drop, zero, suc, refl, sym, subst, arith, add-one}
use Rattle.std.specs.List.{All}
use Rattle.std.proofs.Math.Seq.{drop-cons}
use Rattle.plan_terms.specs.declared.cluster.Part.{Part}
use Rattle.plan_terms.specs.declared.lists.Proposal.{Proposal}
use Rattle.proposal_set.specs.Text.{entry_of, entry_at, proposal_entries, list_entries}

entry_at-within : (parts : List Part) (p : ℕ) (list : List ℕ) (d : Part) → p < length parts → entry_at parts p list ≡ entry_of (get_or parts p d) list ∷ []
entry_at-within [] p list d l = absurd (omega arith)
entry_at-within (x ∷ xs) zero list d l = refl
entry_at-within (x ∷ xs) (suc p) list d l = entry_at-within xs p list d (omega arith)

-- from proposal i on, which is p, for the partition x
pub proposal_entries-drop : (parts : List Part) (ps : List Proposal) (i : ℕ) (p : Proposal) (x : Part) → All (λ p. p.part < length parts) ps → i < length ps
    → p ≡ get_or ps i p → x ≡ get_or parts p.part x → proposal_entries parts (drop i ps) ≡ entry_of x p.after ∷ proposal_entries parts (drop (i + 1) ps)
proposal_entries-drop parts ps i p x h l is at_place =
    let within : p.part < length parts = subst (λ (q : Proposal). q.part < length parts) (sym is) (h i p l) in
    rw (add-one i, drop-cons ps i p l, ← is, entry_at-within parts p.part p.after x within, ← at_place)

pub list_entries-no_part : (xs : List Part) (lists : List (List ℕ)) → length xs ≡ 0 → list_entries xs lists ≡ []
list_entries-no_part [] lists e = refl
list_entries-no_part (x ∷ xs) lists e = absurd (omega arith)

pub list_entries-no_list : (xs : List Part) (lists : List (List ℕ)) → length lists ≡ 0 → list_entries xs lists ≡ []
list_entries-no_list [] lists e = refl
list_entries-no_list (x ∷ xs) [] e = refl
list_entries-no_list (x ∷ xs) (list ∷ lists) e = absurd (omega arith)
