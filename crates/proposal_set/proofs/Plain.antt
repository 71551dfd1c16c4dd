-- A reassignment has no float, and nests no deeper than the reader goes.
use Rattle.std.proofs.Common.{◌≡◌, ℕ, List, [], ◌∷◌, ◌++◌, map, false, zero, suc, refl, ap, ◌||◌, ◌≤◌, arith}
use Rattle.serde_json.specs.Data.{Data, depth, items_depth}
use Rattle.serde_json.specs.View.{items_of}
use Rattle.serde_json.specs.Written.{has_float, items_have_float}
use Rattle.plain_json.proofs.Items.{whole_numbers, flat_numbers}
use Rattle.plan_terms.specs.declared.cluster.Part.{Part}
use Rattle.plan_terms.specs.declared.lists.Proposal.{Proposal}
use Rattle.proposal_set.specs.Text.{entry_of, entry_at, proposal_entries, list_entries, reassignment}

-- no float, and at most two levels
pub record IsPlain (entries : List Data) : Type 0 where
  pub no_float : items_have_float (items_of entries) ≡ false
  pub flat : items_depth (items_of entries) ≤ 2

IsPlain-nil : IsPlain []
IsPlain-nil = record { no_float = refl; flat = omega arith }

IsPlain-cons : (part : Part) (list : List ℕ) (entries : List Data) → IsPlain entries → IsPlain (entry_of part list ∷ entries)
IsPlain-cons part list entries h = record {
  no_float = rw (ap (λ b. b || false) (whole_numbers list)) h.no_float;
  flat = omega (arith, flat_numbers list, h.flat);
}

entry_at-then : (parts : List Part) (p : ℕ) (list : List ℕ) (entries : List Data) → IsPlain entries → IsPlain (entry_at parts p list ++ entries)
entry_at-then [] p list entries h = h
entry_at-then (x ∷ xs) zero list entries h = IsPlain-cons x list entries h
entry_at-then (x ∷ xs) (suc p) list entries h = entry_at-then xs p list entries h

pub IsPlain-proposals : (parts : List Part) (ps : List Proposal) → IsPlain (proposal_entries parts ps)
IsPlain-proposals parts [] = IsPlain-nil
IsPlain-proposals parts (p ∷ ps) = entry_at-then parts p.part p.after _ (IsPlain-proposals parts ps)

pub IsPlain-lists : (parts : List Part) (lists : List (List ℕ)) → IsPlain (list_entries parts lists)
IsPlain-lists [] lists = IsPlain-nil
IsPlain-lists (x ∷ xs) [] = IsPlain-nil
IsPlain-lists (x ∷ xs) (list ∷ lists) = IsPlain-cons x list _ (IsPlain-lists xs lists)

pub no_float-reassignment : (entries : List Data) → IsPlain entries → has_float (reassignment entries) ≡ false
no_float-reassignment entries h = ap (λ b. b || false) h.no_float

pub depth-reassignment : (entries : List Data) → IsPlain entries → depth (reassignment entries) ≤ 127
depth-reassignment entries h = omega (arith, h.flat)
