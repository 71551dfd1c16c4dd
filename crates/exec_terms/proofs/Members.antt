-- Members of lists and tests over them.
use Rattle.std.proofs.Common.{◌≡◌, ℕ, Bool, true, false, not, cond, List, [], ◌∷◌, refl, inl, inr}
use Rattle.std.specs.Prelude.{◌==◌}
use Rattle.std.specs.List.{list_any, list_all, filter}
use Rattle.std.proofs.lemmas.Bool.{false≢true, true≢false, eqb-true, or_cases, or_left, or_right, and_parts}
use Rattle.exec_terms.specs.Words.{adds, removes, is_replica_task}
use Rattle.plan_terms.specs.Cluster.{has}
use Rattle.exec_terms.specs.declared.task.Task.{Task}

-- a member that passes
pub has_any : (p : ℕ → Bool) (xs : List ℕ) (b : ℕ) → has xs b ≡ true → p b ≡ true → list_any p xs ≡ true
has_any p [] b h q = h
has_any p (x ∷ xs) b h q = elim (or_cases (x == b) (has xs b) h) [
  | inl e ↦ or_left (p x) (list_any p xs) (rw (eqb-true x b e) q)
  | inr r ↦ or_right (p x) (list_any p xs) (has_any p xs b r q)
]

-- each member that the filter keeps passes
pub has_all : (p q : ℕ → Bool) (xs : List ℕ) (b : ℕ) → list_all p (filter q xs) ≡ true → has xs b ≡ true → q b ≡ true → p b ≡ true
has_all p q [] b a h k = absurd (false≢true h)
has_all p q (x ∷ xs) b a h k = by (q x) refl a (λ a' r. has_all p q xs b a' r k) where
  by : (c : Bool) → q x ≡ c → list_all p (cond c (x ∷ filter q xs) (filter q xs)) ≡ true → (list_all p (filter q xs) ≡ true → has xs b ≡ true → p b ≡ true) → p b ≡ true
  by true e a' more = elim (or_cases (x == b) (has xs b) h) [
    | inl s ↦ rw (eqb-true x b s) at ((and_parts (p x) (list_all p (filter q xs)) a').0)
    | inr r ↦ more ((and_parts (p x) (list_all p (filter q xs)) a').1) r
  ]
  by false e a' more = elim (or_cases (x == b) (has xs b) h) [
    | inl s ↦ absurd (true≢false (let f : q b ≡ false = rw (eqb-true x b s) at e in cc))
    | inr r ↦ more a' r
  ]

pub adds-replica : (t : Task) (b : ℕ) → adds t b ≡ true → is_replica_task t ≡ true
adds-replica t b h =
    let p = and_parts (has t.after b) (not (has t.before b)) h in
    or_left (list_any (λ b. not (has t.before b)) t.after) (list_any (λ b. not (has t.after b)) t.before) (has_any (λ b. not (has t.before b)) t.after b p.0 p.1)

pub removes-replica : (t : Task) (b : ℕ) → removes t b ≡ true → is_replica_task t ≡ true
removes-replica t b h =
    let p = and_parts (has t.before b) (not (has t.after b)) h in
    or_right (list_any (λ b. not (has t.before b)) t.after) (list_any (λ b. not (has t.after b)) t.before) (has_any (λ b. not (has t.after b)) t.before b p.0 p.1)
