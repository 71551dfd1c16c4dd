-- The place of the user task of an id.
use Rattle.std.proofs.Common.{◌≡◌, ◌∙◌, ℕ, ◌+◌, ◌-◌, ◌<◌, ◌≤◌, ◌^◌, Bool, true, false, List, length, refl, sym, ap, arith}
use Rattle.std.specs.Prelude.{Some, None, bytes_eq}
use Rattle.std.proofs.lemmas.Slice.Eq.{bytes_eq-Decides}
use Rattle.user_tasks.specs.Ids.{id_of}
use Rattle.user_tasks.specs.declared.table.UserTask.{UserTask}
use Rattle.core_terms.specs.Jobs.{id_at}
use Rattle.core_terms.specs.Submits.{place_of}
use Rattle.control_core.proofs.Firsts.{first_is, first_none}

-- another id
other : (a b : List ℕ) → (a ≡ b → ⊥) → bytes_eq a b ≡ false
other a b h = by (bytes_eq a b) refl where
  by : (c : Bool) → bytes_eq a b ≡ c → c ≡ false
  by true e = absurd (h ((bytes_eq-Decides a b).0 e))
  by false e = refl

-- no user task has the id
pub place_none : (id : List ℕ) (tasks : List UserTask) → ((k : ℕ) → k < length tasks → id ≡ id_of (k + 1) → ⊥) → None ≡ place_of id tasks
place_none id tasks h = first_none (λ k. bytes_eq (id_at k) id) (length tasks) (λ k m. other (id_at k) id (λ e. h k m (sym e)))

-- the user task of this number has it, and no other
pub place_some : (id : List ℕ) (tasks : List UserTask) (n : ℕ) → 1 ≤ n → n ≤ length tasks → length tasks < 2 ^ 63 → id ≡ id_of n
    → ((a b : ℕ) → a < 2 ^ 64 → b < 2 ^ 64 → id_of a ≡ id_of b → a ≡ b) → Some (n - 1) ≡ place_of id tasks
place_some id tasks n some known few is apart = first_is (λ k. bytes_eq (id_at k) id) (length tasks) (n - 1) (omega arith) here before where
  here : bytes_eq (id_at (n - 1)) id ≡ true
  here = (bytes_eq-Decides (id_at (n - 1)) id).1 (ap id_of (omega arith) ∙ sym is)

  before : (k : ℕ) → k < n - 1 → bytes_eq (id_at k) id ≡ false
  before k m = other (id_at k) id (λ e. absurd (omega (arith, apart (k + 1) n (omega arith) (omega arith) (e ∙ is))))

-- a number that none of the user tasks has
pub place_beyond : (id : List ℕ) (tasks : List UserTask) (n : ℕ) → n < 2 ^ 64 → (n ≤ length tasks → n ≡ 0) → length tasks < 2 ^ 63 → id ≡ id_of n
    → ((a b : ℕ) → a < 2 ^ 64 → b < 2 ^ 64 → id_of a ≡ id_of b → a ≡ b) → None ≡ place_of id tasks
place_beyond id tasks n small out few is apart = place_none id tasks (λ k m e.
    let same : n ≡ k + 1 = apart n (k + 1) small (omega arith) (sym is ∙ e) in
    absurd (omega (arith, same, out (omega (arith, same)))))
