-- How many tasks have not ended, where tasks change.
use Rattle.std.proofs.Common.{◌≡◌, ℕ, ◌+◌, ◌<◌, ◌≤◌, Bool, true, false, ◌&&◌, ◌||◌, cond, List, [], ◌∷◌, map, set, length, get_or, arith, refl, sym, ap, ◌∙◌}
use Rattle.std.specs.Prelude.{nat_lt}
use Rattle.std.specs.List.{count_by}
use Rattle.std.proofs.lemmas.Bool.{lt-ltb}
use Rattle.std.proofs.lemmas.List.Sums.{sum_by-set, sum_by-cons}
use Rattle.plan_terms.specs.declared.lists.Proposal.{Proposal}
use Rattle.exec_terms.specs.declared.phase.Phase.{Phase}
use Rattle.exec_terms.specs.declared.phase.Phase.TheVariants.{Pending, InProgress, Aborting, Aborted, Completed, Dead}
use Rattle.exec_terms.specs.declared.task.Task.{Task}
use Rattle.exec_terms.specs.Words.{is_pending, in_flight, is_unfinished, needs}
use Rattle.exec_terms.specs.Machine.{task_of, any_unfinished}
use Rattle.exec_terms.specs.Stops.{phase_stopped, stopped_by, phase_killed, killed_by}
use Rattle.exec_terms.proofs.Counts.{count_by_some}
use Rattle.executor_core.specs.Kept.{unfinished_tasks}

abbrev one : Bool → ℕ
one b = cond b 1 0

-- one task changes
changed : (xs : List Task) (i : ℕ) (x y : Task) → i < length xs → x ≡ get_or xs i x → unfinished_tasks (set xs i y) + one (is_unfinished x.phase) ≡ unfinished_tasks xs + one (is_unfinished y.phase)
changed xs i x y l read =
    let h = sum_by-set (λ (t : Task). one (is_unfinished t.phase)) xs i y x l in
    let here : one (is_unfinished (get_or xs i x).phase) ≡ one (is_unfinished x.phase) = ap (λ (t : Task). one (is_unfinished t.phase)) (sym read) in
    omega (arith, h, here)

pub unfinished-same : (xs : List Task) (i : ℕ) (x y : Task) → i < length xs → x ≡ get_or xs i x → is_unfinished y.phase ≡ is_unfinished x.phase → unfinished_tasks (set xs i y) ≡ unfinished_tasks xs
unfinished-same xs i x y l read same =
    let e : one (is_unfinished y.phase) ≡ one (is_unfinished x.phase) = ap one same in
    omega (arith, changed xs i x y l read, e)

pub unfinished-ends : (xs : List Task) (i : ℕ) (x y : Task) → i < length xs → x ≡ get_or xs i x → is_unfinished x.phase ≡ true → is_unfinished y.phase ≡ false → unfinished_tasks xs ≡ unfinished_tasks (set xs i y) + 1
unfinished-ends xs i x y l read was is =
    let e : one (is_unfinished x.phase) ≡ 1 = ap one was in
    let f : one (is_unfinished y.phase) ≡ 0 = ap one is in
    omega (arith, changed xs i x y l read, e, f)

pub unfinished-some : (xs : List Task) (i : ℕ) (x : Task) → i < length xs → x ≡ get_or xs i x → is_unfinished x.phase ≡ true → 1 ≤ unfinished_tasks xs
unfinished-some xs i x l read was = count_by_some (λ (t : Task). is_unfinished t.phase) xs i x l (ap (λ (t : Task). is_unfinished t.phase) (sym read) ∙ was)

-- every task changes, and those that pass end
ends : (f : Task → Task) (q : Task → Bool) → ((t : Task) → one (is_unfinished (f t).phase) + one (q t) ≡ one (is_unfinished t.phase)) → (xs : List Task)
    → unfinished_tasks (map f xs) + count_by q xs ≡ unfinished_tasks xs
ends f q h [] = refl
ends f q h (x ∷ xs) =
    omega (
      arith,
      sum_by-cons (λ (t : Task). one (is_unfinished t.phase)) (f x) (map f xs),
      sum_by-cons (λ (t : Task). one (is_unfinished t.phase)) x xs,
      sum_by-cons (λ (t : Task). one (q t)) x xs,
      h x,
      ends f q h xs,
    )

stopped : (force : Bool) (p : Phase) → one (is_unfinished (phase_stopped force p)) + one (is_pending p) ≡ one (is_unfinished p)
stopped force Pending = refl
stopped true InProgress = refl
stopped false InProgress = refl
stopped force Aborting = refl
stopped force Aborted = refl
stopped force Completed = refl
stopped force Dead = refl

pub stopped-left : (force : Bool) (xs : List Task) → unfinished_tasks (map (stopped_by force) xs) + count_by (λ t. is_pending t.phase) xs ≡ unfinished_tasks xs
stopped-left force xs = ends (stopped_by force) (λ t. is_pending t.phase) (λ t. stopped force t.phase) xs

killed : (p : Phase) → one (is_unfinished (phase_killed p)) + one (is_pending p) ≡ one (is_unfinished p)
killed Pending = refl
killed InProgress = refl
killed Aborting = refl
killed Aborted = refl
killed Completed = refl
killed Dead = refl

killed_one : (b : ℕ) (t : Task) → one (is_unfinished (killed_by b t).phase) + one (needs t b && is_pending t.phase) ≡ one (is_unfinished t.phase)
killed_one b t = by (needs t b) where
  by : (c : Bool) → one (is_unfinished (cond c (record t { phase = phase_killed t.phase; doomed = t.doomed || in_flight t.phase }) t).phase) + one (c && is_pending t.phase) ≡ one (is_unfinished t.phase)
  by true = killed t.phase
  by false = omega arith

pub killed-left : (b : ℕ) (xs : List Task) → unfinished_tasks (map (killed_by b) xs) + count_by (λ t. needs t b && is_pending t.phase) xs ≡ unfinished_tasks xs
killed-left b xs = ends (killed_by b) (λ t. needs t b && is_pending t.phase) (killed_one b) xs

-- new tasks have not ended
pub unfinished-new : (chunks : List ℕ) (ps : List Proposal) → unfinished_tasks (map (task_of chunks) ps) ≡ length ps
unfinished-new chunks [] = refl
unfinished-new chunks (p ∷ ps) = omega (arith, sum_by-cons (λ (t : Task). one (is_unfinished t.phase)) (task_of chunks p) (map (task_of chunks) ps), unfinished-new chunks ps)

-- some task has not ended where their number is positive
pub any_left : (xs : List Task) → any_unfinished xs ≡ nat_lt 0 (unfinished_tasks xs)
any_left [] = refl
any_left (x ∷ xs) = by (is_unfinished x.phase) refl (any_left xs) where
  by : (c : Bool) → is_unfinished x.phase ≡ c → any_unfinished xs ≡ nat_lt 0 (unfinished_tasks xs) → (c || any_unfinished xs) ≡ nat_lt 0 (unfinished_tasks (x ∷ xs))
  by true e rest =
      let e' : one (is_unfinished x.phase) ≡ 1 = ap one e in
      sym (lt-ltb 0 (unfinished_tasks (x ∷ xs)) (omega (arith, sum_by-cons (λ (t : Task). one (is_unfinished t.phase)) x xs, e')))
  by false e rest =
      let e' : one (is_unfinished x.phase) ≡ 0 = ap one e in
      let same : unfinished_tasks (x ∷ xs) ≡ unfinished_tasks xs = omega (arith, sum_by-cons (λ (t : Task). one (is_unfinished t.phase)) x xs, e') in
      rest ∙ sym (ap (nat_lt 0) same)
