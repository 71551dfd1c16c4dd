-- The counts of tasks in flight, where tasks change.
use Rattle.std.proofs.Common.{◌≡◌, ℕ, ◌+◌, ◌<◌, ◌≤◌, Bool, true, false, ◌&&◌, cond, List, [], ◌∷◌, map, set, length, get_or, arith, refl, sym, ap, ◌∙◌}
use Rattle.std.specs.Prelude.{None}
use Rattle.std.specs.List.{count_by}
use Rattle.std.proofs.lemmas.Bool.{and_left}
use Rattle.std.proofs.lemmas.List.Sums.{sum_by-set, sum_by-cons, count_by-le-length}
use Rattle.exec_terms.specs.declared.phase.Phase.{Phase}
use Rattle.exec_terms.specs.declared.phase.Phase.TheVariants.{Pending, InProgress, Aborting, Aborted, Completed, Dead}
use Rattle.exec_terms.specs.declared.task.Task.{Task}
use Rattle.exec_terms.specs.Words.{in_flight, is_unfinished}
use Rattle.exec_terms.proofs.Calm.{SameLists}
use Rattle.exec_terms.proofs.Counts.{count_by_none, count_by_some}
use Rattle.exec_terms.proofs.WorkLeft.{position-None}
use Rattle.std.specs.List.{position}

-- how many tasks in flight have lists that pass
abbrev pub flying : (List ℕ → List ℕ → Bool) → List Task → ℕ
flying P tasks = count_by (λ t. in_flight t.phase && P t.before t.after) tasks

abbrev one : Bool → ℕ
one b = cond b 1 0

module _ (P : List ℕ → List ℕ → Bool) where
  abbrev flies : Task → Bool
  flies t = in_flight t.phase && P t.before t.after

  -- one task changes
  changed : (xs : List Task) (i : ℕ) (x y : Task) → i < length xs → x ≡ get_or xs i x → flying P (set xs i y) + one (flies x) ≡ flying P xs + one (flies y)
  changed xs i x y l read =
      let h = sum_by-set (λ (t : Task). one (flies t)) xs i y x l in
      let here : one (flies (get_or xs i x)) ≡ one (flies x) = ap (λ (t : Task). one (flies t)) (sym read) in
      omega (arith, h, here)

  same_lists : (x y : Task) → SameLists x y → P y.before y.after ≡ P x.before x.after
  same_lists x y s = ap (λ (b : List ℕ). P b y.after) s.before ∙ ap (λ (a : List ℕ). P x.before a) s.after

  -- it is in flight as before
  pub flying-same : (xs : List Task) (i : ℕ) (x y : Task) → i < length xs → x ≡ get_or xs i x → SameLists x y → in_flight y.phase ≡ in_flight x.phase → flying P (set xs i y) ≡ flying P xs
  flying-same xs i x y l read s f =
      let e : one (flies y) ≡ one (flies x) = ap (λ (b : Bool). one (b && P y.before y.after)) f ∙ ap (λ (b : Bool). one (in_flight x.phase && b)) (same_lists x y s) in
      omega (arith, changed xs i x y l read, e)

  -- it enters
  pub flying-enter : (xs : List Task) (i : ℕ) (x y : Task) → i < length xs → x ≡ get_or xs i x → SameLists x y → in_flight x.phase ≡ false → in_flight y.phase ≡ true
      → flying P (set xs i y) ≡ flying P xs + one (P x.before x.after)
  flying-enter xs i x y l read s out up =
      let e : one (flies y) ≡ one (P x.before x.after) = ap (λ (b : Bool). one (b && P y.before y.after)) up ∙ ap one (same_lists x y s) in
      let f : one (flies x) ≡ 0 = ap (λ (b : Bool). one (b && P x.before x.after)) out in
      omega (arith, changed xs i x y l read, e, f)

  -- it leaves
  pub flying-leave : (xs : List Task) (i : ℕ) (x y : Task) → i < length xs → x ≡ get_or xs i x → in_flight x.phase ≡ true → in_flight y.phase ≡ false
      → flying P xs ≡ flying P (set xs i y) + one (P x.before x.after)
  flying-leave xs i x y l read up out =
      let e : one (flies x) ≡ one (P x.before x.after) = ap (λ (b : Bool). one (b && P x.before x.after)) up in
      let f : one (flies y) ≡ 0 = ap (λ (b : Bool). one (b && P y.before y.after)) out in
      omega (arith, changed xs i x y l read, e, f)

  -- every task changes, and is in flight as before
  pub flying-map : (g : Task → Task) → ((t : Task) → SameLists t (g t)) → ((t : Task) → in_flight (g t).phase ≡ in_flight t.phase) → (xs : List Task) → flying P (map g xs) ≡ flying P xs
  flying-map g s f [] = refl
  flying-map g s f (x ∷ xs) =
      let e : one (flies (g x)) ≡ one (flies x) = ap (λ (b : Bool). one (b && P (g x).before (g x).after)) (f x) ∙ ap (λ (b : Bool). one (in_flight x.phase && b)) (same_lists x (g x) (s x)) in
      omega (arith, sum_by-cons (λ (t : Task). one (flies t)) (g x) (map g xs), sum_by-cons (λ (t : Task). one (flies t)) x xs, e, flying-map g s f xs)

  -- a task in flight whose lists pass is counted
  pub flying-some : (xs : List Task) (i : ℕ) (x : Task) → i < length xs → x ≡ get_or xs i x → in_flight x.phase ≡ true → P x.before x.after ≡ true → 1 ≤ flying P xs
  flying-some xs i x l read up p =
      let here : flies x ≡ true = ap (λ (b : Bool). b && P x.before x.after) up ∙ p in
      count_by_some flies xs i x l (ap flies (sym read) ∙ here)

  pub flying-few : (xs : List Task) → flying P xs ≤ length xs
  flying-few xs = count_by-le-length flies xs

  -- where no task is unfinished, none is in flight
  pub flying-none : (xs : List Task) → position (λ t. is_unfinished t.phase) xs ≡ None → flying P xs ≡ 0
  flying-none xs none = count_by_none flies xs (λ k d l. and_left (in_flight (get_or xs k d).phase) _ (grounded (get_or xs k d).phase (position-None (λ t. is_unfinished t.phase) xs k d none l))) where
    grounded : (p : Phase) → is_unfinished p ≡ false → in_flight p ≡ false
    grounded Pending h = refl
    grounded InProgress h = h
    grounded Aborting h = h
    grounded Aborted h = refl
    grounded Completed h = refl
    grounded Dead h = refl
