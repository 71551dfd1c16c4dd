-- The lists that are kept beside the tasks.
use Rattle.std.proofs.Common.{◌≡◌, ℕ, ◌+◌, ◌<◌, Bool, true, false, cond, List, [], ◌∷◌, map, set, length, get_or, refl, sym, ap, ◌∙◌}
use Rattle.std.proofs.lemmas.List.{map-set, set-get_or, get_or-map}
use Rattle.exec_terms.specs.declared.task.Task.{Task}
use Rattle.exec_terms.specs.Words.{union_of}
use Rattle.std.specs.Prelude.{None, nat_lt}
use Rattle.exec_terms.specs.declared.phase.Phase.TheVariants.{Aborting}
use Rattle.exec_terms.specs.Leases.{one_failed}

-- a task that keeps its lists keeps its union
pub unions-set : (xs : List Task) (us : List (List ℕ)) (i : ℕ) (x y : Task) → i < length xs → x ≡ get_or xs i x → y.before ≡ x.before → y.after ≡ x.after
    → us ≡ map union_of xs → us ≡ map union_of (set xs i y)
unions-set xs us i x y l read b a e =
    let same : union_of y ≡ get_or (map union_of xs) i [] = rw (b, a) (ap union_of read ∙ sym (get_or-map union_of xs i x [] l)) in
    e ∙ sym (map-set union_of xs i y ∙ ap (λ (z : List ℕ). set (map union_of xs) i z) same ∙ set-get_or (map union_of xs) i [])

pub unions-map : (f : Task → Task) (xs : List Task) → ((t : Task) → ((f t).before ≡ t.before) × ((f t).after ≡ t.after)) → map union_of (map f xs) ≡ map union_of xs
unions-map f [] h = refl
unions-map f (x ∷ xs) h = rw (unions-map f xs h, (h x).0, (h x).1) refl

-- the list kept beside task i
pub unions-at : (xs : List Task) (us : List (List ℕ)) (i : ℕ) (x : Task) (u d : List ℕ) → us ≡ map union_of xs → i < length xs → x ≡ get_or xs i x → u ≡ get_or us i d → u ≡ union_of x
unions-at xs us i x u d e l read is = is ∙ ap (λ (ys : List (List ℕ)). get_or ys i d) e ∙ get_or-map union_of xs i x d l ∙ ap union_of (sym read)

pub failed_lists : (x y : Task) → y ≡ one_failed x → (y.before ≡ x.before) × (y.after ≡ x.after)
failed_lists x y e = rw e (by (nat_lt (x.faults + 1) 3)) where
  by : (c : Bool) → ((cond c (record x { faults = x.faults + 1; lease = None }) (record x { faults = x.faults + 1; phase = Aborting; doomed = true; lease = None })).before ≡ x.before)
      × ((cond c (record x { faults = x.faults + 1; lease = None }) (record x { faults = x.faults + 1; phase = Aborting; doomed = true; lease = None })).after ≡ x.after)
  by true = (refl, refl)
  by false = (refl, refl)
