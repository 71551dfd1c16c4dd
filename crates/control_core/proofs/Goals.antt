-- The goal that a failure is of.
use Rattle.std.proofs.Common.{◌≡◌, ◌∙◌, List, [], ◌∷◌, ◌++◌, refl, sym, ap}
use Rattle.std.specs.Prelude.{Option, Some, None}
use Rattle.std.specs.List.{last_or}
use Rattle.goal_set.specs.Kept.{FailureView, kinds_of}
use Rattle.goal_set.specs.declared.kinds.GoalKind.{GoalKind}
use Rattle.core_terms.specs.Plans.{last_goal, goal_failed}

-- the last item
last_snoc : {X : Type 0} (o : Option X) (xs : List X) (x : X) → last_or o (xs ++ x ∷ []) ≡ Some x
last_snoc o [] x = refl
last_snoc o (y ∷ ys) x = last_snoc (Some y) ys x

pub goal_is : (f : FailureView) (k : GoalKind) → ((met : List GoalKind) × (kinds_of f.trace ≡ met ++ k ∷ [])) → k ≡ goal_failed f
goal_is f k h = sym (ap last_goal (ap (last_or None) h.1 ∙ last_snoc None h.0 k))
