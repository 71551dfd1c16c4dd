-- Turns that can be made on the lists.
use Rattle.std.specs.Prelude.{IsTrue, List, [], ◌∷◌}
use Rattle.plan_terms.specs.Cluster.{Cluster, Lists}
use Rattle.plan_terms.specs.Effect.{after, after_all}
use Rattle.plan_terms.specs.Legal.{is_legal}
use Rattle.plan_terms.specs.declared.actions.Action.{Action}

-- each action is legal on the lists where it stands
unfoldable pub AreLegal : Cluster → Lists → List Action → Type 0
AreLegal c lists [] = Unit {0}
AreLegal c lists (a ∷ as') = IsTrue (is_legal c lists a) × AreLegal c (after a lists) as'

-- so is each action of some turns, one after another
unfoldable pub AreLegalTurns : Cluster → Lists → List (List Action) → Type 0
AreLegalTurns c lists [] = Unit {0}
AreLegalTurns c lists (t ∷ ts) = AreLegal c lists t × AreLegalTurns c (after_all t lists) ts
