-- Workers make no fixes: only the detector's requests do.
use Rattle.std.specs.Prelude.{◌≡◌, ℕ, false, List}
use Rattle.std.specs.List.{AllByRecursion}
use Rattle.cluster_json.specs.File.{Meaning}
use Rattle.core_terms.specs.declared.events.Event.{Event}
use Rattle.rest_session.specs.Heals.{is_heal}
use Rattle.live_service.specs.Workers.{IsMover, IsPlanner, Mover, Planner}

-- none of these entries with their places is a fix
abbrev pub HasNoFixAt : List (ℕ × Event) → Type 0
HasNoFixAt mine = AllByRecursion (λ p. is_heal p.1 ≡ false) mine

-- a mover's entries have none
abbrev pub MoversHealNothing : Type 0
MoversHealNothing = (file : Meaning) (m : Mover) → IsMover file m → HasNoFixAt m.back.mine

-- nor have a planner's
abbrev pub PlannersHealNothing : Type 0
PlannersHealNothing = (file : Meaning) (p : Planner) → IsPlanner file p → HasNoFixAt p.back.mine
