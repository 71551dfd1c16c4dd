-- Where fixes come from: a fix is an event that the anomaly detector asks.
use Rattle.std.specs.Prelude.{◌≡◌, ℕ, Bool, true, false, List, Ok}
use Rattle.std.specs.List.{AllByRecursion}
use Rattle.core_terms.specs.declared.events.Event.{Event}
use Rattle.core_terms.specs.declared.events.Event.TheVariants as event
use Rattle.mover_rounds.specs.Asked.{Entry, Rules}
use Rattle.mover_rounds.specs.Rounds.{IsRound, Standing}
use Rattle.rest_parse.specs.Calls.{meaning}
use Rattle.rest_parse.specs.declared.calls.Call.TheVariants as call
use Rattle.rest_session.specs.Heard.{SiteView}
use Rattle.rest_session.specs.Pieces.{IsPiece, Piece}

-- a fix
abbrev pub is_heal : Event → Bool
is_heal (event.Heal cause ask) = true
is_heal _ = false

-- none of these entries is one
abbrev pub HasNoFix : List Entry → Type 0
HasNoFix made = AllByRecursion (λ x. is_heal x.event ≡ false) made

-- the entries of a request that asks nothing of the detector have none
abbrev pub OnlyDetectsHeal : Type 0
OnlyDetectsHeal = (site : SiteView) (rules : Rules) (seen : List Event) (p : Piece) → IsPiece (record { reviews = false; site = site }) rules seen p → ((now alert heal : ℕ) → meaning p.raw ≡ Ok (call.Detect now alert heal) → ⊥) → HasNoFix p.made

-- nor have those of a round
abbrev pub RoundsHealNothing : Type 0
RoundsHealNothing = (rules : Rules) (seen : List Event) (s : Standing) (made : List Entry) → IsRound rules seen s made → HasNoFix made
