-- Goals over brokers keep the laws of pairs, and hints that leave nothing out keep them for any goal.
use Rattle.std.proofs.Common.{◌≡◌, Bool, true, false, List, refl, ◌∙◌, sym, ap}
use Rattle.std.proofs.lemmas.Bool.{false≢true}
use Rattle.plan_terms.specs.Cluster.{Cluster, Lists}
use Rattle.goal_terms.specs.Limits.{Limits}
use Rattle.plan_terms.specs.Belongs.{Belongs}
use Rattle.plan_terms.specs.Goal.{Meaning}
use Rattle.goal_terms.specs.Quantity.{Weights, trade}
use Rattle.goal_terms.specs.PerBroker.{Bounds, per_broker}
use Rattle.goal_terms.specs.Heats.{broker_heat}
use Rattle.goal_terms.specs.Pairs.{giver, taker, touches, ColdPairs, IdleTrades, StillParts}
use Rattle.goal_terms.proofs.HeatLemmas.{cold-pair, equal-trade, rising-trade, falling-trade}
use Rattle.goal_terms.specs.declared.heat.Heat.TheVariants.{Other}
use Rattle.plan_terms.specs.declared.cluster.Part.{Part}
use Rattle.plan_terms.specs.declared.actions.Action.{Action}
use Rattle.plan_terms.specs.declared.actions.Action.TheVariants.{Move, Lead, Swap}

-- the broker that gives is the action's giver
pub trade-from : (w : Weights) (ps : List Part) (lists : Lists) (a : Action) → (trade w ps lists a).from ≡ giver lists a
trade-from w ps lists (Move p a b) = refl
trade-from w ps lists (Lead p b) = refl
trade-from w ps lists (Swap p a q b) = refl

-- and the one that takes its taker
pub trade-to : (w : Weights) (ps : List Part) (lists : Lists) (a : Action) → (trade w ps lists a).to ≡ taker a
trade-to w ps lists (Move p a b) = refl
trade-to w ps lists (Lead p b) = refl
trade-to w ps lists (Swap p a q b) = refl

module _ (hard : Bool) (w : Weights) (b : Bounds) (c : Cluster) (lists : Lists) (limits : Limits c) (fits : Belongs c lists) where
  -- an action of two cold brokers lessens no goal over brokers
  pub broker-cold_pairs : ColdPairs (per_broker hard w b c) (broker_heat w b c lists) lists
  broker-cold_pairs = record {
    none = λ a fit h i. cold-pair hard w b c lists limits.ids fits.one_each a fit
        (ap (broker_heat w b c lists) (trade-from w c.parts lists a) ∙ h)
        (ap (broker_heat w b c lists) (trade-to w c.parts lists a) ∙ i);
  }

  -- nor does a trade that cannot help
  pub broker-idle_trades : IdleTrades (per_broker hard w b c) (broker_heat w b c lists) c.parts lists w
  broker-idle_trades = record {
    equal = λ a fit. equal-trade hard w b c lists limits.ids fits.one_each a fit;
    rising = λ a fit h i. rising-trade hard w b c lists limits.ids fits.one_each a fit
        (λ e. h (ap (broker_heat w b c lists) (sym (trade-from w c.parts lists a)) ∙ e))
        (λ e. i (ap (broker_heat w b c lists) (sym (trade-to w c.parts lists a)) ∙ e));
    falling = λ a fit h i. falling-trade hard w b c lists limits.ids fits.one_each a fit
        (λ e. h (ap (broker_heat w b c lists) (sym (trade-from w c.parts lists a)) ∙ e))
        (λ e. i (ap (broker_heat w b c lists) (sym (trade-to w c.parts lists a)) ∙ e));
  }

-- where no broker is cold, no pair is left out
pub hot-cold_pairs : (g : Meaning) (lists : Lists) → ColdPairs g (λ _. Other) lists
hot-cold_pairs g lists = record { none = λ a fit h i less. absurd cc }

touches-some : (a : Action) → touches (λ _. true) a ≡ false → ⊥
touches-some (Move p a b) e = false≢true (sym e)
touches-some (Lead p b) e = false≢true (sym e)
touches-some (Swap p a q b) e = false≢true (sym e)

-- and where each partition stirs, none is
pub stirred-still_parts : (g : Meaning) (lists : Lists) → StillParts g (λ _. true) lists
stirred-still_parts g lists = record { none = λ a fit still less. touches-some a still }
