-- The measures of the goals over brokers are small.
use Rattle.std.proofs.Common.{ℕ, ◌<◌, ◌^◌, Bool, true, false, List, length, get_or, arith, inl, inr}
use Rattle.std.specs.List.{All}
use Rattle.std.proofs.lemmas.Bool.{cases_lt}
use Rattle.std.proofs.lemmas.List.{get_or_past}
use Rattle.plan_terms.specs.Belongs.{Belongs}
use Rattle.plan_terms.specs.Cluster.{Cluster, Lists}
use Rattle.plan_terms.specs.Faults.{IsCase}
use Rattle.plan_terms.specs.Fraction.{Fraction, IsRatio}
use Rattle.plan_terms.specs.Goal.{measure}
use Rattle.plan_terms.specs.declared.cluster.Part.{Part}
use Rattle.goal_terms.specs.Bands.{units_of, at_most, within_capacity, even, near_use, below_use, whole_cap}
use Rattle.goal_terms.specs.Goals.{ratio_at, AreRatios}
use Rattle.goal_terms.specs.Limits.{SmallLoads, SmallWeights, SmallBounds}
use Rattle.goal_terms.specs.Laws.{GoalMeasures}
use Rattle.goal_terms.specs.PerBroker.{Bounds, per_broker}
use Rattle.goal_terms.specs.Quantity.{Weights, replica_weights, leader_weights, load_weights, potential_out_weights, leader_in_weights}
use Rattle.goal_terms.proofs.BandLemmas.{at_most-small, within_capacity-small, even-small, near_use-small, below_use-small}
use Rattle.goal_terms.proofs.BoundLemmas.{per_broker-fits_120_bits, replica-small, leader-small, load-small, potential_out-small, leader_in-small}
use Rattle.goal_terms.proofs.CaseLemmas.{Limits-case}
use Rattle.goal_terms.proofs.TopicGoalLemmas.{topic-fits_120_bits}

-- each resource's threshold is in range
pub ratio-at : (ratios : List Fraction) (r : ℕ) → All (λ f. IsRatio f.num f.den) ratios → IsRatio (ratio_at ratios r).num (ratio_at ratios r).den
ratio-at ratios r h = elim (cases_lt r (length ratios)) as (λ _. IsRatio (ratio_at ratios r).num (ratio_at ratios r).den) [
  | inl l ↦ h r (record { num = 0; den = 1 }) l
  | inr g ↦ rw (get_or_past ratios r (record { num = 0; den = 1 }) g) (record { small = omega arith; some = omega arith; few = omega arith })
]

-- the measure of each goal is below 2^120
pub measures-small : (c : Cluster) (lists : Lists) → IsCase c → AreRatios c.options → Belongs c lists → GoalMeasures c lists
measures-small c lists case ratios belongs = record {
  replica_capacity = fits replica_weights (λ p h. replica-small p) true (at_most c.options.max_replicas) (at_most-small c.options.max_replicas);
  capacity = λ r. fits (load_weights r) (λ p h. load-small r p h) true (within_capacity (ratio_at c.options.limit r) r) (within_capacity-small (ratio_at c.options.limit r) r (ratio-at c.options.limit r ratios.limits));
  replica_distribution = fits replica_weights (λ p h. replica-small p) false (even c.options.replica_balance (units_of c)) (even-small c.options.replica_balance (units_of c) ratios.replicas);
  potential_out = fits potential_out_weights (λ p h. potential_out-small p h) false (within_capacity (ratio_at c.options.limit 2) 2) (within_capacity-small (ratio_at c.options.limit 2) 2 (ratio-at c.options.limit 2 ratios.limits));
  usage_distribution = λ r. fits (load_weights r) (λ p h. load-small r p h) false (near_use (ratio_at c.options.balance r) r (whole_cap r c)) (near_use-small (ratio_at c.options.balance r) r c (ratio-at c.options.balance r ratios.balances) (Limits-case c case));
  topic_distribution = topic-fits_120_bits false c.options.topic_balance c lists ratios.topic (Limits-case c case) belongs;
  leader_distribution = fits leader_weights (λ p h. leader-small p) false (even c.options.leader_balance (units_of c)) (even-small c.options.leader_balance (units_of c) ratios.leads);
  leader_in = fits leader_in_weights (λ p h. leader_in-small p h) false (below_use (ratio_at c.options.balance 1) 1 (whole_cap 1 c)) (below_use-small (ratio_at c.options.balance 1) 1 c (ratio-at c.options.balance 1 ratios.balances) (Limits-case c case));
} where
  fits : (w : Weights) → ((p : Part) → SmallLoads p → SmallWeights w p) → (hard : Bool) (b : Bounds) → SmallBounds b → measure (per_broker hard w b c) lists < 2 ^ 120
  fits w small hard b bounds =
      let limits = Limits-case c case in
      per_broker-fits_120_bits w c lists limits (λ k d l. small (get_or c.parts k d) (limits.loads k d l)) belongs hard b bounds
