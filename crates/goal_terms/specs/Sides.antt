-- The excesses of the two brokers of an action, before and after it.
use Rattle.std.specs.Prelude.{ℕ, ◌+◌, ◌-◌}
use Rattle.plan_terms.specs.Cluster.{Cluster, Lists}
use Rattle.plan_terms.specs.declared.actions.Action.{Action}
use Rattle.goal_terms.specs.Quantity.{Weights, quantity, total, trade}
use Rattle.goal_terms.specs.PerBroker.{Bounds, bound_excess, unit_brokers, at_id}
use Rattle.goal_terms.specs.declared.trade.Sides.{Sides}
use Rattle.goal_terms.specs.declared.trade.Trade.{Trade}

-- the excess that the broker of the id has where it carries q, or 0 where it is no unit
abbrev pub excess_with : Weights → Bounds → Cluster → Lists → ℕ → ℕ → ℕ
excess_with w b c lists k q = at_id (bound_excess b (total w c.parts lists) q) (unit_brokers c.brokers) k

-- the excesses of the two brokers of a trade
abbrev pub trade_sides : Weights → Bounds → Cluster → Lists → Trade → Sides
trade_sides w b c lists t = record {
  giver = excess_with w b c lists t.from (quantity w c.parts t.from lists);
  giver_after = excess_with w b c lists t.from (quantity w c.parts t.from lists + t.back - t.out);
  taker = excess_with w b c lists t.to (quantity w c.parts t.to lists);
  taker_after = excess_with w b c lists t.to (quantity w c.parts t.to lists + t.out - t.back);
}

-- the excesses of the two brokers of an action
unfoldable pub sides : Weights → Bounds → Cluster → Lists → Action → Sides
sides w b c lists a = trade_sides w b c lists (trade w c.parts lists a)
