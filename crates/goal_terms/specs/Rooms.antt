-- How much a broker may give and take and lie no farther outside its bounds than it does.
use Rattle.std.specs.Prelude.{ℕ, ◌+◌, ◌-◌, ◌*◌, ◌/◌, ◌≤◌, ◌==◌, ◌↔◌, IsTrue, min, List, [], ◌∷◌, if◌then◌else◌}
use Rattle.plan_terms.specs.Cluster.{Cluster, Lists}
use Rattle.plan_terms.specs.Fits.{fits}
use Rattle.plan_terms.specs.Goal.{Meaning, Accepts}
use Rattle.plan_terms.specs.declared.actions.Action.{Action}
use Rattle.plan_terms.specs.declared.cluster.Broker.{Broker}
use Rattle.plan_terms.specs.declared.cluster.Part.{Part}
use Rattle.goal_terms.specs.PerBroker.{Bounds, unit_brokers}
use Rattle.goal_terms.specs.Quantity.{Weights, quantity, total, trade}
use Rattle.goal_terms.specs.declared.room.Room.{Room}
use Rattle.goal_terms.specs.declared.trade.Trade.{Trade}

-- no weight is greater
abbrev pub no_limit : ℕ
no_limit = 18446744073709551615

-- so much of the quantity changes a scaled quantity by n at most: anything where the scale is 0
abbrev pub unscaled : ℕ → ℕ → ℕ
unscaled scale n = if scale == 0 then no_limit else min (n / scale) no_limit

-- what a broker may give whose scaled quantity is x: as much as it lies above both bounds; and take: as much as it lies below them
abbrev pub room_between : ℕ → ℕ → ℕ → ℕ → Room
room_between scale low high x = record {
  give = unscaled scale ((x - low) + (x - high));
  take = unscaled scale ((high - x) + (low - x));
}

-- the room of a broker that carries q, where all carry w
unfoldable pub bound_room : Bounds → ℕ → ℕ → Broker → Room
bound_room b w q x = room_between b.scale (b.lower w x) (b.upper w x) (q * b.scale)

-- the room of a broker that may give and take anything
abbrev pub free : Room
free = record { give = no_limit; take = no_limit }

-- f of the first of the brokers that has the id, or no limit
abbrev pub room_at_id : (Broker → Room) → List Broker → ℕ → Room
room_at_id f [] k = free
room_at_id f (x ∷ xs) k = if x.id == k then f x else room_at_id f xs k

-- the room of the broker of the id: no limit where it is lost or unknown
abbrev pub broker_room : Weights → Bounds → Cluster → Lists → ℕ → Room
broker_room w b c lists k = room_at_id (bound_room b (total w c.parts lists) (quantity w c.parts k lists)) (unit_brokers c.brokers) k

-- a broker that gives out and gets back stays in its room
pub record StaysIn (room : Room) (out back : ℕ) : Type 0 where
  pub gives : out ≤ room.give + back
  pub takes : back ≤ room.take + out

-- both brokers of a trade stay in their rooms
pub record InRooms (room : ℕ → Room) (t : Trade) : Type 0 where
  pub giver : StaysIn (room t.from) t.out t.back
  pub taker : StaysIn (room t.to) t.back t.out

-- the goal accepts an action exactly where its two brokers stay in their rooms
pub record RoomsDecide (g : Meaning) (room : ℕ → Room) (parts : List Part) (lists : Lists) (w : Weights) : Type 0 where
  pub accepts : (a : Action) → IsTrue (fits lists a) → InRooms room (trade w parts lists a) ↔ Accepts g lists a
