-- What the earlier goals with quantities say of a move, in numbers.
use Rattle.std.specs.Prelude.{◌≡◌, ℕ, Bool, true, false, not, ◌&&◌, ◌||◌, ◌==◌, ◌≤◌, nat_lt, if◌then◌else◌, List, Option, Some, None, map}
use Rattle.plan_terms.specs.Cluster.{Lists}
use Rattle.plan_terms.specs.declared.actions.Action.{Action}
use Rattle.plan_terms.specs.declared.cluster.Part.{Part}
use Rattle.goal_terms.specs.Quantity.{Weights, part_weight, total, trade}
use Rattle.goal_terms.specs.Rooms.{free, StaysIn}
use Rattle.goal_terms.specs.declared.heat.Heat.{Heat}
use Rattle.goal_terms.specs.declared.heat.Heat.TheVariants as heat
use Rattle.goal_terms.specs.declared.room.Room.{Room}

-- what a place of the p-th partition carries for a goal: nothing where it has no quantity
abbrev pub look_weight : Option Weights → List Part → ℕ → Bool → ℕ
look_weight None parts p first = 0
look_weight (Some w) parts p first = part_weight w parts p first

-- what all brokers carry together for a goal: nothing where it has no quantity
abbrev pub look_whole : Option Weights → List Part → Lists → ℕ
look_whole None parts lists = 0
look_whole (Some w) parts lists = total w parts lists

-- the room of a broker for a goal: no limit where it has no quantity
abbrev pub look_room : Option Weights → Room → Room
look_room None r = free
look_room (Some w) r = r

-- the giver may give the weight, and the taker take it
pub record Passes (weight : ℕ) (giver taker : Room) : Type 0 where
  pub gives : weight ≤ giver.give
  pub takes : weight ≤ taker.take

-- what is kept of one partition for the earlier goals: what its first place weighs, and each other one
pub record IsWeighed {X : Type 0} (weighs : X → Option Weights) (earlier : List X) (parts : List Part) (p : ℕ) (lead follow : List ℕ) : Type 0 where
  pub leads : lead ≡ map (λ x. look_weight (weighs x) parts p true) earlier
  pub follows : follow ≡ map (λ x. look_weight (weighs x) parts p false) earlier

abbrev pub is_cold : Heat → Bool
is_cold heat.Cold = true
is_cold heat.Above = false
is_cold heat.Below = false
is_cold heat.Other = false

abbrev pub is_above : Heat → Bool
is_above heat.Cold = false
is_above heat.Above = true
is_above heat.Below = false
is_above heat.Other = false

abbrev pub is_below : Heat → Bool
is_below heat.Cold = false
is_below heat.Above = false
is_below heat.Below = true
is_below heat.Other = false

-- a move of that weight can help the goal: where it has a quantity, something goes, and from a broker that is above or to one
-- that is below; elsewhere one of the two is not cold
abbrev pub may_help : Option ℕ → Heat → Heat → Bool
may_help None source target = not (is_cold source && is_cold target)
may_help (Some n) source target = not (n == 0) && (is_above source || is_below target)

-- the goal has a quantity, and nothing of it goes
abbrev pub weighs_nothing : Option ℕ → Bool
weighs_nothing None = false
weighs_nothing (Some n) = n == 0

-- where the goal has a quantity and the source doesn't lie above its bounds, a move can help only a broker that lies below its own
abbrev pub helps_below_alone : {X : Type 0} → Option X → Heat → Bool
helps_below_alone None source = false
helps_below_alone (Some n) source = not (is_above source)

-- a swap with a broker whose replicas are not looked at yet can help the goal: where it has a quantity, one of the two brokers lies
-- outside its bounds; elsewhere one of the two is not cold
abbrev pub may_meet : Option ℕ → Heat → Heat → Bool
may_meet None source target = not (is_cold source && is_cold target)
may_meet (Some n) source target = (is_above source || is_below source) || (is_above target || is_below target)

-- a swap of these weights can help the goal: where it has a quantity, the weights differ, and the broker that gives the greater is
-- above or the other one below; elsewhere one of the two is not cold
abbrev pub may_swap : Option ℕ → Option ℕ → Heat → Heat → Bool
may_swap None back source target = not (is_cold source && is_cold target)
may_swap (Some m) None source target = not (is_cold source && is_cold target)
may_swap (Some m) (Some n) source target =
    if nat_lt n m then is_above source || is_below target else nat_lt m n && (is_above target || is_below source)

-- the goal has a quantity, and as much of it comes back as goes
abbrev pub trades_nothing : Option ℕ → Option ℕ → Bool
trades_nothing None back = false
trades_nothing (Some m) None = false
trades_nothing (Some m) (Some n) = m == n

-- what the giver of an action gives for a goal, and what it gets back: nothing where the goal has no quantity
abbrev pub look_out : Option Weights → List Part → Lists → Action → ℕ
look_out None parts lists a = 0
look_out (Some w) parts lists a = (trade w parts lists a).out

abbrev pub look_back : Option Weights → List Part → Lists → Action → ℕ
look_back None parts lists a = 0
look_back (Some w) parts lists a = (trade w parts lists a).back

-- both brokers stay in their rooms
pub record BothStay (out back : ℕ) (giver taker : Room) : Type 0 where
  pub gives : StaysIn giver out back
  pub takes : StaysIn taker back out
