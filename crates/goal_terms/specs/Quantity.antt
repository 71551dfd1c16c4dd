-- Quantities of brokers: sums over the partitions of what each place of a broker carries.
use Rattle.std.specs.Prelude.{◌≡◌, ℕ, Bool, ◌+◌, ◌*◌, zero, suc, List, [], ◌∷◌, map, length, get_or, slice_index, bytes_eq, if◌then◌else◌}
use Rattle.plan_terms.specs.Cluster.{Lists, list_of, leads}
use Rattle.plan_terms.specs.Load.{sum_parts, list_load}
use Rattle.plan_terms.specs.declared.cluster.Part.{Part}
use Rattle.plan_terms.specs.declared.actions.Action.{Action}
use Rattle.plan_terms.specs.declared.actions.Action.TheVariants.{Move, Lead, Swap}
use Rattle.goal_terms.specs.declared.trade.Trade.{Trade}
use Rattle.plan_terms.specs.Resources.{NW_IN, NW_OUT}

-- what the first place of a partition's list carries, and each other place
pub record Weights : Type 0 where
  pub lead : Part → ℕ
  pub follow : Part → ℕ

-- what a place carries: the first one, or another one
abbrev pub weight_of : Weights → Part → Bool → ℕ
weight_of w p first = if first then w.lead p else w.follow p

-- what broker b carries in all
unfoldable pub quantity : Weights → List Part → ℕ → Lists → ℕ
quantity w parts b lists = sum_parts (λ p list. list_load (w.lead p) (w.follow p) b list) parts lists

-- what one list carries, by its length
abbrev pub list_whole : ℕ → ℕ → ℕ → ℕ
list_whole lead follow zero = 0
list_whole lead follow (suc n) = lead + follow * n

-- what all brokers carry together, by the lengths of the lists
abbrev pub whole : Weights → List Part → List ℕ → ℕ
whole w [] sizes = 0
whole w (p ∷ ps) [] = 0
whole w (p ∷ ps) (n ∷ sizes) = list_whole (w.lead p) (w.follow p) n + whole w ps sizes

-- what all brokers carry together, lost ones too; no action changes it
unfoldable pub total : Weights → List Part → Lists → ℕ
total w parts lists = whole w parts (map length lists)

-- each replica counts as 1
abbrev pub replica_weights : Weights
replica_weights = record { lead = λ _. 1; follow = λ _. 1 }

-- each leader counts as 1
abbrev pub leader_weights : Weights
leader_weights = record { lead = λ _. 1; follow = λ _. 0 }

-- the load of a resource
abbrev pub load_weights : ℕ → Weights
load_weights r = record { lead = λ p. slice_index p.loads.lead r; follow = λ p. slice_index p.loads.follow r }

-- the leader's NW_OUT at every place
abbrev pub potential_out_weights : Weights
potential_out_weights = record { lead = λ p. slice_index p.loads.lead NW_OUT; follow = λ p. slice_index p.loads.lead NW_OUT }

-- the leader's NW_IN at the first place
abbrev pub leader_in_weights : Weights
leader_in_weights = record { lead = λ p. slice_index p.loads.lead NW_IN; follow = λ _. 0 }

-- each replica of the topic counts as 1
abbrev pub topic_weights : List ℕ → Weights
topic_weights t = record { lead = λ p. if bytes_eq p.topic t then 1 else 0; follow = λ p. if bytes_eq p.topic t then 1 else 0 }

-- what a place of the p-th partition carries: the first one, or another one
abbrev pub part_weight : Weights → List Part → ℕ → Bool → ℕ
part_weight w parts p first = if first then get_or (map w.lead parts) p 0 else get_or (map w.follow parts) p 0

-- what an action does to a quantity: a move takes the weight of its place along, a lead exchanges the two weights of its
-- partition, and a swap the weights of its two places
abbrev pub trade : Weights → List Part → Lists → Action → Trade
trade w parts lists (Move p a b) =
    record { from = a; to = b; out = part_weight w parts p (leads (list_of lists p) a); back = 0 }
trade w parts lists (Lead p b) =
    record { from = get_or (list_of lists p) 0 0; to = b; out = get_or (map w.lead parts) p 0; back = get_or (map w.follow parts) p 0 }
trade w parts lists (Swap p a q b) =
    record { from = a; to = b; out = part_weight w parts p (leads (list_of lists p) a); back = part_weight w parts q (leads (list_of lists q) b) }

-- one broker gives and another takes, and all others keep what they have
pub record Trades (t : Trade) (before later : ℕ → ℕ) : Type 0 where
  pub apart : t.from ≡ t.to → ⊥
  pub giver : later t.from + t.out ≡ before t.from + t.back
  pub taker : later t.to + t.back ≡ before t.to + t.out
  pub others : (k : ℕ) → (k ≡ t.from → ⊥) → (k ≡ t.to → ⊥) → later k ≡ before k
