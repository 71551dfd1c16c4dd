-- What is added up of a broker: what each of its places carries, by whether it is the first of its list.
use Rattle.std.specs.Prelude.{ℕ, Bool, true, false, ◌<◌, List, length, map, get_or, slice_index, bytes_eq, if◌then◌else◌}
use Rattle.plan_terms.specs.Cluster.{Lists}
use Rattle.plan_terms.specs.Faults.{topics}
use Rattle.plan_terms.specs.Load.{list_load, sum_parts}
use Rattle.plan_terms.specs.declared.cluster.Part.{Part}
use Rattle.load_model.specs.Places.{topic_at}
use Rattle.load_model.specs.declared.amounts.Amount.{Amount}
use Rattle.load_model.specs.declared.amounts.Amount.TheVariants.{Load, Replicas, Leaders, PotentialOut, LeaderIn, OfTopic, LedInTopic}
use Rattle.plan_terms.specs.Resources.{NW_IN, NW_OUT}

-- the resource is one of the four, and the topic one of the topics
abbrev pub InRange : Amount → List Part → Type 0
InRange (Load r) parts = r < 4
InRange Replicas parts = Unit {0}
InRange Leaders parts = Unit {0}
InRange PotentialOut parts = Unit {0}
InRange LeaderIn parts = Unit {0}
InRange (OfTopic t) parts = t < length (topics parts)
InRange (LedInTopic t) parts = t < length (topics parts)

-- what the first place of a partition's list carries
abbrev pub lead_of : Amount → List Part → Part → ℕ
lead_of (Load r) parts p = slice_index p.loads.lead r
lead_of Replicas parts p = 1
lead_of Leaders parts p = 1
lead_of PotentialOut parts p = slice_index p.loads.lead NW_OUT
lead_of LeaderIn parts p = slice_index p.loads.lead NW_IN
lead_of (OfTopic t) parts p = if bytes_eq p.topic (topic_at parts t) then 1 else 0
lead_of (LedInTopic t) parts p = if bytes_eq p.topic (topic_at parts t) then 1 else 0

-- what each other place of it carries
abbrev pub follow_of : Amount → List Part → Part → ℕ
follow_of (Load r) parts p = slice_index p.loads.follow r
follow_of Replicas parts p = 1
follow_of Leaders parts p = 0
follow_of PotentialOut parts p = slice_index p.loads.lead NW_OUT
follow_of LeaderIn parts p = 0
follow_of (OfTopic t) parts p = if bytes_eq p.topic (topic_at parts t) then 1 else 0
follow_of (LedInTopic t) parts p = 0

-- the same of the partition at place i
abbrev pub lead_at : Amount → List Part → ℕ → ℕ
lead_at kind parts i = get_or (map (lead_of kind parts) parts) i 0

abbrev pub follow_at : Amount → List Part → ℕ → ℕ
follow_at kind parts i = get_or (map (follow_of kind parts) parts) i 0

-- what a partition's list puts on broker b
abbrev pub share : Amount → List Part → ℕ → Part → List ℕ → ℕ
share kind parts b p list = list_load (lead_of kind parts p) (follow_of kind parts p) b list

-- what broker b carries in all
unfoldable pub amount : Amount → List Part → ℕ → Lists → ℕ
amount kind parts b lists = sum_parts (share kind parts b) parts lists

-- each place carries one or nothing
abbrev pub counts_places : Amount → Bool
counts_places (Load r) = false
counts_places Replicas = true
counts_places Leaders = true
counts_places PotentialOut = false
counts_places LeaderIn = false
counts_places (OfTopic t) = true
counts_places (LedInTopic t) = true
