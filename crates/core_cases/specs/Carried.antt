-- What brokers carry, as it grows by one place of a list and by one list.
use Rattle.std.specs.Prelude.{ℕ, ◌+◌, ◌*◌, ◌≤◌, ◌<◌, ◌^◌, Bool, ◌==◌, List, slice_index, if◌then◌else◌}
use Rattle.std.specs.List.{count_by}
use Rattle.plan_terms.specs.Cluster.{leads}
use Rattle.plan_terms.specs.Load.{list_load}
use Rattle.plan_terms.specs.declared.cluster.Broker.{Broker}
use Rattle.plan_terms.specs.declared.cluster.Part.{Part}
use Rattle.core_terms.specs.declared.shows.BrokerShown.{BrokerShown}
use Rattle.plan_terms.specs.Resources.{CPU, NW_IN, NW_OUT, DISK}

-- a broker that carries nothing
abbrev pub idle : Broker → BrokerShown
idle b = record { broker = b.id; state = b.state; cpu = 0; nw_in = 0; nw_out = 0; disk = 0; potential_nw_out = 0; replicas = 0; leaders = 0 }

-- the load of a resource at the first place of a partition's list, or at another
abbrev pub place_load : Part → Bool → ℕ → ℕ
place_load p first r = if first then slice_index p.loads.lead r else slice_index p.loads.follow r

-- one place more of a partition's list, its first or another
abbrev pub with_place : Part → Bool → BrokerShown → BrokerShown
with_place p first s = record s {
  cpu = s.cpu + place_load p first 0;
  nw_in = s.nw_in + place_load p first 1;
  nw_out = s.nw_out + place_load p first 2;
  disk = s.disk + place_load p first 3;
  potential_nw_out = s.potential_nw_out + slice_index p.loads.lead NW_OUT;
  replicas = s.replicas + 1;
  leaders = s.leaders + (if first then 1 else 0);
}

-- the same, where it is the broker's of this id
abbrev pub with_member : Part → Bool → ℕ → BrokerShown → BrokerShown
with_member p first id s = if id == s.broker then with_place p first s else s

-- the places of the broker in a partition's list
abbrev pub with_list : Part → List ℕ → BrokerShown → BrokerShown
with_list p list s = record s {
  cpu = s.cpu + list_load (slice_index p.loads.lead CPU) (slice_index p.loads.follow CPU) s.broker list;
  nw_in = s.nw_in + list_load (slice_index p.loads.lead NW_IN) (slice_index p.loads.follow NW_IN) s.broker list;
  nw_out = s.nw_out + list_load (slice_index p.loads.lead NW_OUT) (slice_index p.loads.follow NW_OUT) s.broker list;
  disk = s.disk + list_load (slice_index p.loads.lead DISK) (slice_index p.loads.follow DISK) s.broker list;
  potential_nw_out = s.potential_nw_out + slice_index p.loads.lead NW_OUT * count_by (λ x. x == s.broker) list;
  replicas = s.replicas + count_by (λ x. x == s.broker) list;
  leaders = s.leaders + (if leads list s.broker then 1 else 0);
}

-- each load of the partition is below 2^32
pub record IsLight (p : Part) : Type 0 where
  pub lead : (r : ℕ) → slice_index p.loads.lead r < 2 ^ 32
  pub follow : (r : ℕ) → slice_index p.loads.follow r < 2 ^ 32

-- no more than n places of such partitions can carry
pub record IsWithin (n : ℕ) (s : BrokerShown) : Type 0 where
  pub cpu : s.cpu ≤ n * 2 ^ 32
  pub nw_in : s.nw_in ≤ n * 2 ^ 32
  pub nw_out : s.nw_out ≤ n * 2 ^ 32
  pub disk : s.disk ≤ n * 2 ^ 32
  pub potential : s.potential_nw_out ≤ n * 2 ^ 32
  pub replicas : s.replicas ≤ n
  pub leaders : s.leaders ≤ n
