-- The best place so far.
use Rattle.std.specs.Prelude.{◌≡◌, ◌<◌, ℕ, List, length, Option, option_map}
use Rattle.plan_terms.specs.Cluster.{Cluster, id_at}
use Rattle.factor_change.specs.Choice.{shares_rack}
use Rattle.factor_change.specs.declared.choice.Best.{Best}

-- it is the place of a broker, and is marked where the broker's rack is among the members' racks
pub record IsBest (c : Cluster) (list : List ℕ) (b : Best) : Type 0 where
  pub within : b.place < length c.brokers
  pub shared : b.shared ≡ shares_rack c list (id_at c.brokers b.place)

abbrev pub place_of : Option Best → Option ℕ
place_of best = option_map (λ b. b.place) best
