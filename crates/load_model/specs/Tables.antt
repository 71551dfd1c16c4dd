-- The table of a book: a row for each broker, with a number for each kind of amount.
use Rattle.std.specs.Prelude.{◌≡◌, ◌+◌, ◌*◌, ◌<◌, ◌==◌, ℕ, Bool, List, [], length, map, get_or, nat_lt, if◌then◌else◌}
use Rattle.plan_terms.specs.Cluster.{Cluster, Lists, id_at}
use Rattle.plan_terms.specs.Faults.{topics}
use Rattle.plan_terms.specs.declared.cluster.Part.{Part}
use Rattle.load_model.specs.Amounts.{InRange, amount, lead_at, follow_at}
use Rattle.load_model.specs.declared.amounts.Amount.{Amount}
use Rattle.load_model.specs.declared.amounts.Amount.TheVariants.{Load, Replicas, Leaders, PotentialOut, LeaderIn, OfTopic, LedInTopic}

-- how many numbers a row has: eight, and two for each topic
abbrev pub columns : List Part → ℕ
columns parts = 2 * length (topics parts) + 8

-- the place of a kind in a row
abbrev pub column : Amount → ℕ
column (Load r) = r
column Replicas = 4
column Leaders = 5
column PotentialOut = 6
column LeaderIn = 7
column (OfTopic t) = 2 * t + 8
column (LedInTopic t) = 2 * t + 9

-- the kind at one of the first eight places
abbrev pub kind_at : ℕ → Amount
kind_at j = if nat_lt j 4 then Load j else (if j == 4 then Replicas else (if j == 5 then Leaders else (if j == 6 then PotentialOut else LeaderIn)))

-- what the first place, or each other place, of the list of the partition at place p carries
abbrev pub weight_at : Amount → List Part → ℕ → Bool → ℕ
weight_at kind parts p first = if first then lead_at kind parts p else follow_at kind parts p

-- what such a place of the broker of this id puts on broker b
abbrev pub put_on : ℕ → ℕ → Amount → List Part → ℕ → Bool → ℕ
put_on id b kind parts p first = if id == b then weight_at kind parts p first else 0

-- what a row lacks afterwards and what it has more, by kind
pub record IsChanged (parts : List Part) (minus plus : Amount → ℕ) (old new : List ℕ) : Type 0 where
  pub long : length new ≡ length old
  pub each : (kind : Amount) → InRange kind parts → get_or new (column kind) 0 + minus kind ≡ get_or old (column kind) 0 + plus kind

-- the row has what broker b carries
pub record IsRow (parts : List Part) (b : ℕ) (lists : Lists) (row : List ℕ) : Type 0 where
  pub long : length row ≡ columns parts
  pub each : (kind : Amount) → InRange kind parts → get_or row (column kind) 0 ≡ amount kind parts b lists

-- each broker's row has what it carries
pub record IsTable (c : Cluster) (lists : Lists) (rows : List (List ℕ)) : Type 0 where
  pub one_each : length rows ≡ length c.brokers
  pub each : (k : ℕ) → k < length c.brokers → IsRow c.parts (id_at c.brokers k) lists (get_or rows k [])

-- each broker's row is as long as there are kinds
abbrev pub AreLong : Cluster → List (List ℕ) → Type 0
AreLong c rows = (k : ℕ) → k < length c.brokers → length (get_or rows k []) ≡ columns c.parts

-- each number of each broker's row is below the top
abbrev pub AreBelow : ℕ → Cluster → List (List ℕ) → Type 0
AreBelow top c rows = (k : ℕ) → k < length c.brokers → (kind : Amount) → InRange kind c.parts → get_or (get_or rows k []) (column kind) 0 < top

-- the lists with one broker at every place
abbrev pub all_at : ℕ → Lists → Lists
all_at b lists = map (map (λ _. b)) lists

-- the row has what all brokers carry together: as much as one would that had every place
abbrev pub AreTotals : List Part → Lists → List ℕ → Type 0
AreTotals parts lists row = IsRow parts 0 (all_at 0 lists) row

-- what a book keeps: one list for each partition, the table of what they put on brokers, and the totals of that
pub record IsKept (c : Cluster) (lists : Lists) (rows : List (List ℕ)) (totals : List ℕ) : Type 0 where
  pub one_each : length lists ≡ length c.parts
  pub table_is : IsTable c lists rows
  pub totals_are : AreTotals c.parts lists totals
