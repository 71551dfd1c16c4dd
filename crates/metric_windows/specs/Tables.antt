-- What windows keep: for each partition one cell for each kept window, with the number and the sums of its samples.
use Rattle.std.specs.Prelude.{◌≡◌, ◌+◌, ◌-◌, ◌*◌, ◌%◌, ◌≤◌, ℕ, Bool, ◌==◌, ◌&&◌, nat_le, List, [], length, get_or, slice_index, slice_set, Option, Some, None, if◌then◌else◌}
use Rattle.std.specs.List.{All, filter_map}
use Rattle.plan_terms.specs.declared.cluster.Loads.{Loads}
use Rattle.metric_windows.specs.declared.cell.Cell.{Cell}
use Rattle.metric_windows.specs.declared.tally.Tally.{Tally}
use Rattle.metric_windows.specs.Averages.{by_resource, total_of, divided}
use Rattle.plan_terms.specs.Loads.{EachBelow}
use Rattle.metric_windows.specs.Samples.{AreInRange, later, half, has_neighbours, kept_windows}
use Rattle.plan_terms.specs.Resources.{NW_OUT}
use Rattle.plan_terms.specs.declared.settings.WindowRules.{WindowRules}

-- the tally of a list of loads: how many, and their total
abbrev pub tally_of : List Loads → Tally
tally_of xs = record { count = length xs; sums = total_of xs }

-- number by number, the sum of two loads
unfoldable pub added : Loads → Loads → Loads
added x y = record {
  lead = by_resource (λ r. slice_index x.lead r + slice_index y.lead r);
  follow = by_resource (λ r. slice_index x.follow r + slice_index y.follow r);
}

-- the tally with one load more
abbrev pub with_load : Tally → Loads → Tally
with_load t x = record { count = t.count + 1; sums = added t.sums x }

-- the tally of two lists together
abbrev pub joined : Tally → Tally → Tally
joined s t = record { count = s.count + t.count; sums = added s.sums t.sums }

-- the average
abbrev pub mean : Tally → Loads
mean t = divided t.sums t.count

-- so many numbers below 2^32 have these sums
pub record IsTally (t : Tally) : Type 0 where
  pub lead : EachBelow (t.count * 4294967295 + 1) t.sums.lead
  pub follow : EachBelow (t.count * 4294967295 + 1) t.sums.follow
  pub silent : slice_index t.sums.follow NW_OUT ≡ 0

-- at most 65,536 samples
pub record IsCell (c : Cell) : Type 0 where
  pub few : c.tally.count ≤ 65536
  pub tally : IsTally c.tally

-- the cell that no sample has come to
abbrev pub empty_cell : Cell
empty_cell = record { window = 0; tally = tally_of [] }

-- the rules, the number of partitions, the greatest window of a sample, and the cells, partition by partition
pub record Tables : Type 0 where
  pub rules : WindowRules
  pub parts : ℕ
  pub newest : Option ℕ
  pub cells : List Cell

-- one cell for each partition and kept window
pub record AreTables (t : Tables) : Type 0 where
  pub ranges : AreInRange t.rules t.parts
  pub size : length t.cells ≡ t.parts * t.rules.keep
  pub each : All IsCell t.cells

-- the place of a partition's cell for a window, which it shares with the windows a multiple of `keep` apart
abbrev pub place : ℕ → ℕ → ℕ → ℕ
place keep p i = p * keep + i % keep

-- a partition's cell for a window
abbrev pub cell_of : Tables → ℕ → ℕ → Cell
cell_of t p i = get_or t.cells (place t.rules.keep p i) empty_cell

-- the tally of a window in a cell: none where the cell is another window's
abbrev pub tally_at : Cell → ℕ → Tally
tally_at c i = if c.window == i then c.tally else tally_of []

-- the tally of a partition in a window
unfoldable pub tally_in : Tables → ℕ → ℕ → Tally
tally_in t p i = tally_at (cell_of t p i) i

-- the tables where a partition's cell is a window's and has this tally
unfoldable pub stored : Tables → ℕ → ℕ → Tally → Tables
stored t p w tally = record t {
  newest = later t.newest w;
  cells = slice_set t.cells (place t.rules.keep p w) (record { window = w; tally = tally });
}

-- one load more, where there is one
abbrev pub with_some : Tally → Option Loads → Tally
with_some t None = t
with_some t (Some x) = with_load t x

-- the value of a window and its neighbours, from their tallies
unfoldable pub value_by : WindowRules → Bool → Tally → Tally → Tally → Option Loads
value_by rules neighbours before here after =
    if nat_le (half rules) here.count then Some (mean here) else (
    if neighbours && (nat_le rules.least before.count && nat_le rules.least after.count) then Some (mean (joined (joined before here) after)) else None)

-- the value of a kept window
abbrev pub value_in : Tables → ℕ → ℕ → Option Loads
value_in t p i = value_by t.rules (has_neighbours t.rules t.newest i) (tally_in t p (i - 1)) (tally_in t p i) (tally_in t p (i + 1))

-- the values of the kept windows that have one
unfoldable pub values_in : Tables → ℕ → List Loads
values_in t p = filter_map (value_in t p) (kept_windows t.rules t.newest)
