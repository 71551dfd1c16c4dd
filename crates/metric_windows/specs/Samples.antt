-- What a list of accepted samples says of the loads: averages over windows of time.
use Rattle.std.specs.Prelude.{◌≡◌, ◌+◌, ◌-◌, ◌/◌, ◌≤◌, ℕ, Bool, false, ◌==◌, ◌&&◌, ◌||◌, nat_lt, nat_le, max, List, [], ◌∷◌, ◌++◌, length, map, Option, Some, None, is_some, if◌then◌else◌}
use Rattle.std.specs.List.{filter, filter_map, fold, count_by, range_with_len}
use Rattle.plan_terms.specs.declared.cluster.Loads.{Loads}
use Rattle.plan_terms.specs.declared.settings.Sample.{Sample}
use Rattle.plan_terms.specs.declared.settings.WindowRules.{WindowRules}
use Rattle.metric_windows.specs.declared.fault.SampleFault.{SampleFault}
use Rattle.metric_windows.specs.declared.fault.SampleFault.TheVariants.{TooOld, WindowFull}
use Rattle.metric_windows.specs.Averages.{mean_of}

-- the ranges of the rules and of the number of partitions
pub record AreInRange (rules : WindowRules) (parts : ℕ) : Type 0 where
  pub width_some : 1 ≤ rules.width
  pub width_most : rules.width ≤ 86400000
  pub keep_some : 1 ≤ rules.keep
  pub keep_most : rules.keep ≤ 100
  pub least_some : 1 ≤ rules.least
  pub least_most : rules.least ≤ 65536
  pub need_some : 1 ≤ rules.need
  pub need_most : rules.need ≤ 100
  pub parts_most : parts ≤ 10000

-- the window of a time
abbrev pub window_of : WindowRules → ℕ → ℕ
window_of rules time = time / rules.width

-- the greater one, where there are two
abbrev pub later : Option ℕ → ℕ → Option ℕ
later None w = Some w
later (Some n) w = Some (max n w)

-- the greatest window of a sample
unfoldable pub newest : WindowRules → List Sample → Option ℕ
newest rules samples = fold (λ n s. later n (window_of rules s.time)) None samples

-- a window is past where it is so many windows or more before the newest
abbrev pub is_past : WindowRules → Option ℕ → ℕ → Bool
is_past rules None i = false
is_past rules (Some n) i = nat_le (i + rules.keep) n

-- the windows up to the newest are kept, but for the past ones
abbrev pub is_kept : WindowRules → Option ℕ → ℕ → Bool
is_kept rules None i = false
is_kept rules (Some n) i = nat_lt n (i + rules.keep) && nat_le i n

-- the kept windows, in order
unfoldable pub kept_windows : WindowRules → Option ℕ → List ℕ
kept_windows rules None = []
kept_windows rules (Some n) = filter (is_kept rules (Some n)) (range_with_len 0 (n + 1))

-- the oldest kept window
abbrev pub oldest_kept : WindowRules → Option ℕ → ℕ
oldest_kept rules None = 0
oldest_kept rules (Some n) = n + 1 - rules.keep

-- the sample is one of the partition in the window
abbrev pub is_in : WindowRules → ℕ → ℕ → Sample → Bool
is_in rules p i s = (s.part == p) && (window_of rules s.time == i)

-- what the samples of a partition in a window measured
unfoldable pub samples_in : WindowRules → List Sample → ℕ → ℕ → List Loads
samples_in rules samples p i = map (λ s. s.loads) (filter (is_in rules p i) samples)

-- why a sample is refused: its window is past, or it has 65,536 samples of the partition
unfoldable pub refusal : WindowRules → List Sample → Sample → Option SampleFault
refusal rules samples s =
    if is_past rules (newest rules samples) (window_of rules s.time) then Some (TooOld (oldest_kept rules (newest rules samples))) else (
    if nat_le 65536 (length (samples_in rules samples s.part (window_of rules s.time))) then Some WindowFull else None)

-- each sample was accepted after those before it
abbrev pub AcceptedAfter : WindowRules → List Sample → List Sample → Type 0
AcceptedAfter rules before [] = Unit {0}
AcceptedAfter rules before (s ∷ ss) = (refusal rules before s ≡ None) × AcceptedAfter rules (before ++ s ∷ []) ss

abbrev pub AllAccepted : WindowRules → List Sample → Type 0
AllAccepted rules samples = AcceptedAfter rules [] samples

-- half of the samples that are wanted, rounded up
abbrev pub half : WindowRules → ℕ
half rules = (rules.least + 1) / 2

-- the windows before and after are kept
abbrev pub has_neighbours : WindowRules → Option ℕ → ℕ → Bool
has_neighbours rules newest i = nat_lt 0 i && (is_kept rules newest (i - 1) && is_kept rules newest (i + 1))

-- AVG_ADJACENT: the average over the window and its neighbours, where both of these have enough samples
abbrev pub adjacent_value : WindowRules → Bool → List Loads → List Loads → List Loads → Option Loads
adjacent_value rules neighbours before here after =
    if neighbours && (nat_le rules.least (length before) && nat_le rules.least (length after)) then Some (mean_of (before ++ here ++ after)) else None

-- the value of a kept window: the average of its samples, of which there are enough, or half of that (AVG_AVAILABLE); else AVG_ADJACENT
unfoldable pub window_value : WindowRules → List Sample → ℕ → ℕ → Option Loads
window_value rules samples p i =
    if nat_le rules.least (length (samples_in rules samples p i)) || nat_le (half rules) (length (samples_in rules samples p i)) then Some (mean_of (samples_in rules samples p i)) else
    adjacent_value rules (has_neighbours rules (newest rules samples) i) (samples_in rules samples p (i - 1)) (samples_in rules samples p i) (samples_in rules samples p (i + 1))

-- the values of the kept windows that have one, in order
unfoldable pub values : WindowRules → List Sample → ℕ → List Loads
values rules samples p = filter_map (window_value rules samples p) (kept_windows rules (newest rules samples))

-- their average, where there are as many as are needed
abbrev pub enough_mean : ℕ → List Loads → Option Loads
enough_mean need xs = if nat_lt (length xs) need then None else Some (mean_of xs)

-- the load of a partition: the average of its windows' values
abbrev pub load_of : WindowRules → List Sample → ℕ → Option Loads
load_of rules samples p = enough_mean rules.need (values rules samples p)

-- how many of the partitions have a load, and how many there are
abbrev pub coverage : WindowRules → ℕ → List Sample → ℕ × ℕ
coverage rules parts samples = (count_by (λ p. is_some (load_of rules samples p)) (range_with_len 0 parts), parts)
