-- For which lists of samples the tables stand.
use Rattle.std.specs.Prelude.{◌≡◌, ◌<◌, ℕ, false, List}
use Rattle.std.specs.List.{All}
use Rattle.plan_terms.specs.Loads.{IsLoads}
use Rattle.metric_windows.specs.Samples.{AllAccepted, newest, is_past, samples_in}
use Rattle.plan_terms.specs.declared.settings.Sample.{Sample}
use Rattle.metric_windows.specs.Tables.{Tables, tally_in, tally_of}

-- each sample was accepted after those before it, the newest window is the list's, and so are the number and the sums of each partition in each window that isn't past
pub record StandsFor (t : Tables) (samples : List Sample) : Type 0 where
  pub accepted : AllAccepted t.rules samples
  pub newest_is : t.newest ≡ newest t.rules samples
  pub tallies : (p i : ℕ) → p < t.parts → is_past t.rules t.newest i ≡ false → tally_in t p i ≡ tally_of (samples_in t.rules samples p i)
  pub parts : All (λ s. s.part < t.parts) samples
  pub loads : All (λ s. IsLoads s.loads) samples
