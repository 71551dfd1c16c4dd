-- Calls that are to fail.
use Rattle.std.specs.Prelude.{◌≡◌, ◌+◌, ◌-◌, ◌^◌, min, Contains}
use Rattle.cluster_gate.specs.declared.calls.FailingCalls.{FailingCalls}

-- the next call is to fail
abbrev pub IsListed : FailingCalls → Type 0
IsListed calls = Contains calls.listed.items calls.made

-- one more call was made, and counted as a fault where it was to fail; the counts end at the greatest u64
pub record CountsCall (old new : FailingCalls) : Type 0 where
  pub list : new.listed ≡ old.listed
  pub made : new.made ≡ min (old.made + 1) (2 ^ 64 - 1)
  pub failed : IsListed old → new.faults ≡ min (old.faults + 1) (2 ^ 64 - 1)
  pub passed : ¬ IsListed old → new.faults ≡ old.faults
