-- An average is no greater than what it averages.
use Rattle.std.proofs.Common.{◌≡◌, ℕ, ◌+◌, ◌*◌, ◌/◌, ◌<◌, List, slice_index, arith}
use Rattle.std.proofs.lemmas.Nat.{div_below}
use Rattle.metric_windows.specs.declared.tally.Tally.{Tally}
use Rattle.metric_windows.specs.Averages.{by_resource, divided}
use Rattle.plan_terms.specs.Loads.{EachBelow, IsLoads}
use Rattle.metric_windows.specs.Tables.{IsTally}

quotient : (x n : ℕ) → 0 < n → x < n * 4294967295 + 1 → x / n < 4294967296
quotient x n some h = div_below x n 4294967296 some (omega arith)

none : (x n : ℕ) → 0 < n → x ≡ 0 → x / n ≡ 0
none x n some e = let h : x / n < 1 = div_below x n 1 some (omega arith) in omega arith

each_quotient : (xs : List ℕ) (n : ℕ) → 0 < n → EachBelow (n * 4294967295 + 1) xs → EachBelow 4294967296 (by_resource (λ r. slice_index xs r / n))
each_quotient xs n some h = record {
  cpu = quotient _ n some h.cpu;
  nw_in = quotient _ n some h.nw_in;
  nw_out = quotient _ n some h.nw_out;
  disk = quotient _ n some h.disk;
}

pub IsLoads-mean : (t : Tally) → 0 < t.count → IsTally t → IsLoads (divided t.sums t.count)
unfolding divided
IsLoads-mean t some h = record {
  lead = each_quotient t.sums.lead t.count some h.lead;
  follow = each_quotient t.sums.follow t.count some h.follow;
  silent = none _ t.count some h.silent;
}
