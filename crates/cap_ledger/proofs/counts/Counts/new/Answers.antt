use Rattle.std.proofs.lemmas.List.Sorted.{IsNonDecreasingBy-from_sort}
use Rattle.cap_ledger.proofs.Sorting.{empty_in_order, IsEmpty-sorted}
use Rattle.cap_ledger.proofs.counts.Counts.new.Goals as goal

pub invariant_of-result : goal.invariant_of-result
invariant_of-result c = empty_in_order c.args.brokers.now c.sort_unstable.new.self.items c.in_ok-entries.entries.items c.requires
    (rw c.in_ok-ids.ensures.items at c.sort_unstable.ensures.permutation) (IsNonDecreasingBy-from_sort (λ x. x) _ c.sort_unstable.ensures.sorted) (rw c.as_slice.ensures.value at c.in_ok-entries.ensures)

pub returns : goal.returns
returns c = IsEmpty-sorted c.args.brokers.now c.sort_unstable.new.self.items c.in_ok-entries.entries.items
    (rw c.in_ok-ids.ensures.items at c.sort_unstable.ensures.permutation) (rw c.as_slice.ensures.value at c.in_ok-entries.ensures)
