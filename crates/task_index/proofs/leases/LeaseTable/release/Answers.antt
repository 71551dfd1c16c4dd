use Rattle.std.proofs.Common.{◌≡◌, ℕ, ◌<◌, length, get_or, refl, sym, ◌∙◌, Some, None}
use Rattle.std.proofs.lemmas.List.{length-set, get_or_read}
use Rattle.task_index.specs.Leases.{lease_at, IsFiled}
use Rattle.task_index.proofs.Holders.{out-ended}
use Rattle.task_index.proofs.leases.LeaseTable.release.Goals as goal

pub invariant_of-self : goal.invariant_of-self
invariant_of-self c =
    let known : c.args.task < length c.self.inside.leases.items = rw (← c.self.view_is) at c.requires.known in
    let has : lease_at c.self.inside.leases.items c.args.task ≡ Some c.in-Some.number = sym (get_or_read c.self.inside.leases.items c.args.task c.index.result.now known c.index.ensures None) ∙ c.in-Some.is in
    record {
      few = rw length-set c.self.invariant.few;
      out = rw (c.remove.ensures.items, c.remove-in-Some-place_of.ensures.items) (out-ended _ _ _ c.self.invariant.out c.args.task c.in-Some.number c.in-Some-place_of.place has (rw c.as_slice.ensures.value at c.in-Some-place_of.ensures.known) (rw c.as_slice.ensures.value at c.in-Some-place_of.ensures.number));
      numbers_fit = rw (length-set, c.remove.ensures.capacity) c.self.invariant.numbers_fit;
      holders_fit = rw (length-set, c.remove-in-Some-place_of.ensures.capacity) c.self.invariant.holders_fit;
    }

pub invariant_of-self-in_default-place_of : goal.invariant_of-self-in_default-place_of
invariant_of-self-in_default-place_of c =
    let known : c.args.task < length c.self.inside.leases.items = rw (← c.self.view_is) at c.requires.known in
    let has : lease_at c.self.inside.leases.items c.args.task ≡ Some c.in-Some.number = sym (get_or_read c.self.inside.leases.items c.args.task c.index.result.now known c.index.ensures None) ∙ c.in-Some.is in
    let f : IsFiled c.self.inside.numbers.items c.self.inside.holders.items c.args.task c.in-Some.number = c.self.invariant.out.all c.args.task c.in-Some.number has in
    let none : (a : ℕ) → a < length c.self.inside.numbers.items → get_or c.self.inside.numbers.items a 0 ≡ c.in-Some.number → ⊥ = rw c.as_slice.ensures.value at (c.in_default-place_of.ensures.none refl) in
    absurd (none f.place f.within f.number)
