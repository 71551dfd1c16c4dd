use Rattle.std.proofs.Common.{◌≡◌, ◌<◌, ℕ, Some, length, get_or, arith, refl, ap, ◌∙◌}
use Rattle.std.proofs.lemmas.List.{get_or_read}
use Rattle.task_index.proofs.Holders.{holder-found, holder-none}
use Rattle.task_index.proofs.leases.LeaseTable.holder.Goals as goal

pub returns-in_err-place : goal.returns-in_err-place
returns-in_err-place c = rw (c.from_residual.ensures, ← c.self.view_is) (holder-none _ _ _ c.self.invariant.out c.args.number (rw c.as_slice.ensures.value at (c.in_err-place.ensures.none refl)))

pub returns : goal.returns
returns c =
    let within : c.in_ok-place.place < length c.self.inside.numbers.items = rw c.as_slice.ensures.value at c.in_ok-place.ensures.known in
    let at : get_or c.self.inside.numbers.items c.in_ok-place.place 0 ≡ c.args.number = rw c.as_slice.ensures.value at c.in_ok-place.ensures.number in
    let read : c.index.result.now ≡ get_or c.self.inside.holders.items c.in_ok-place.place 0 = get_or_read c.self.inside.holders.items c.in_ok-place.place c.index.result.now (omega (arith, within, c.self.invariant.out.same)) c.index.ensures 0 in
    rw (← c.self.view_is) (ap (λ (i : ℕ). Some i) read ∙ holder-found _ _ _ c.self.invariant.out c.args.number c.in_ok-place.place within at)
