use Rattle.std.proofs.Common.{◌≡◌, ◌+◌, arith, inl, inr}
use Rattle.control_core.proofs.Ids.{place_none, place_some, place_beyond}
use Rattle.control_core.proofs.submits.place_of.Goals as goal

pub returns-in_err-number-clause-place : goal.returns-in_err-number-clause-place
returns-in_err-number-clause-place c =
    rw c.from_residual.ensures (place_none c.args.id c.args.tasks.now (λ k m e. c.in_err-number.ensures.exact (k + 1) (omega (arith, c.requires)) e))

pub returns-then-number-eq0-clause-place : goal.returns-then-number-eq0-clause-place
returns-then-number-eq0-clause-place c =
    let n = c.in_ok-number.number in
    place_beyond c.args.id c.args.tasks.now n c.in_ok-number.ensures.small (λ l. elim c.then-number-eq0.either as (λ _. n ≡ 0) [ inl zero ↦ zero | inr more ↦ absurd (omega (arith, more.1, l)) ]) c.requires
    c.in_ok-number.ensures.exact c.ids_are_distinct.ensures

pub returns-clause-place : goal.returns-clause-place
returns-clause-place c =
    let n = c.in_ok-number.number in
    place_some c.args.id c.args.tasks.now n (omega arith) (omega arith) c.requires c.in_ok-number.ensures.exact c.ids_are_distinct.ensures
