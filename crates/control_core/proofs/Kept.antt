-- For how many entries the journal keeps room, at most.
use Rattle.std.proofs.Common.{◌+◌, ◌≤◌, Bool, true, false, not, cond, length, arith}
use Rattle.std.specs.Prelude.{is_some}
use Rattle.std.proofs.lemmas.List.Sums.{count_by-le-length}
use Rattle.exec_terms.specs.Words.{is_free}
use Rattle.core_terms.specs.History.{kept_for}
use Rattle.core_terms.specs.State.{Desk}

one_most : (b : Bool) → cond b 0 1 ≤ 1
one_most true = omega arith
one_most false = omega arith

pub kept_few : (d : Desk) → kept_for d ≤ length d.exec.tasks + length d.jobs + 1
kept_few d = omega (arith, count_by-le-length (λ t. not (is_free t.lease)) d.exec.tasks, count_by-le-length (λ j. is_some j.ticket) d.jobs, one_most d.closing)
