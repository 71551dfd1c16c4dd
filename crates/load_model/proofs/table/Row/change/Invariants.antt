use Rattle.std.proofs.Common.{◌≡◌, ℕ, ◌+◌, ◌<◌, ◌≤◌, cond, length, get_or}
use Rattle.load_model.specs.Tables.{kind_at, weight_at}
use Rattle.load_model.proofs.table.Row.change.Given as goal

abbrev pub invariant-loop-j : goal.invariant-loop-j
invariant-loop-j l = record {
  long : length l.self ≡ length l.fn.self;
  done : (j : ℕ) → j < l.j → get_or l.self j 0 + cond l.gains 0 (weight_at (kind_at j) l.case.parts l.part l.first) ≡ get_or l.fn.self j 0 + cond l.gains (weight_at (kind_at j) l.case.parts l.part l.first) 0;
  rest : (j : ℕ) → l.j ≤ j → get_or l.self j 0 ≡ get_or l.fn.self j 0;
}
