use Rattle.std.proofs.Common.{arith, sym}
use Rattle.std.proofs.lemmas.List.{length-take-le}
use Rattle.rest_stream.proofs.Windows.{window_all}
use Rattle.rest_stream.proofs.search.window.Goals as goal

pub slice_bounds-result-end : goal.slice_bounds-result-end
slice_bounds-result-end c = sym (length-take-le 16384 c.args.held.now (omega arith))

pub returns-then-held-gt-MAX_HEAD-clause-short : goal.returns-then-held-gt-MAX_HEAD-clause-short
returns-then-held-gt-MAX_HEAD-clause-short c = omega (arith, length-take-le 16384 c.args.held.now (omega arith))

pub returns-else-held-gt-MAX_HEAD-clause-value : goal.returns-else-held-gt-MAX_HEAD-clause-value
returns-else-held-gt-MAX_HEAD-clause-value c = window_all c.args.held.now c.if-held-gt-MAX_HEAD.false
