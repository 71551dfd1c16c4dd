use Rattle.std.proofs.Common.{◌∙◌, sym, subst, inr, arith}
use Rattle.httparse.specs.Grammar.{NeverHasRequest}
use Rattle.rest_stream.specs.Stream.{IsOpenHead}
use Rattle.rest_stream.proofs.Windows.{never_in_window, too_long, window_all}
use Rattle.rest_stream.proofs.search.try_head.Goals as goal

pub returns-in-Open-clause-why : goal.returns-in-Open-clause-why
returns-in-Open-clause-why c more = too_long c.args.held.now more c.if-held-ge-MAX_HEAD.true (subst IsOpenHead c.window.ensures.value c.in-Open.ensures)

pub returns-in-Open-2-clause-goes_on : goal.returns-in-Open-2-clause-goes_on
returns-in-Open-2-clause-goes_on c _ = subst IsOpenHead (c.window.ensures.value ∙ sym (window_all c.args.held.now (omega arith))) c.in-Open-2.ensures

pub returns-in-Bad-clause-why : goal.returns-in-Bad-clause-why
returns-in-Bad-clause-why c more = inr (never_in_window c.args.held.now more (subst NeverHasRequest c.window.ensures.value c.in-Bad.ensures))
