use Rattle.test_fakes.specs.Handed.{AreFresh}
use Rattle.live_tests.proofs.Fresh.{written}
use Rattle.live_tests.proofs.listeners.links_of.Given as goal

abbrev pub invariant-loop-link : goal.invariant-loop-link
invariant-loop-link g l = AreFresh written l.links.items
