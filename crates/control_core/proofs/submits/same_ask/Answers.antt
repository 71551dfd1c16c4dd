use Rattle.std.proofs.lemmas.Bool.Decides.{same_from_decides}
use Rattle.core_terms.specs.Same.{same_ask}
use Rattle.core_terms.proofs.Sameness.{sameness_is_equality}
use Rattle.control_core.proofs.submits.same_ask.Goals as goal

pub returns : goal.returns
returns c = same_from_decides c.is_same.result (same_ask c.args.one.now c.args.other.now) c.is_same.ensures (sameness_is_equality.asks c.args.one.now c.args.other.now)
