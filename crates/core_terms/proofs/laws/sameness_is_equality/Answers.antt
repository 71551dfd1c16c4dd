use Rattle.core_terms.proofs.Sameness as lemmas
use Rattle.core_terms.proofs.laws.sameness_is_equality.Goals as goal

pub returns : goal.returns
returns c = lemmas.sameness_is_equality
