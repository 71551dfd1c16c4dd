use Rattle.rest_session.specs.Heals.{is_heal}
use Rattle.rest_session.proofs.Spared.{heal_spared, piece_no_fix, round_free}
use Rattle.rest_session.proofs.laws.only_detects_heal.Goals as goal

pub returns-clause-requests : goal.returns-clause-requests
returns-clause-requests c = λ d r s p. piece_no_fix r s d p

pub returns-clause-rounds : goal.returns-clause-rounds
returns-clause-rounds c = λ rules seen s made h. round_free is_heal heal_spared rules seen s made h
