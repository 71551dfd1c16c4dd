use Rattle.rest_stream.proofs.Unique.{goes_on, one_request}
use Rattle.rest_stream.proofs.laws.requests_are_unique.Goals as goal

pub returns-clause-one : goal.returns-clause-one
returns-clause-one c = one_request

pub returns-clause-goes_on : goal.returns-clause-goes_on
returns-clause-goes_on c l s a q why x h = goes_on l s a q x why h
