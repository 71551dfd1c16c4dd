use Rattle.std.proofs.Common.{◌∙◌, ap, nat_lt, sym}
use Rattle.plan_terms.specs.States.{is_new}
use Rattle.load_model.proofs.Changes.{any-counted}
use Rattle.load_model.proofs.case.Case.any_new.Goals as goal

pub returns : goal.returns
returns c = rw (← c.self.view_is) (ap (nat_lt 0) c.self.invariant.added_are ∙ sym (any-counted (λ b. is_new b.state) c.self.inside.brokers.items))
