use Rattle.std.proofs.Common.{◌∙◌, List, length, ap}
use Rattle.plan_terms.specs.Cluster.{Cluster}
use Rattle.plan_terms.specs.declared.cluster.Part.{Part}
use Rattle.load_model.specs.Changed.{with_excluded}
use Rattle.core_terms.specs.Asked.{is_excluded}
use Rattle.core_cases.proofs.Changed.{with_excluded_is, length-with_excluded}
use Rattle.core_cases.proofs.asked.ask_part.Goals as goal

pub returns-clause-one : goal.returns-clause-one
returns-clause-one c = λ ask h. c.set_excluded.ensures ∙ ap (λ (ps : List Part). record c.args.case.now { parts = ps })
    (ap (with_excluded c.args.case.now.parts c.args.place) (c.is_excluded-is_excluded.ensures ask h)
    ∙ with_excluded_is (is_excluded ask) c.args.case.now.parts c.args.place c.index-parts-place.result c.requires (rw c.parts.ensures.value at c.index-parts-place.is))

pub returns-clause-long : goal.returns-clause-long
returns-clause-long c = ap (λ (k : Cluster). length k.parts) c.set_excluded.ensures ∙ length-with_excluded c.args.case.now.parts c.args.place c.is_excluded-is_excluded.result
