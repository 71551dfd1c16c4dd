use Rattle.std.proofs.Common.{ap, sym, ◌∙◌}
use Rattle.cc_base.specs.Outside.{Beside}
use Rattle.cc_base.proofs.link.read_link.Goals as goal

pub returns-clause-written : goal.returns-clause-written
returns-clause-written g c =
    let law = g.met.L.Link.beside_source in
    ap (λ (b : Beside). b.1) (sym (law c.read_some.new.source) ∙ c.read_some.ensures.beside ∙ law c.args.link.now)

pub returns-clause-faults : goal.returns-clause-faults
returns-clause-faults g c =
    let law = g.met.L.Link.beside_source in
    ap (λ (b : Beside). b.0) (sym (law c.read_some.new.source) ∙ c.read_some.ensures.beside ∙ law c.args.link.now)
