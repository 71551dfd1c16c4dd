use Rattle.std.proofs.Common.{ap, sym, ◌∙◌}
use Rattle.cc_base.specs.Outside.{Beside}
use Rattle.cc_base.proofs.link.write_link.Goals as goal

pub returns-clause-left : goal.returns-clause-left
returns-clause-left g c =
    let law = g.met.L.Link.beside_sink in
    ap (λ (b : Beside). b.1) (sym (law c.write_all_of.new.sink) ∙ c.write_all_of.ensures.beside ∙ law c.args.link.now)

pub returns-clause-faults : goal.returns-clause-faults
returns-clause-faults g c =
    let law = g.met.L.Link.beside_sink in
    ap (λ (b : Beside). b.0) (sym (law c.write_all_of.new.sink) ∙ c.write_all_of.ensures.beside ∙ law c.args.link.now)
