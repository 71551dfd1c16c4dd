use Rattle.cc_program.specs.Lives.{gate}
use Rattle.cc_program.proofs.Causes as causes
use Rattle.cc_program.proofs.laws.every_live_run.Goals as goal

pub returns-clause-cause : goal.returns-clause-cause
returns-clause-cause g c = λ r. causes.caused (gate g.A.Admin.faults g.A.Admin.told) r.words r.files r.outside r.admin r.left r.end r.leaves

pub returns-clause-unasked : goal.returns-clause-unasked
returns-clause-unasked g c = λ r none. causes.unasked (gate g.A.Admin.faults g.A.Admin.told) r.words r.files r.outside r.admin r.left none r.end r.leaves

pub returns-clause-refuses : goal.returns-clause-refuses
returns-clause-refuses g c = λ r call bytes fault told refused. causes.refuses (gate g.A.Admin.faults g.A.Admin.told) r.words r.files r.outside r.admin r.left call bytes fault told refused r.end r.leaves

pub returns-clause-complete : goal.returns-clause-complete
returns-clause-complete g c = λ r given.
    let told = gate g.A.Admin.faults g.A.Admin.told in
    causes.whole told r.words r.files r.outside r.admin r.left given r.end (causes.caused told r.words r.files r.outside r.admin r.left r.end r.leaves)
