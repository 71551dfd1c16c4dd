use Rattle.std.proofs.Common.{◌<◌, length, sym, []}
use Rattle.std.proofs.lemmas.Bool.{eq-eqb}
use Rattle.std.proofs.lemmas.List.{get_or_read}
use Rattle.load_model.proofs.Ids.{placed-at, same_place}
use Rattle.load_model.proofs.Tabled.{changed-one}
use Rattle.load_model.proofs.table.Table.change.Goals as goal

pub change-requires-clause-enough : goal.change-requires-clause-enough
change-requires-clause-enough c = λ g kind r.
    let found = placed-at c.args.case.now c.args.id c.in-Some.broker c.in-Some.ensures.place in
    let read = get_or_read c.self.inside.rows.items c.in-Some.broker c.index_mut.result.now (rw (c.self.view_is, c.requires.one_each) found.0) c.index_mut.ensures.value [] in
    let enough = c.requires.enough g c.in-Some.broker found.0 kind r in
    rw (read, c.self.view_is) (rw (eq-eqb c.args.id _ (sym found.1)) at enough)

pub returns-in-Some-clause-each : goal.returns-in-Some-clause-each
returns-in-Some-clause-each c =
    let found = placed-at c.args.case.now c.args.id c.in-Some.broker c.in-Some.ensures.place in
    let within : c.in-Some.broker < length c.self.inside.rows.items = rw (c.self.view_is, c.requires.one_each) found.0 in
    let read = get_or_read c.self.inside.rows.items c.in-Some.broker c.index_mut.result.now within c.index_mut.ensures.value [] in
    rw (← c.self.view_is)
    (changed-one c.args.case.now c.args.id c.args.part c.args.first c.args.gains c.self.inside.rows.items c.in-Some.broker c.change.new.self within found.1
    (λ k l e. same_place k c.in-Some.broker (c.in-Some.ensures.only k l e)) (rw read at c.change.ensures))
