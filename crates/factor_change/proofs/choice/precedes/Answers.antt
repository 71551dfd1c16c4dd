use Rattle.std.proofs.Common.{◌≡◌, ◌∙◌, get_or, sym}
use Rattle.plan_terms.specs.Cluster.{id_at}
use Rattle.factor_change.specs.Choice.{shares_rack}
use Rattle.factor_change.proofs.Racks.{fewer_apart, fewer_shared, id_there, no_fewer_apart, no_fewer_shared, precedes_by_table}
use Rattle.factor_change.proofs.choice.precedes.Goals as goal

pub returns-then-fewer : goal.returns-then-fewer
returns-then-fewer c =
    let case = c.args.case.now in
    let list = c.args.list.now in
    let d = c.args.draft.now in
    let table = precedes_by_table case d.lists.items list c.args.place c.args.best.place c.index.result.now c.index-2.result.now c.requires.place c.requires.best.within
    (rw c.requires.draft.counted at c.index.ensures) (rw c.requires.draft.counted at c.index-2.ensures) in
    fewer_shared (shares_rack case list (id_at case.brokers c.args.place)) (shares_rack case list (id_at case.brokers c.args.best.place)) c.index.result.now c.index-2.result.now (sym c.requires.best.shared ∙ c.if-best.true) c.if-fewer.true ∙ table

pub returns-else-fewer : goal.returns-else-fewer
returns-else-fewer c =
    let case = c.args.case.now in
    let list = c.args.list.now in
    let d = c.args.draft.now in
    let table = precedes_by_table case d.lists.items list c.args.place c.args.best.place c.index.result.now c.index-2.result.now c.requires.place c.requires.best.within
    (rw c.requires.draft.counted at c.index.ensures) (rw c.requires.draft.counted at c.index-2.ensures) in
    let id : (get_or c.brokers.result.now c.args.place c.index-brokers-place.result).id ≡ id_at case.brokers c.args.place = rw c.brokers.ensures.value (id_there case c.args.place c.index-brokers-place.result c.requires.place) in
    rw (c.shares_rack.ensures, id) (no_fewer_shared (shares_rack case list (id_at case.brokers c.args.place)) (shares_rack case list (id_at case.brokers c.args.best.place)) c.index.result.now c.index-2.result.now (sym c.requires.best.shared ∙ c.if-best.true) c.if-fewer.false ∙ table)

pub returns-then-fewer-2 : goal.returns-then-fewer-2
returns-then-fewer-2 c =
    let case = c.args.case.now in
    let list = c.args.list.now in
    let d = c.args.draft.now in
    let table = precedes_by_table case d.lists.items list c.args.place c.args.best.place c.index.result.now c.index-2.result.now c.requires.place c.requires.best.within
    (rw c.requires.draft.counted at c.index.ensures) (rw c.requires.draft.counted at c.index-2.ensures) in
    let id : (get_or c.brokers-then-fewer-2.result.now c.args.place c.index-brokers-place-then-fewer-2.result).id ≡ id_at case.brokers c.args.place = rw c.brokers-then-fewer-2.ensures.value (id_there case c.args.place c.index-brokers-place-then-fewer-2.result c.requires.place) in
    rw (c.shares_rack-then-fewer-2.ensures, id) (fewer_apart (shares_rack case list (id_at case.brokers c.args.place)) (shares_rack case list (id_at case.brokers c.args.best.place)) c.index.result.now c.index-2.result.now (sym c.requires.best.shared ∙ c.if-best.false) c.if-fewer-2.true ∙ table)

pub returns-else-fewer-2 : goal.returns-else-fewer-2
returns-else-fewer-2 c =
    let case = c.args.case.now in
    let list = c.args.list.now in
    let d = c.args.draft.now in
    let table = precedes_by_table case d.lists.items list c.args.place c.args.best.place c.index.result.now c.index-2.result.now c.requires.place c.requires.best.within
    (rw c.requires.draft.counted at c.index.ensures) (rw c.requires.draft.counted at c.index-2.ensures) in
    no_fewer_apart (shares_rack case list (id_at case.brokers c.args.place)) (shares_rack case list (id_at case.brokers c.args.best.place)) c.index.result.now c.index-2.result.now (sym c.requires.best.shared ∙ c.if-best.false) c.if-fewer-2.false ∙ table
