use Rattle.std.proofs.Common.{◌≡◌, ◌<◌, ◌∙◌, [], get_or, length, arith, ap, sym}
use Rattle.std.specs.Prelude.{Some, option_map}
use Rattle.std.proofs.lemmas.List.{get_or_default}
use Rattle.plan_terms.specs.Cluster.{id_at, list_of}
use Rattle.factor_change.proofs.Counted.{draft_joined}
use Rattle.factor_change.proofs.Keeps.{counted_few, longer_fits}
use Rattle.factor_change.proofs.Racks.{id_there}
use Rattle.factor_change.proofs.change.add_member.Goals as goal

pub overflow_add-index_mut : goal.overflow_add-index_mut
overflow_add-index_mut c =
    let d = c.args.draft.now in
    let within : c.in-Some.place < length c.args.case.now.brokers = rw c.in-Some.is at c.in_ok-next_place.ensures.place in
    omega (arith, c.index_mut.ensures.value, counted_few c.args.case.now d.lists.items d.counts.items c.in-Some.place c.index_mut.result.now c.requires.draft within)

pub returns-in_ok-longer-in-Some-clause-draft : goal.returns-in_ok-longer-in-Some-clause-draft
returns-in_ok-longer-in-Some-clause-draft c =
    let case = c.args.case.now in
    let d = c.args.draft.now in
    let place = c.in-Some.place in
    let member = (get_or c.brokers.result.now place c.index-brokers-place.result).id in
    let within : place < length case.brokers = rw c.in-Some.is at c.in_ok-next_place.ensures.place in
    let id : member ≡ id_at case.brokers place = rw c.brokers.ensures.value (id_there case place c.index-brokers-place.result within) in
    let is : c.as_slice-list.result.now ≡ list_of d.lists.items c.args.part = c.as_slice-list.ensures ∙ c.index.ensures ∙ get_or_default d.lists.items c.args.part c.index.result.now [] c.requires.part in
    let next = sym c.in_ok-next_place.ensures.member ∙ (ap (option_map (id_at case.brokers)) c.in-Some.is ∙ ap (λ m. Some m) (sym id)) in
    draft_joined case d.lists.items d.counts.items c.args.part place c.index_mut.result.now member c.as_slice-list.result.now c.in_ok-longer-in-Some.longer c.requires.draft c.requires.part within id is c.in_ok-longer-in-Some.ensures
    (longer_fits case d.lists.items d.counts.items c.args.part member c.as_slice-list.result.now c.in_ok-longer-in-Some.longer c.requires.draft c.requires.part is c.requires.short next c.in_ok-longer-in-Some.ensures)
    c.index_mut.ensures.value
