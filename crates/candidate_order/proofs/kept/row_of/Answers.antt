use Rattle.std.proofs.Common.{◌≡◌, map, ◌∙◌}
use Rattle.plan_terms.specs.Cluster.{ids_of}
use Rattle.candidate_order.specs.declared.kept.Row.{Row}
use Rattle.candidate_order.proofs.RowLemmas.{row-within, row-id}
use Rattle.candidate_order.proofs.kept.row_of.Goals as goal

pub bounds-rows-place : goal.bounds-rows-place
bounds-rows-place g c =
    let are : map (λ (r : Row). r.id) c.as_slice-rows.result.now ≡ ids_of c.args.case.now.brokers = rw c.as_slice-rows.ensures.value c.requires.scan.brokers_are in
    row-within (λ (r : Row). r.id) c.as_slice-rows.result.now c.args.case.now c.broker_place-place.result are c.broker_place-place.ensures.within

pub returns-clause-id : goal.returns-clause-id
returns-clause-id g c =
    let are : map (λ (r : Row). r.id) c.as_slice-rows.result.now ≡ ids_of c.args.case.now.brokers = rw c.as_slice-rows.ensures.value c.requires.scan.brokers_are in
    let place = c.broker_place-place.result in
    row-id (λ (r : Row). r.id) c.as_slice-rows.result.now c.args.case.now place are c.index-rows-place.result
    (row-within (λ (r : Row). r.id) c.as_slice-rows.result.now c.args.case.now place are c.broker_place-place.ensures.within) c.index-rows-place.is
    ∙ c.broker_place-place.ensures.id
