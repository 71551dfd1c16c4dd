use Rattle.std.proofs.Common.{◌<◌, length, ◌∷◌, [], sym, ap, arith}
use Rattle.std.proofs.lemmas.List.{map-append, take_more, length-map}
use Rattle.std.proofs.lemmas.List.Elements.{All-push}
use Rattle.plan_terms.specs.Cluster.{ids_of}
use Rattle.candidate_order.specs.Scan.{IsRow}
use Rattle.candidate_order.specs.declared.kept.Row.{Row}
use Rattle.candidate_order.proofs.kept.all_again.Goals as goal

pub loop-broker-preserved : goal.loop-broker-preserved
loop-broker-preserved g c =
    let brokers = c.args.case.now.brokers in
    let l : c.loop-broker.broker < length (ids_of brokers) = omega (arith, length-map c.args.scan.now.rows.items (λ (r : Row). r.id), ap length c.requires.kept.brokers_are, ap length c.as_slice-kept.ensures.value, c.loop-broker-test.true) in
    record {
      brokers_are = rw (c.in_ok-push.ensures.items, map-append (λ (r : Row). r.id) c.loop-broker.rows.items (c.in_ok-row.row ∷ []), c.loop-broker.invariant.brokers_are, c.in_ok-row.ensures.id)
          (sym (take_more (ids_of brokers) c.loop-broker.broker 0 l));
      rows_are = rw c.in_ok-push.ensures.items
          (All-push (IsRow g.G.Goal.weighs (λ x. g.G.Goal.room_at x c.args.case.now c.args.book.now.lists) (g.G.Goal.heat_at c.args.goal.now c.args.case.now c.args.book.now.lists) c.args.earlier.now c.args.case.now)
          c.loop-broker.rows.items c.in_ok-row.row c.loop-broker.invariant.rows_are c.in_ok-row.ensures.row);
    }
