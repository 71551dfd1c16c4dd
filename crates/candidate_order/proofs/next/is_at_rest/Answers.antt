use Rattle.std.proofs.Common.{◌≡◌, map}
use Rattle.std.specs.List.{All}
use Rattle.plan_terms.specs.Cluster.{ids_of}
use Rattle.candidate_order.specs.declared.kept.Row.{Row}
use Rattle.candidate_order.proofs.KindLemmas.{none-cold, cold-rows}
use Rattle.candidate_order.proofs.next.is_at_rest.Goals as goal

pub returns : goal.returns
returns g c = λ rests.
    let case = c.args.case.now in
    let lists = c.args.book.now.lists in
    let rows = c.as_slice-rows.result.now in
    let brokers_are : map (λ (r : Row). r.id) rows ≡ ids_of case.brokers = rw c.as_slice-rows.ensures.value c.requires.scan.brokers_are in
    let heats_are : All (λ (r : Row). r.heat ≡ g.G.Goal.heat_at c.args.goal.now case lists r.id) rows = rw c.as_slice-rows.ensures.value (λ k d l. (c.requires.scan.rows_are k d l).heat_is) in
    none-cold case lists c.requires.belongs.lists_belong (g.G.Goal.meaning c.args.goal.now case) (g.G.Goal.heat_at c.args.goal.now case lists)
    (g.met.G.Goal.cold_pairs c.args.goal.now case lists c.requires.made_goal c.brokers-brokers.ensures.case c.requires.belongs.lists_belong)
    (cold-rows (λ (r : Row). r.id) (λ (r : Row). r.heat) rows case (g.G.Goal.heat_at c.args.goal.now case lists) brokers_are heats_are (c.all_cold.ensures rests))
    (map (λ x. g.G.Goal.meaning x case) c.args.earlier.now)
