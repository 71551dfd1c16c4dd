use Rattle.std.proofs.Common.{◌≡◌, ℕ, ◌<◌, ◌≤◌, ◌∙◌, List, ap, get_or, length, map, arith}
use Rattle.plan_terms.specs.Cluster.{Cluster, ids_of}
use Rattle.std.proofs.lemmas.List.{length-map, take_all}
use Rattle.std.proofs.lemmas.List.Elements.{All-more}
use Rattle.plan_terms.specs.Trace.{Step}
use Rattle.std.specs.List.{flat_map}
use Rattle.candidate_order.specs.CandidateList.{candidates_at, replicas_of, NoStep}
use Rattle.candidate_order.specs.declared.kept.Row.{Row}
use Rattle.candidate_order.proofs.Firsts.{first-flat, none-flat}
use Rattle.candidate_order.proofs.RowLemmas.{by-rows, order-row, order-length, replicas_of-within, row-id}
use Rattle.candidate_order.proofs.RestLemmas.{known-at, row-within-place}
use Rattle.plan_terms.specs.declared.cluster.Broker.{Broker}
use Rattle.candidate_order.proofs.nexts.next_in.Goals as goal

-- a broker's place is that of a row
at-row : (rows : List Row) (c : Cluster) (k : ℕ) → map (λ (r : Row). r.id) rows ≡ ids_of c.brokers → k < length c.brokers → k < length rows
at-row rows c k e l = omega (arith, ap length e, length-map rows (λ (r : Row). r.id), length-map c.brokers (λ (x : Broker). x.id))

-- and there are no more
no-more : (rows : List Row) (c : Cluster) (k : ℕ) → map (λ (r : Row). r.id) rows ≡ ids_of c.brokers → length c.brokers ≤ k → length rows ≤ k
no-more rows c k e l = omega (arith, ap length e, length-map rows (λ (r : Row). r.id), length-map c.brokers (λ (x : Broker). x.id))

pub bounds-rows-k : goal.bounds-rows-k
bounds-rows-k g c =
    rw c.as_slice-rows.ensures.value (at-row c.loop-k.scan.rows.items c.args.case.now c.loop-k.k c.loop-k.invariant.scan_is.brokers_are (omega (arith, ap length c.brokers-end.ensures.value, c.loop-k-test.true)))

pub row-replicas-requires : goal.row-replicas-requires
row-replicas-requires g c =
    omega (
      arith,
      c.loop-k-test.true,
      ap length c.brokers-end.ensures.value,
      order-length c.args.case.now c.args.book.now.lists c.args.order.now (λ (r : Row). r.id) c.loop-k.scan.rows.items c.requires.order c.loop-k.invariant.scan_is.brokers_are,
      ap length c.loop-k.invariant.scan_is.brokers_are,
      length-map c.loop-k.scan.rows.items (λ (r : Row). r.id),
      length-map c.args.case.now.brokers (λ (x : Broker). x.id),
    )

pub first_of-found-requires-clause-source : goal.first_of-found-requires-clause-source
first_of-found-requires-clause-source g c = λ _ _.
    let case = c.args.case.now in
    let lists = c.args.book.now.lists in
    let k = c.loop-k.k in
    let source = c.index-rows-k.result in
    let rows = c.loop-k.scan.rows.items in
    let rows_are = c.loop-k.invariant.scan_is.brokers_are in
    let lk : k < length rows = at-row rows case k rows_are (omega (arith, ap length c.brokers-end.ensures.value, c.loop-k-test.true)) in
    let is : source ≡ get_or rows k source = rw c.as_slice-rows.ensures.value at c.index-rows-k.is in
    rw (← is) at (c.loop-k.invariant.scan_is.rows_are k source lk)

pub first_of-found-requires-clause-within : goal.first_of-found-requires-clause-within
first_of-found-requires-clause-within g c = λ _ _ i d l.
    let case = c.args.case.now in
    let lists = c.args.book.now.lists in
    let k = c.loop-k.k in
    let source = c.index-rows-k.result in
    let rows = c.loop-k.scan.rows.items in
    let rows_are = c.loop-k.invariant.scan_is.brokers_are in
    let lk : k < length rows = at-row rows case k rows_are (omega (arith, ap length c.brokers-end.ensures.value, c.loop-k-test.true)) in
    let is : source ≡ get_or rows k source = rw c.as_slice-rows.ensures.value at c.index-rows-k.is in
    let e = c.row-replicas.ensures ∙ order-row case lists c.args.order.now (λ (r : Row). r.id) rows k source c.requires.order rows_are lk is in
    let within = rw (← e) at (replicas_of-within case lists source.id) in
    omega (arith, within i d l, c.requires.belongs.lists_belong.one_each)

pub returns-in-Some : goal.returns-in-Some
returns-in-Some g c =
    let case = c.args.case.now in
    let lists = c.args.book.now.lists in
    let k = c.loop-k.k in
    let source = c.index-rows-k.result in
    let rows = c.loop-k.scan.rows.items in
    let rows_are = c.loop-k.invariant.scan_is.brokers_are in
    let lk : k < length rows = at-row rows case k rows_are (omega (arith, ap length c.brokers-end.ensures.value, c.loop-k-test.true)) in
    let is : source ≡ get_or rows k source = rw c.as_slice-rows.ensures.value at c.index-rows-k.is in
    let e = c.row-replicas.ensures ∙ order-row case lists c.args.order.now (λ (r : Row). r.id) rows k source c.requires.order rows_are lk is in
    record {
      first = rw (by-rows (λ (r : Row). r.id) (λ (b : ℕ). flat_map (candidates_at c.args.kind case lists b) (replicas_of case lists b)) rows case.brokers rows_are)
          (first-flat (Step case (map (λ x. g.G.Goal.meaning x case) c.args.earlier.now) (g.G.Goal.meaning c.args.goal.now case) lists) (λ (r : Row). flat_map (candidates_at c.args.kind case lists r.id) (replicas_of case lists r.id))
          rows k source c.in-Some.action lk c.loop-k.invariant.passed (rw is at (rw (c.in-Some.is, e) at c.first_of-found.ensures)));
      scan = c.loop-k.invariant.scan_is;
    }

pub pass-requires-clause-known : goal.pass-requires-clause-known
pass-requires-clause-known g c =
    let case = c.args.case.now in
    let lists = c.args.book.now.lists in
    let k = c.loop-k.k in
    let source = c.index-rows-k.result in
    let rows = c.loop-k.scan.rows.items in
    let rows_are = c.loop-k.invariant.scan_is.brokers_are in
    let lk : k < length rows = at-row rows case k rows_are (omega (arith, ap length c.brokers-end.ensures.value, c.loop-k-test.true)) in
    let is : source ≡ get_or rows k source = rw c.as_slice-rows.ensures.value at c.index-rows-k.is in
    rw (row-id (λ (r : Row). r.id) rows case k rows_are source lk is) (known-at case.brokers k (row-within-place case rows k rows_are lk))

pub pass-requires-clause-none : goal.pass-requires-clause-none
pass-requires-clause-none g c =
    let case = c.args.case.now in
    let lists = c.args.book.now.lists in
    let k = c.loop-k.k in
    let source = c.index-rows-k.result in
    let rows = c.loop-k.scan.rows.items in
    let rows_are = c.loop-k.invariant.scan_is.brokers_are in
    let lk : k < length rows = at-row rows case k rows_are (omega (arith, ap length c.brokers-end.ensures.value, c.loop-k-test.true)) in
    let is : source ≡ get_or rows k source = rw c.as_slice-rows.ensures.value at c.index-rows-k.is in
    let e = c.row-replicas.ensures ∙ order-row case lists c.args.order.now (λ (r : Row). r.id) rows k source c.requires.order rows_are lk is in
    rw (c.in_default.is, e) at c.first_of-found.ensures

pub loop-k-preserved : goal.loop-k-preserved
loop-k-preserved g c =
    let case = c.args.case.now in
    let lists = c.args.book.now.lists in
    let k = c.loop-k.k in
    let source = c.index-rows-k.result in
    let rows = c.loop-k.scan.rows.items in
    let rows_are = c.loop-k.invariant.scan_is.brokers_are in
    let lk : k < length rows = at-row rows case k rows_are (omega (arith, ap length c.brokers-end.ensures.value, c.loop-k-test.true)) in
    let is : source ≡ get_or rows k source = rw c.as_slice-rows.ensures.value at c.index-rows-k.is in
    let e = c.row-replicas.ensures ∙ order-row case lists c.args.order.now (λ (r : Row). r.id) rows k source c.requires.order rows_are lk is in
    let scan_is = c.loop-k.invariant.scan_is in
    record {
      passed = All-more (λ (r : Row). NoStep case (map (λ x. g.G.Goal.meaning x case) c.args.earlier.now) (g.G.Goal.meaning c.args.goal.now case) lists (flat_map (candidates_at c.args.kind case lists r.id) (replicas_of case lists r.id)))
          rows k source lk c.loop-k.invariant.passed (rw is at (rw (c.in_default.is, e) at c.first_of-found.ensures));
      scan_is = record {
        weights_are = scan_is.weights_are;
        brokers_are = scan_is.brokers_are;
        rows_are = scan_is.rows_are;
        below_are = scan_is.below_are;
        added_are = scan_is.added_are;
        stirring_are = scan_is.stirring_are;
        rests_are = c.pass.ensures;
      };
    }

pub returns : goal.returns
returns g c =
    let case = c.args.case.now in
    let lists = c.args.book.now.lists in
    let rows = c.loop-k.scan.rows.items in
    let rows_are = c.loop-k.invariant.scan_is.brokers_are in
    let all : length rows ≤ c.loop-k.k = no-more rows case c.loop-k.k rows_are (omega (arith, ap length c.brokers-end.ensures.value, c.loop-k-test.false)) in
    record {
      first = rw (by-rows (λ (r : Row). r.id) (λ (b : ℕ). flat_map (candidates_at c.args.kind case lists b) (replicas_of case lists b)) rows case.brokers rows_are)
          (none-flat (Step case (map (λ x. g.G.Goal.meaning x case) c.args.earlier.now) (g.G.Goal.meaning c.args.goal.now case) lists) (λ (r : Row). flat_map (candidates_at c.args.kind case lists r.id) (replicas_of case lists r.id)) rows (rw (take_all c.loop-k.k rows all) at c.loop-k.invariant.passed));
      scan = c.loop-k.invariant.scan_is;
    }
