use Rattle.std.proofs.Common.{◌≡◌, ◌<◌, ℕ, map, length, get_or, ◌∷◌, [], sym, ap, ◌∙◌, arith}
use Rattle.std.specs.Prelude.{Bool}
use Rattle.std.proofs.lemmas.List.{map-append, get_or-map, length-map}
use Rattle.std.proofs.lemmas.List.Elements.{All-push}
use Rattle.plan_terms.specs.Cluster.{ids_of}
use Rattle.candidate_order.specs.Scan.{IsRow, is_chosen}
use Rattle.candidate_order.specs.declared.kept.Row.{Row}
use Rattle.candidate_order.proofs.RowLemmas.{passed-more, passed-less}
use Rattle.candidate_order.proofs.kept.all_chosen.Goals as goal
use Rattle.candidate_order.proofs.kept.all_chosen.Goals.{then-is_chosen+in_ok-copy+in_ok-push, else-is_chosen}

pub loop-row-preserved : goal.loop-row-preserved
loop-row-preserved g c =
    let case = c.args.case.now in
    let lists = c.args.book.now.lists in
    let rows = c.args.rows.now in
    let ids = ids_of case.brokers in
    let i = c.loop-row.row-index in
    let row = c.row-item.result in
    let hot = g.G.Goal.heat_at c.args.goal.now case lists in
    let q : ℕ → Bool = λ b. is_chosen c.args.choice case b (hot b) in
    let is_row : IsRow g.G.Goal.weighs (λ x. g.G.Goal.room_at x case lists) hot c.args.earlier.now case row = rw (← c.row-item.is) at (c.requires.rows i row c.loop-row-test.true) in
    let l : i < length ids = omega (arith, c.loop-row-test.true, ap length c.requires.brokers, length-map rows (λ (r : Row). r.id)) in
    let at : row.id ≡ get_or ids i 0 = ap (λ (r : Row). r.id) c.row-item.is ∙ sym (get_or-map (λ (r : Row). r.id) rows i row 0 c.loop-row-test.true) ∙ ap (λ ys. get_or ys i 0) c.requires.brokers in
    elim c.if-is_chosen.branch [
      | then-is_chosen+in_ok-copy+in_ok-push w ↦ record {
        brokers_are = rw (w.chosen-is, w.in_ok-push.ensures.items, map-append (λ (r : Row). r.id) c.loop-row.chosen.items (w.in_ok-copy.copy ∷ []), w.in_ok-copy.ensures.id)
            (passed-more q ids i row.id l at (map (λ (r : Row). r.id) c.loop-row.chosen.items) c.loop-row.invariant.brokers_are (ap (is_chosen c.args.choice case row.id) (sym is_row.heat_is) ∙ sym w.if-is_chosen.ensures));
        rows_are = rw (w.chosen-is, w.in_ok-push.ensures.items)
            (All-push (IsRow g.G.Goal.weighs (λ x. g.G.Goal.room_at x case lists) hot c.args.earlier.now case) c.loop-row.chosen.items w.in_ok-copy.copy c.loop-row.invariant.rows_are
            (record {
              place_within = rw w.in_ok-copy.ensures.place is_row.place_within;
              place_is = rw (w.in_ok-copy.ensures.id, w.in_ok-copy.ensures.place) is_row.place_is;
              rooms_are = w.in_ok-copy.ensures.rooms ∙ rw w.in_ok-copy.ensures.id is_row.rooms_are;
              heat_is = w.in_ok-copy.ensures.heat ∙ rw w.in_ok-copy.ensures.id is_row.heat_is;
            }));
      }
      | else-is_chosen w ↦ record {
        brokers_are = rw w.chosen-is
            (passed-less q ids i row.id l at (map (λ (r : Row). r.id) c.loop-row.chosen.items) c.loop-row.invariant.brokers_are (ap (is_chosen c.args.choice case row.id) (sym is_row.heat_is) ∙ sym w.if-is_chosen.ensures));
        rows_are = rw w.chosen-is c.loop-row.invariant.rows_are;
      }
    ]
