use Rattle.std.proofs.Common.{get_or, sym, refl, ◌∙◌}
use Rattle.plan_terms.specs.Effect.{after}
use Rattle.candidate_order.specs.declared.kept.Row.{Row}
use Rattle.candidate_order.proofs.LookLemmas.{rooms-same}
use Rattle.candidate_order.proofs.kept.Scan.note.Goals as goal

pub returns : goal.returns
returns g c =
    let case = c.args.case.now in
    let lists = c.args.book.now.lists in
    let rows = c.args.self.now.rows.items in record {
      kept = record {
        weights_are = c.requires.scan.weights_are;
        brokers_are = c.requires.scan.brokers_are;
        rooms_are = λ k (d : Row) l not_giver not_taker.
            let r = get_or rows k d in
            (c.requires.scan.rows_are k d l).rooms_are
            ∙ rooms-same g.G.Goal.weighs (λ x. g.G.Goal.room_at x case lists r.id) (λ x. g.G.Goal.room_at x case (after c.args.action lists) r.id) c.args.earlier.now
            (λ i x m. sym (g.met.G.Goal.rooms_stay (get_or c.args.earlier.now i x) case lists (c.requires.made i x m) c.requires.belongs.lists_belong c.args.action c.requires.applies r.id
            (λ e. not_giver (e ∙ sym c.giver-self.ensures)) (λ e. not_taker (e ∙ sym c.taker-self.ensures))));
      };
      rests = refl;
    }
