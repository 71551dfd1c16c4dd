use Rattle.std.proofs.Common.{◌≡◌, map, length, arith, sym, ◌∙◌}
use Rattle.std.proofs.lemmas.Bool.{eqb-true}
use Rattle.candidate_order.proofs.StirLemmas.{none-still, none-stirs}
use Rattle.candidate_order.proofs.next.is_still.Goals as goal

pub returns : goal.returns
returns g c = λ still.
    let case = c.args.case.now in
    let lists = c.args.book.now.lists in
    let stirs = g.G.Goal.stirs_at c.args.goal.now case lists in
    let none : length c.args.stirring.now ≡ 0 = eqb-true (length c.args.stirring.now) 0 (sym c.is_empty.ensures ∙ still) in
    none-still case lists (g.G.Goal.meaning c.args.goal.now case) stirs
    (g.met.G.Goal.still_parts c.args.goal.now case lists c.requires.made_goal c.brokers-brokers.ensures.case c.requires.belongs.lists_belong)
    (λ p l. none-stirs stirs (length case.parts) c.args.stirring.now none c.requires.stirring.each p (omega (arith, l, c.requires.belongs.lists_belong.one_each)))
    (map (λ x. g.G.Goal.meaning x case) c.args.earlier.now)
