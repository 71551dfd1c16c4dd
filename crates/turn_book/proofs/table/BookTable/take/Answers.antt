use Rattle.std.proofs.Common.{rules, ◌<◌, ◌∷◌, Some, subst, sym, ap, ◌∙◌}
use Rattle.atomic_table.specs.Table.{rest}
use Rattle.turn_book.specs.Plays.{Seated}
use Rattle.turn_book.proofs.Turns.{takes_turn}
use Rattle.turn_book.proofs.table.BookTable.take.Goals as goal

pub compare_exchange-requires : goal.compare_exchange-requires
compare_exchange-requires g c =
    let J = g.B.Journaled in
    (search rules, search rules, takes_turn J.opening J.journal J.blamed J.since c.args.self.now.inner.shared.key.value _ _ _ (subst (λ (m : Seated g.row.B.Denot g.row.B-Opening.Denot g.row.B-Event.Denot). 0 < m.0.parts) (sym c.loop.invariant.1) c.requires.own.idle.some_part))

pub exchange-requires : goal.exchange-requires
exchange-requires g c =
    let took = c.compare_exchange.ensures.2.0 c.if-compare_exchange-eq0.true in
    (search rules, (Some took.book, took.carried ∙ ap (λ l. (0, Some took.book) ∷ l) (sym (ap rest took.carried))))
