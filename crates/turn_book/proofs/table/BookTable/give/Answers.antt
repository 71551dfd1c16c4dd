use Rattle.std.proofs.Common.{rules}
use Rattle.turn_book.proofs.Turns.{releases_given}
use Rattle.turn_book.proofs.table.BookTable.give.Goals as goal

pub store-requires : goal.store-requires
store-requires g c =
    let J = g.B.Journaled in
    (search rules, search rules, releases_given J.opening J.journal J.blamed J.since c.args.self.now.inner.shared.key.value _ _ c.args.place.now.me c.exchange.new.seat.me c.args.book _ c.requires.may c.exchange.ensures.3)
