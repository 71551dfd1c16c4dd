use Rattle.std.proofs.Common.{rules}
use Rattle.turn_book.proofs.Turns.{publishes_entry}
use Rattle.turn_book.proofs.table.BookTable.publish.Goals as goal

pub compare_exchange_with-requires : goal.compare_exchange_with-requires
compare_exchange_with-requires g c =
    let J = g.B.Journaled in
    let start = c.args.self.now.inner.shared.key.value in (
      search rules,
      search rules,
      publishes_entry J.opening J.journal J.blamed J.since start _ _ c.args.count c.args.place.now.me c.args.book c.requires.entry.0 c.requires.parts c.requires.holds c.requires.count c.requires.entry.1,
    )
