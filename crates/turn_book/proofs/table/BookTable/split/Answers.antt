use Rattle.std.proofs.Common.{rules}
use Rattle.turn_book.proofs.Sharing.{splits}
use Rattle.turn_book.proofs.table.BookTable.split.Goals as goal

pub split_seat-requires : goal.split_seat-requires
split_seat-requires g c = let J = g.B.Journaled in (search rules, search rules, splits J.opening J.journal J.blamed J.since c.args.self.now.inner.shared.key.value _ _ c.requires.parts c.requires.own.idle.free)
