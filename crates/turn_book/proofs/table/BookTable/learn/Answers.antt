use Rattle.std.proofs.Common.{rules}
use Rattle.turn_book.proofs.Turns.{looks_history}
use Rattle.turn_book.proofs.table.BookTable.learn.Goals as goal

pub load-requires : goal.load-requires
load-requires g c = let J = g.B.Journaled in (search rules, search rules, looks_history J.opening J.journal J.blamed J.since c.args.self.now.inner.shared.key.value _ _ _)
