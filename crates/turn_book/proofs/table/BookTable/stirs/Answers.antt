use Rattle.std.proofs.Common.{rules}
use Rattle.turn_book.proofs.Sharing.{stirs_any}
use Rattle.turn_book.proofs.table.BookTable.stirs.Goals as goal

pub load-requires : goal.load-requires
load-requires g c = let J = g.B.Journaled in (search rules, search rules, stirs_any J.opening J.journal J.blamed J.since c.args.self.now.inner.shared.key.value (λ n. n) _ _ 0 _)
