use Rattle.std.proofs.Common.{rules, ◌+◌, ◌%◌, ◌^◌}
use Rattle.turn_book.proofs.Sharing.{stirs_any}
use Rattle.turn_book.proofs.table.BookTable.stir_if.Goals as goal

pub fetch_add-requires : goal.fetch_add-requires
fetch_add-requires g c = let J = g.B.Journaled in (search rules, search rules, stirs_any J.opening J.journal J.blamed J.since c.args.self.now.inner.shared.key.value (λ n. (n + 1) % 2 ^ 64) _ _ 1 _)
