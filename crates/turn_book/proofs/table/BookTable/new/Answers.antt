use Rattle.std.proofs.Common.{rules}
use Rattle.turn_book.proofs.Turns.{begins_table}
use Rattle.turn_book.proofs.table.BookTable.new.Goals as goal

pub new-requires : goal.new-requires
new-requires g c =
    let J = g.B.Journaled in
    let is = c.of-about.ensures in
    begins_table J.opening J.journal J.blamed J.since c.of-about.result.value c.entries.result c.blame_so_far.result c.push.new.self.items (search rules) (search rules) (search rules) (g.met.B.Journaled.stays _)
