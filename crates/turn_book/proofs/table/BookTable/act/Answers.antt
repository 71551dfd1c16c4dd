use Rattle.std.proofs.Common.{rules}
use Rattle.turn_book.proofs.Turns.{blames_taken}
use Rattle.turn_book.proofs.table.BookTable.act.Goals as goal

pub store-requires : goal.store-requires
store-requires g c =
    let J = g.B.Journaled in
    (search rules, search rules, blames_taken J.opening J.journal J.blamed J.since c.args.self.now.inner.shared.key.value _ _ c.blame-blame.result c.args.place.now.me.0 c.take-book.new.place.me c.take-book.result c.take-book.ensures.turn c.requires.own.idle.some_part (search rules))
