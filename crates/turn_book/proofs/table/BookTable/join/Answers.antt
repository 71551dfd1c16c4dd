use Rattle.std.proofs.Common.{rules, ap}
use Rattle.turn_book.proofs.Sharing.{joins, compares, told_longer}
use Rattle.turn_book.proofs.table.BookTable.join.Goals as goal

pub join_seat-requires : goal.join_seat-requires
join_seat-requires g c = let J = g.B.Journaled in let own = c.requires.own.idle in let other = c.requires.other.idle in (search rules, search rules, search rules, search rules, joins J.opening J.journal J.blamed J.since c.args.self.now.inner.shared.key.value _ _ _ _ own.some_part own.free other.free)

pub load-requires : goal.load-requires
load-requires g c = let J = g.B.Journaled in (search rules, search rules, compares J.opening J.journal J.blamed J.since c.args.self.now.inner.shared.key.value _ _ _)

pub returns-clause-longer : goal.returns-clause-longer
returns-clause-longer g c = let J = g.B.Journaled in (told_longer J.opening J.journal J.blamed J.since c.args.self.now.inner.shared.key.value c.args.place.now.me.0 c.args.other.me.0 c.join_seat.new.seat.me c.load.new.seat.me _ (ap (λ m. m.0) c.join_seat.ensures.2) c.load.ensures.2).0

pub returns-clause-others : goal.returns-clause-others
returns-clause-others g c = let J = g.B.Journaled in (told_longer J.opening J.journal J.blamed J.since c.args.self.now.inner.shared.key.value c.args.place.now.me.0 c.args.other.me.0 c.join_seat.new.seat.me c.load.new.seat.me _ (ap (λ m. m.0) c.join_seat.ensures.2) c.load.ensures.2).1
