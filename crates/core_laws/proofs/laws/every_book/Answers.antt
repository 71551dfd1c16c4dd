use Rattle.core_laws.proofs.Follows.{admin_follows}
use Rattle.core_laws.proofs.Given.{entries_give_one_each}
use Rattle.core_laws.proofs.Problems.{problems_belong}
use Rattle.core_laws.proofs.Room.{room_is_kept}
use Rattle.core_laws.proofs.laws.every_book.Goals as goal

pub returns : goal.returns
returns c = record {
  given = entries_give_one_each;
  room = room_is_kept;
  follows = admin_follows;
  problems = problems_belong;
}
