use Rattle.std.proofs.Common.{◌≡◌, false, sym, append-nil}
use Rattle.plan_terms.specs.Cluster.{list_of, has}
use Rattle.move_actions.proofs.NoMember.{no_moves_from}
use Rattle.move_actions.proofs.listing.push_moves_at.Goals as goal

pub returns-else-has : goal.returns-else-has
returns-else-has c =
    let none : has (list_of c.args.lists.now c.args.part) c.args.from ≡ false = rw c.list_at.ensures at (sym c.if-has.ensures) in
    rw (no_moves_from c.args.case.now c.args.lists.now c.args.part c.args.from none c.args.case.now.brokers) (sym (append-nil c.args.out.now.items))
