use Rattle.std.proofs.Common.{◌∙◌, ◌+◌, ◌≤◌, arith, sym, length}
use Rattle.control_core.proofs.Opened.{opened_book}
use Rattle.control_core.proofs.Stepped.{where_ok}
use Rattle.control_core.proofs.book.Book.begin.Goals as goal

pub invariant_of-result : goal.invariant_of-result
invariant_of-result g c =
    let room : length c.new-journal.result.events + 1 ≤ c.reserve.new.self.room =
    where_ok (length c.new-journal.result.events + 1 ≤ c.reserve.new.self.room) c.reserve.result (sym c.is_err.ensures.value ∙ c.if-is_err.false) c.reserve.ensures.room in
    rw (c.reserve.ensures.events, c.new-journal.ensures.events)
    (opened_book (g.A.Admin.told c.args.admin) (g.A.Admin.told c.install.new.self) (g.A.Admin.parts c.install.new.self) (g.A.Admin.faults c.install.new.self) c.in-Ok.machine
    c.reserve.new.self.room c.in-Ok.ensures.input c.in-Ok.ensures.windows c.in-Ok.ensures.desk c.in-Ok.ensures.stands c.in-Ok.ensures.since (rw c.lists.ensures.value at c.in-Ok-install.ensures.lists)
    (rw c.lists.ensures.value at c.in-Ok-install.ensures.parts) (omega (arith, room)))
