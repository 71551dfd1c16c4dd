use Rattle.std.proofs.Common.{◌≡◌, ◌∙◌, ◌+◌, ◌<◌, ◌≤◌, ◌^◌, ◌++◌, ◌∷◌, [], cond, length, sym, ap, arith}
use Rattle.core_terms.specs.State.{Core, Desk}
use Rattle.core_terms.specs.Step.{reply_of}
use Rattle.core_terms.specs.History.{is_sure, kept_for}
use Rattle.core_terms.specs.Writes.{calls_after, told_after}
use Rattle.control_core.proofs.Stepped.{installed_is, is_now, now, ready, room_for_one, stepped, where_ok}
use Rattle.control_core.proofs.book.Book.step.Goals as goal

pub make_room-requires-clause-tickets : goal.make_room-requires-clause-tickets
make_room-requires-clause-tickets g c =
    let b = c.self.inside in
    (ready (g.A.Admin.told b.admin) (g.A.Admin.parts b.admin) (g.A.Admin.faults b.admin) b.machine b.journal.events b.journal.room b.failures b.late c.self.invariant).sound.tickets

pub write-requires-clause-few : goal.write-requires-clause-few
write-requires-clause-few g c =
    let b = c.self.inside in
    (ready (g.A.Admin.told b.admin) (g.A.Admin.parts b.admin) (g.A.Admin.faults b.admin) b.machine b.journal.events b.journal.room b.failures b.late c.self.invariant).leases

pub write-requires-clause-installed : goal.write-requires-clause-installed
write-requires-clause-installed g c =
    let b = c.self.inside in
    installed_is (g.A.Admin.told b.admin) (g.A.Admin.parts b.admin) (g.A.Admin.faults b.admin) b.machine b.journal.events b.journal.room b.failures b.late c.self.invariant

pub serve-requires : goal.serve-requires
serve-requires g c =
    let b = c.self.inside in
    ready (g.A.Admin.told b.admin) (g.A.Admin.parts b.admin) (g.A.Admin.faults b.admin) b.machine b.journal.events b.journal.room b.failures b.late c.self.invariant

pub enter-requires : goal.enter-requires
enter-requires g c =
    let b = c.self.inside in
    let room : length b.journal.events + cond (is_sure b.machine.desk c.args.event) (kept_for b.machine.desk) (kept_for b.machine.desk + 2) ≤ c.make_room.new.journal.room =
    where_ok (length b.journal.events + cond (is_sure b.machine.desk c.args.event) (kept_for b.machine.desk) (kept_for b.machine.desk + 2) ≤ c.make_room.new.journal.room) c.make_room.result
    (sym c.is_err.ensures.value ∙ c.if-is_err.false) c.make_room.ensures.room in
    rw c.make_room.ensures.events (room_for_one (g.A.Admin.told b.admin) (g.A.Admin.parts b.admin) (g.A.Admin.faults b.admin) b.machine b.journal.events b.journal.room b.failures b.late c.self.invariant c.args.event c.make_room.new.journal.room c.is_legal.ensures room)

pub invariant_of-self-in-Ok : goal.invariant_of-self-in-Ok
invariant_of-self-in-Ok g c =
    let b = c.self.inside in
    let room : length b.journal.events + cond (is_sure b.machine.desk c.args.event) (kept_for b.machine.desk) (kept_for b.machine.desk + 2) ≤ c.make_room.new.journal.room =
    where_ok (length b.journal.events + cond (is_sure b.machine.desk c.args.event) (kept_for b.machine.desk) (kept_for b.machine.desk + 2) ≤ c.make_room.new.journal.room) c.make_room.result
    (sym c.is_err.ensures.value ∙ c.if-is_err.false) c.make_room.ensures.room in
    let told : g.A.Admin.told c.write.new.admin ≡ told_after b.machine.desk.exec c.args.event (g.A.Admin.told b.admin) =
    where_ok (g.A.Admin.told c.write.new.admin ≡ told_after b.machine.desk.exec c.args.event (g.A.Admin.told b.admin)) c.write.result (sym c.is_err-2.ensures.value ∙ c.if-is_err-2.false) c.write.ensures.told in
    let items : c.enter.new.self.events ≡ b.journal.events ++ c.args.event ∷ [] = rw c.make_room.ensures.events at c.enter.ensures.events in
    let short : length (b.journal.events ++ c.args.event ∷ []) < 2 ^ 63 = rw items at c.enter.ensures.short in
    rw items
    (stepped (g.A.Admin.told b.admin) (g.A.Admin.parts b.admin) (g.A.Admin.faults b.admin) b.machine b.journal.events b.journal.room b.failures b.late c.self.invariant c.serve.new.self c.args.event c.enter.new.self.room (g.A.Admin.parts c.write.new.admin)
    (g.A.Admin.faults c.write.new.admin) (g.A.Admin.told c.write.new.admin) c.is_legal.ensures c.serve.ensures.file c.serve.ensures.windows c.in-Ok.ensures.desk c.in-Ok.ensures.stands c.in-Ok.ensures.since told
    c.write.ensures.parts c.write.ensures.later (omega (arith, room, c.enter.ensures.room)) short)

pub returns-in-Ok-clause-entry : goal.returns-in-Ok-clause-entry
returns-in-Ok-clause-entry g c = rw (← c.self.view_is) (rw c.make_room.ensures.events at c.enter.ensures.events)

pub returns-in-Ok-clause-reply : goal.returns-in-Ok-clause-reply
returns-in-Ok-clause-reply g c =
    let b = c.self.inside in
    let state = now (g.A.Admin.told b.admin) (g.A.Admin.parts b.admin) (g.A.Admin.faults b.admin) b.machine b.journal.events b.journal.room b.failures b.late c.self.invariant in
    rw (← c.self.view_is) (c.in-Ok.ensures.reply state.samples c.self.invariant.stands ∙ ap (λ (s : Core). reply_of b.machine.file s c.args.event) (is_now (g.A.Admin.told b.admin) (g.A.Admin.parts b.admin) (g.A.Admin.faults b.admin) b.machine b.journal.events b.journal.room b.failures b.late c.self.invariant))

pub returns-in-Ok-clause-called : goal.returns-in-Ok-clause-called
returns-in-Ok-clause-called g c =
    let b = c.self.inside in
    let called : g.A.Admin.calls c.write.new.admin ≡ calls_after b.machine.desk.exec c.args.event (g.A.Admin.calls b.admin) =
    where_ok (g.A.Admin.calls c.write.new.admin ≡ calls_after b.machine.desk.exec c.args.event (g.A.Admin.calls b.admin)) c.write.result (sym c.is_err-2.ensures.value ∙ c.if-is_err-2.false) c.write.ensures.called in
    rw (← c.self.view_is) (called ∙ ap (λ (d : Desk). calls_after d.exec c.args.event (g.A.Admin.calls b.admin)) c.self.invariant.desk_is)

pub returns-in-Ok-clause-faultless : goal.returns-in-Ok-clause-faultless
returns-in-Ok-clause-faultless g c =
    let b = c.self.inside in
    rw (← c.self.view_is) (where_ok (g.A.Admin.faults c.write.new.admin ≡ g.A.Admin.faults b.admin) c.write.result (sym c.is_err-2.ensures.value ∙ c.if-is_err-2.false) c.write.ensures.counted)
