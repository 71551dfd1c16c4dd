use Rattle.std.proofs.Common.{◌≡◌, ◌∙◌, false, sym, rules}
use Rattle.std.specs.Prelude.{None}
use Rattle.core_terms.specs.State.{Core, moment_of}
use Rattle.core_terms.specs.Submits.{open_refusal}
use Rattle.control_core.specs.Machines.{core_of}
use Rattle.control_core.proofs.Resizes.{changes_are, desk_refused, desk_taken, if_ok, is_taken, on_ok, on_ok_too, reply_refused, reply_taken}
use Rattle.control_core.proofs.machine.Machine.change.Goals as goal

pub change-requires-clause-may : goal.change-requires-clause-may
change-requires-clause-may c =
    let m = c.args.self.now in
    let ask = c.args.ask.now in
    let stands = c.requires.ready.stands in
    let s : Core = core_of m stands.0 in
    let here = c.in_ok-case.ensures.value stands.0 stands.1 in
    let lasting : m.desk.closing ≡ false = search rules in
    let free : open_refusal m.desk ask ≡ None = sym c.open_refusal.ensures.refusal ∙ c.in_default.is in
    let taken = is_taken c.in_ok-case.case (moment_of m.file s) m.desk ask c.in_ok-start.start here c.in_ok-start.ensures lasting free c.in-Ok.ensures.faultless in
    let made = changes_are c.in_ok-case.case (moment_of m.file s) m.desk ask c.in_ok-start.start here c.in_ok-start.ensures lasting free c.in-Ok.changes.items c.in-Ok.ensures.changes in
    rw made (c.every_event.ensures.changes m.file s ask c.requires.ready.input c.requires.ready.sound c.requires.asks taken)

pub returns-in-Ok-clause-reply : goal.returns-in-Ok-clause-reply
returns-in-Ok-clause-reply c =
    let m = c.args.self.now in
    let ask = c.args.ask.now in
    let lasting : m.desk.closing ≡ false = search rules in
    let free : open_refusal m.desk ask ≡ None = sym c.open_refusal.ensures.refusal ∙ c.in_default.is in
    if_ok _ _ c.change.result (λ r e samples stands. reply_taken c.in_ok-case.case (moment_of m.file (core_of m samples)) m.desk ask c.in_ok-start.start (c.in_ok-case.ensures.value samples stands) c.in_ok-start.ensures lasting free
    m.file.cluster.parts c.in-Ok.changes.items c.in-Ok.ensures.changes c.in-Ok.ensures.faultless r (rw (c.parts-parts.ensures.value, c.case-in-Ok.ensures.value) at e)) c.change.ensures.reply

pub returns-in-Ok-clause-desk : goal.returns-in-Ok-clause-desk
returns-in-Ok-clause-desk c =
    let m = c.args.self.now in
    let ask = c.args.ask.now in
    let lasting : m.desk.closing ≡ false = search rules in
    let free : open_refusal m.desk ask ≡ None = sym c.open_refusal.ensures.refusal ∙ c.in_default.is in
    on_ok_too _ _ c.change.result (λ e samples stands. desk_taken c.in_ok-case.case (moment_of m.file (core_of m samples)) m.desk ask c.in_ok-start.start (c.in_ok-case.ensures.value samples stands) c.in_ok-start.ensures lasting free
    m.file.cluster.parts c.in-Ok.changes.items c.in-Ok.ensures.changes c.in-Ok.ensures.faultless c.change.new.self e) c.change.ensures.state

pub returns-clause-reply : goal.returns-clause-reply
returns-clause-reply c =
    let m = c.args.self.now in
    let ask = c.args.ask.now in
    let lasting : m.desk.closing ≡ false = search rules in
    let free : open_refusal m.desk ask ≡ None = sym c.open_refusal.ensures.refusal ∙ c.in_default.is in
    if_ok _ _ c.refused.result (λ r e samples stands. reply_refused c.in_ok-case.case (moment_of m.file (core_of m samples)) m.desk ask c.in_ok-start.start (c.in_ok-case.ensures.value samples stands) c.in_ok-start.ensures lasting free
    c.in-Err.fault r e c.in-Err.ensures.fault m.file.cluster.parts) c.refused.ensures

pub returns-clause-desk : goal.returns-clause-desk
returns-clause-desk c =
    let m = c.args.self.now in
    let ask = c.args.ask.now in
    let lasting : m.desk.closing ≡ false = search rules in
    let free : open_refusal m.desk ask ≡ None = sym c.open_refusal.ensures.refusal ∙ c.in_default.is in
    on_ok _ _ c.refused.result (λ r e samples stands. desk_refused c.in_ok-case.case (moment_of m.file (core_of m samples)) m.desk ask c.in_ok-start.start (c.in_ok-case.ensures.value samples stands) c.in_ok-start.ensures lasting free
    c.in-Err.fault r e c.in-Err.ensures.fault) c.refused.ensures
