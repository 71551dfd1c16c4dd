use Rattle.std.proofs.Common.{ℕ, ap, subst}
use Rattle.std.specs.Prelude.{IfSome}
use Rattle.cluster_json.specs.File.{Meaning}
use Rattle.cluster_json.specs.Views.{file_seen}
use Rattle.control_core.specs.Books.{BookView}
use Rattle.live_service.specs.Asked.{crew_view}
use Rattle.cc_program.specs.Lives.{IsOver, gate}
use Rattle.cc_program.proofs.Inserted.{left_begun}
use Rattle.cc_program.proofs.lives.begin.Goals as goal

pub returns-in-Ok-begin : goal.returns-in-Ok-begin
returns-in-Ok-begin g c =
    let crew = crew_view c.args.crew in
    let told = gate g.A.Admin.faults g.A.Admin.told in
    let left = c.live.result.1 in
    let begun = subst (λ (m : Meaning). IfSome left.book (λ b. IsOver told (g.A.Admin.faults c.in-Ok-begin.book.admin) m crew c.args.outside left b c.live.result.0))
    (ap (λ (b : BookView g.row.A.Denot). b.file) c.in-Ok-begin.ensures.opened) (c.live.ensures.over c.args.outside c.in-Ok.ensures.team) in
    let over = subst (λ (n : ℕ). IfSome left.book (λ b. IsOver told n (file_seen c.args.file) crew c.args.outside left b c.live.result.0)) c.in-Ok-begin.ensures.counted begun in
    record { left = left_begun told (file_seen c.args.file) crew c.args.outside c.args.admin left left.book c.live.result.0 c.live.ensures.begun over }
