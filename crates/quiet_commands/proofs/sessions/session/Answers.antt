use Rattle.std.proofs.Common.{rules, ◌≡◌, Bool, true, false, List, [], inr, refl, ap, sym, subst}
use Rattle.std.specs.Prelude.{Some}
use Rattle.cluster_gate.specs.declared.memory.MemoryCluster.{MemoryCluster}
use Rattle.cluster_json.specs.File.{Meaning}
use Rattle.cluster_json.specs.Views.{file_seen}
use Rattle.control_core.specs.Books.{BookView}
use Rattle.review_board.specs.Asked.{known_by_owner}
use Rattle.review_board.specs.declared.events.BoardEvent.{BoardEvent}
use Rattle.quiet_commands.specs.Edges.{io_view}
use Rattle.quiet_commands.specs.Sessions.{DidSession}
use Rattle.quiet_commands.proofs.sessions.session.Goals as goal

pub returns-then-review-clause-did : goal.returns-then-review-clause-did
returns-then-review-clause-did g c =
    let io = io_view g.L.Source g.L.Sink c.args.console.now c.serve.new.console in
    let file : c.in-Ok.book.file ≡ file_seen c.args.file = ap (λ (b : BookView MemoryCluster). b.file) c.in-Ok.ensures.opened in
    let review : c.args.review ≡ true = search rules in
    let began = ap (λ (j : List BoardEvent). Some (known_by_owner j)) c.new-then-review.ensures in
    let did = subst (λ (m : Meaning). DidSession m true io c.serve.result) file (c.serve.ensures.did true c.serve.new.reviewer began refl) in
    inr (subst (λ (b : Bool). DidSession (file_seen c.args.file) b io c.serve.result) (sym review) did)

pub returns-in-Ok-clause-did : goal.returns-in-Ok-clause-did
returns-in-Ok-clause-did g c =
    let s = c.serve-else-review in
    let io = io_view g.L.Source g.L.Sink c.args.console.now s.new.console in
    let file : c.in-Ok.book.file ≡ file_seen c.args.file = ap (λ (b : BookView MemoryCluster). b.file) c.in-Ok.ensures.opened in
    let review : c.args.review ≡ false = search rules in
    let did = subst (λ (m : Meaning). DidSession m false io s.result) file (s.ensures.did false [] refl refl) in
    inr (subst (λ (b : Bool). DidSession (file_seen c.args.file) b io s.result) (sym review) did)
