use Rattle.std.proofs.Common.{◌≡◌, ℕ, List, [], ap, ◌∙◌, sym}
use Rattle.cluster_gate.specs.declared.memory.MemoryCluster.{MemoryCluster}
use Rattle.cluster_json.specs.Views.{file_seen}
use Rattle.control_core.specs.Books.{BookView}
use Rattle.core_terms.specs.Jobs.{id_at}
use Rattle.core_terms.specs.declared.replies.Reply.{Reply}
use Rattle.core_terms.specs.declared.replies.Reply.TheVariants as reply
use Rattle.plan_terms.specs.Fraction.{Fraction}
use Rattle.request_runs.specs.Runs.{without_share}
use Rattle.request_runs.proofs.Made.{accepted}
use Rattle.request_runs.proofs.run.begin.Goals as goal

-- the reply to the first request
pub unreachable-requires-in_default-reply : goal.unreachable-requires-in_default-reply
unreachable-requires-in_default-reply c =
    let file : c.in-Ok.book.file ≡ without_share (file_seen c.args.file) =
    ap (λ (b : BookView MemoryCluster). b.file) c.in-Ok.ensures.opened ∙ ap (λ (x : Fraction). record (file_seen c.args.file) { ratio = x }) c.in-Some.ensures.1 in
    let journal : c.in-Ok.book.journal ≡ [] = ap (λ (b : BookView MemoryCluster). b.journal) c.in-Ok.ensures.opened in
    c.in_default-reply.not-Accepted (id_at 0)
    (accepted (file_seen c.args.file) c.args.ask c.requires.brokers c.requires.goals c.requires.carried c.requires.plans c.in-Ok.book c.in-Ok-step.reply file journal c.in-Ok-step.ensures.reply)

pub returns-clause-id : goal.returns-clause-id
returns-clause-id c =
    let file : c.in-Ok.book.file ≡ without_share (file_seen c.args.file) =
    ap (λ (b : BookView MemoryCluster). b.file) c.in-Ok.ensures.opened ∙ ap (λ (x : Fraction). record (file_seen c.args.file) { ratio = x }) c.in-Some.ensures.1 in
    let journal : c.in-Ok.book.journal ≡ [] = ap (λ (b : BookView MemoryCluster). b.journal) c.in-Ok.ensures.opened in
    let is : c.in-Ok-step.reply ≡ reply.Accepted (id_at 0) =
    accepted (file_seen c.args.file) c.args.ask c.requires.brokers c.requires.goals c.requires.carried c.requires.plans c.in-Ok.book c.in-Ok-step.reply file journal c.in-Ok-step.ensures.reply in
    same c.in-Accepted.id (id_at 0) (sym c.in-Accepted.is ∙ is)
  where
    same : (a b : List ℕ) → ◌≡◌ {A = Reply} (reply.Accepted a) (reply.Accepted b) → a ≡ b
    same a b e = cc
