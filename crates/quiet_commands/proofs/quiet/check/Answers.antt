use Rattle.cluster_json.specs.Views.{file_seen}
use Rattle.core_terms.specs.Asked.{goals_of}
use Rattle.quiet_commands.specs.Input.{planned_for}
use Rattle.quiet_commands.proofs.Made.{check_view}
use Rattle.quiet_commands.proofs.quiet.check.Goals as goal

pub returns-clause-made : goal.returns-clause-made
returns-clause-made g c =
    let p = c.args.planning.now in
    check_view (planned_for p.ask (file_seen c.args.file)) (goals_of p.ask) (g.F.Files.contents c.args.files.now c.args.trace.now) c.in_ok-bytes.bytes.items c.in_ok-judge.field-0
    c.in_ok-bytes.ensures.bytes (rw (c.deref.ensures.value, c.in_ok-loaded.ensures.value, p.named) at c.in_ok-judge.ensures)
