use Rattle.std.proofs.Common.{◌≡◌, ◌∙◌, ap, subst}
use Rattle.std.specs.Prelude.{Option}
use Rattle.cluster_json.specs.Views.{file_seen}
use Rattle.control_core.specs.Books.{state_of}
use Rattle.core_terms.specs.Asked.{case_of, goals_of}
use Rattle.core_terms.specs.declared.jobs.Broken.{Broken}
use Rattle.plan_terms.specs.Cluster.{Cluster}
use Rattle.request_runs.specs.Runs.{CameOf, cluster_asked}
use Rattle.quiet_commands.proofs.Applied.{applied_made, given_up_made}
use Rattle.quiet_commands.proofs.applies.apply.Goals as goal

pub returns-in-None : goal.returns-in-None
returns-in-None g c =
    let r = c.in_ok-book in
    let m = file_seen c.args.file in
    let ask = c.args.planning.ask in
    let same : c.in_ok-case.case ≡ cluster_asked ask m = c.in_ok-case.ensures.value ∙ ap (λ (x : Cluster). case_of ask x) c.in_ok-present.ensures.value in
    let came = subst (λ (o : Option Broken). CameOf (cluster_asked ask m) m.lists (goals_of ask) o (state_of r.field-0.book).desk.exec) c.in-None.is r.ensures.came in
    applied_made m ask r.field-0.book r.ensures.run c.in_ok-case.case c.lists_text.result same came c.lists_text.ensures.text c.lists_text.ensures.end

pub returns : goal.returns
returns g c =
    let r = c.in_ok-book in
    let m = file_seen c.args.file in
    let ask = c.args.planning.ask in
    let came = subst (λ (o : Option Broken). CameOf (cluster_asked ask m) m.lists (goals_of ask) o (state_of r.field-0.book).desk.exec) c.in-Some.is r.ensures.came in
    given_up_made m ask r.field-0.book r.ensures.run c.in-Some.broken c.goal_failed_with.result came c.goal_failed_with.ensures.text c.goal_failed_with.ensures.end
