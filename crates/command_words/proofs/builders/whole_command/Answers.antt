use Rattle.std.proofs.Common.{◌≡◌, ◌∙◌, ap, ap₂, true, codes}
use Rattle.std.proofs.lemmas.Result.{IfOk-weaker}
use Rattle.clap.specs.Simple.{app_of_fields, on_top}
use Rattle.clap.specs.Words.{App, app_of, new_app, with_subcommand}
use Rattle.command_words.specs.Arguments.{apply_app, check_app, gen_app, plan_app, program, session_app}
use Rattle.command_words.proofs.builders.whole_command.Goals as goal

abbrev nameless : App → App
nameless = on_top (λ s. record s { no_binary_name = true })

abbrev wanting : App → App
wanting = on_top (λ s. record s { subcommand_required = true })

pub returns : goal.returns
returns c =
    let first : app_of c.no_binary_name.result ≡ nameless (new_app (codes "sumpharu")) = ap app_of_fields c.no_binary_name.ensures ∙ ap nameless c.new.ensures.app in
    let top : app_of c.subcommand_required-program.result ≡ program = ap app_of_fields c.subcommand_required-program.ensures ∙ ap wanting first in
    let shape = λ (a : App). a.top in
    let with_plan : app_of c.in_ok-with_plan.with_plan ≡ with_subcommand program plan_app.top =
    c.in_ok-with_plan.ensures.shape c.in_ok-plan.ensures.local ∙ ap₂ with_subcommand top (ap shape c.in_ok-plan.ensures.app) in
    let with_check : app_of c.in_ok-with_check.with_check ≡ with_subcommand (with_subcommand program plan_app.top) check_app.top =
    c.in_ok-with_check.ensures.shape c.in_ok-check.ensures.local ∙ ap₂ with_subcommand with_plan (ap shape c.in_ok-check.ensures.app) in
    let with_apply : app_of c.in_ok-with_apply.with_apply ≡ with_subcommand (with_subcommand (with_subcommand program plan_app.top) check_app.top) apply_app.top =
    c.in_ok-with_apply.ensures.shape c.in_ok-apply.ensures.local ∙ ap₂ with_subcommand with_check (ap shape c.in_ok-apply.ensures.app) in
    let with_gen : app_of c.in_ok-with_gen.with_gen ≡ with_subcommand (with_subcommand (with_subcommand (with_subcommand program plan_app.top) check_app.top) apply_app.top) gen_app.top =
    c.in_ok-with_gen.ensures.shape c.in_ok-generate.ensures.local ∙ ap₂ with_subcommand with_apply (ap shape c.in_ok-generate.ensures.app) in
    let with_session : app_of c.in_ok-with_session.with_session ≡ with_subcommand (with_subcommand (with_subcommand (with_subcommand (with_subcommand program plan_app.top) check_app.top) apply_app.top) gen_app.top) session_app.top =
    c.in_ok-with_session.ensures.shape c.in_ok-session.ensures.local ∙ ap₂ with_subcommand with_gen (ap shape c.in_ok-session.ensures.app) in
    IfOk-weaker c.subcommand-6.result _ _ (λ r h. h.shape c.in_ok-serve.ensures.local ∙ ap₂ with_subcommand with_session (ap shape c.in_ok-serve.ensures.app)) c.subcommand-6.ensures
