use Rattle.std.proofs.Common.{◌≡◌, ◌∙◌, ap₂, false, ◌||◌, codes}
use Rattle.std.proofs.lemmas.Result.{IfOk-weaker}
use Rattle.clap.specs.Words.{app_of, new_app, with_rule}
use Rattle.clap.specs.declared.builder.command.Command.TheViews.{out-Command}
use Rattle.command_words.specs.Arguments.{excluded_rule, file_rule, goals_rule, skip_rule}
use Rattle.command_words.proofs.builders.plan_command.Goals as goal

pub returns : goal.returns
returns c =
    let s0 = c.new-named.ensures.app in
    let l0 = c.new-named.ensures.local in
    let s1 : app_of c.in_ok-with_file.with_file ≡ with_rule (new_app (codes "plan")) file_rule = c.in_ok-with_file.ensures.shape c.file.ensures.local ∙ ap₂ with_rule s0 c.file.ensures.rule in
    let l1 : (out-Command c.in_ok-with_file.with_file).has_globals ≡ false = c.in_ok-with_file.ensures.globals ∙ ap₂ ◌||◌ l0 c.file.ensures.local in
    let s2 : app_of c.in_ok-with_goals.with_goals ≡ with_rule (with_rule (new_app (codes "plan")) file_rule) goals_rule = c.in_ok-with_goals.ensures.shape c.goals.ensures.local ∙ ap₂ with_rule s1 c.goals.ensures.rule in
    let l2 : (out-Command c.in_ok-with_goals.with_goals).has_globals ≡ false = c.in_ok-with_goals.ensures.globals ∙ ap₂ ◌||◌ l1 c.goals.ensures.local in
    let s3 : app_of c.in_ok-with_skip_hard_goal_check.with_skip_hard_goal_check ≡ with_rule (with_rule (with_rule (new_app (codes "plan")) file_rule) goals_rule) skip_rule = c.in_ok-with_skip_hard_goal_check.ensures.shape c.skip_hard_goal_check.ensures.local ∙ ap₂ with_rule s2 c.skip_hard_goal_check.ensures.rule in
    let l3 : (out-Command c.in_ok-with_skip_hard_goal_check.with_skip_hard_goal_check).has_globals ≡ false = c.in_ok-with_skip_hard_goal_check.ensures.globals ∙ ap₂ ◌||◌ l2 c.skip_hard_goal_check.ensures.local in
    let s4 : app_of c.in_ok-with_excluded_topics.with_excluded_topics ≡ with_rule (with_rule (with_rule (with_rule (new_app (codes "plan")) file_rule) goals_rule) skip_rule) excluded_rule = c.in_ok-with_excluded_topics.ensures.shape c.excluded_topics.ensures.local ∙ ap₂ with_rule s3 c.excluded_topics.ensures.rule in
    let l4 : (out-Command c.in_ok-with_excluded_topics.with_excluded_topics).has_globals ≡ false = c.in_ok-with_excluded_topics.ensures.globals ∙ ap₂ ◌||◌ l3 c.excluded_topics.ensures.local in
    record {
      app = IfOk-weaker c.arg-5.result _ _ (λ r h. h.shape c.trace_flag.ensures.local ∙ ap₂ with_rule s4 c.trace_flag.ensures.rule) c.arg-5.ensures;
      local = IfOk-weaker c.arg-5.result _ _ (λ r h. h.globals ∙ ap₂ ◌||◌ l4 c.trace_flag.ensures.local) c.arg-5.ensures;
    }
