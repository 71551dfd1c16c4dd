use Rattle.std.proofs.Common.{◌≡◌, ◌∙◌, ap₂, false, ◌||◌, codes}
use Rattle.std.proofs.lemmas.Result.{IfOk-weaker}
use Rattle.clap.specs.Words.{app_of, new_app, with_rule}
use Rattle.clap.specs.declared.builder.command.Command.TheViews.{out-Command}
use Rattle.command_words.specs.Arguments.{brokers_rule, file_flag_rule, goals_rule, seed_rule, skip_rule}
use Rattle.command_words.proofs.builders.gen_command.Goals as goal

pub returns : goal.returns
returns c =
    let s0 = c.new-named.ensures.app in
    let l0 = c.new-named.ensures.local in
    let s1 : app_of c.in_ok-with_seed.with_seed ≡ with_rule (new_app (codes "gen")) seed_rule = c.in_ok-with_seed.ensures.shape c.seed.ensures.local ∙ ap₂ with_rule s0 c.seed.ensures.rule in
    let l1 : (out-Command c.in_ok-with_seed.with_seed).has_globals ≡ false = c.in_ok-with_seed.ensures.globals ∙ ap₂ ◌||◌ l0 c.seed.ensures.local in
    let s2 : app_of c.in_ok-with_goals.with_goals ≡ with_rule (with_rule (new_app (codes "gen")) seed_rule) goals_rule = c.in_ok-with_goals.ensures.shape c.goals.ensures.local ∙ ap₂ with_rule s1 c.goals.ensures.rule in
    let l2 : (out-Command c.in_ok-with_goals.with_goals).has_globals ≡ false = c.in_ok-with_goals.ensures.globals ∙ ap₂ ◌||◌ l1 c.goals.ensures.local in
    let s3 : app_of c.in_ok-with_skip_hard_goal_check.with_skip_hard_goal_check ≡ with_rule (with_rule (with_rule (new_app (codes "gen")) seed_rule) goals_rule) skip_rule = c.in_ok-with_skip_hard_goal_check.ensures.shape c.skip_hard_goal_check.ensures.local ∙ ap₂ with_rule s2 c.skip_hard_goal_check.ensures.rule in
    let l3 : (out-Command c.in_ok-with_skip_hard_goal_check.with_skip_hard_goal_check).has_globals ≡ false = c.in_ok-with_skip_hard_goal_check.ensures.globals ∙ ap₂ ◌||◌ l2 c.skip_hard_goal_check.ensures.local in
    let s4 : app_of c.in_ok-with_file_flag.with_file_flag ≡ with_rule (with_rule (with_rule (with_rule (new_app (codes "gen")) seed_rule) goals_rule) skip_rule) file_flag_rule = c.in_ok-with_file_flag.ensures.shape c.file_flag.ensures.local ∙ ap₂ with_rule s3 c.file_flag.ensures.rule in
    let l4 : (out-Command c.in_ok-with_file_flag.with_file_flag).has_globals ≡ false = c.in_ok-with_file_flag.ensures.globals ∙ ap₂ ◌||◌ l3 c.file_flag.ensures.local in
    let s5 : app_of c.in_ok-with_brokers.with_brokers ≡ with_rule (with_rule (with_rule (with_rule (with_rule (new_app (codes "gen")) seed_rule) goals_rule) skip_rule) file_flag_rule) brokers_rule = c.in_ok-with_brokers.ensures.shape c.brokers.ensures.local ∙ ap₂ with_rule s4 c.brokers.ensures.rule in
    let l5 : (out-Command c.in_ok-with_brokers.with_brokers).has_globals ≡ false = c.in_ok-with_brokers.ensures.globals ∙ ap₂ ◌||◌ l4 c.brokers.ensures.local in
    record {
      app = IfOk-weaker c.arg-6.result _ _ (λ r h. h.shape c.partitions.ensures.local ∙ ap₂ with_rule s5 c.partitions.ensures.rule) c.arg-6.ensures;
      local = IfOk-weaker c.arg-6.result _ _ (λ r h. h.globals ∙ ap₂ ◌||◌ l5 c.partitions.ensures.local) c.arg-6.ensures;
    }
