use Rattle.std.proofs.Common.{◌≡◌, ◌∙◌, ap₂, false, ◌||◌, codes}
use Rattle.std.proofs.lemmas.Result.{IfOk-weaker}
use Rattle.clap.specs.Words.{app_of, new_app, with_rule}
use Rattle.clap.specs.declared.builder.command.Command.TheViews.{out-Command}
use Rattle.command_words.specs.Arguments.{file_rule, forever_rule, links_rule, listen_rule, movers_rule, planners_rule, review_rule}
use Rattle.command_words.proofs.builders.serve_command.Goals as goal

pub returns : goal.returns
returns c =
    let s0 = c.new-named.ensures.app in
    let l0 = c.new-named.ensures.local in
    let s1 : app_of c.in_ok-with_file.with_file ≡ with_rule (new_app (codes "serve")) file_rule = c.in_ok-with_file.ensures.shape c.file.ensures.local ∙ ap₂ with_rule s0 c.file.ensures.rule in
    let l1 : (out-Command c.in_ok-with_file.with_file).has_globals ≡ false = c.in_ok-with_file.ensures.globals ∙ ap₂ ◌||◌ l0 c.file.ensures.local in
    let s2 : app_of c.in_ok-with_movers.with_movers ≡ with_rule (with_rule (new_app (codes "serve")) file_rule) movers_rule = c.in_ok-with_movers.ensures.shape c.movers.ensures.local ∙ ap₂ with_rule s1 c.movers.ensures.rule in
    let l2 : (out-Command c.in_ok-with_movers.with_movers).has_globals ≡ false = c.in_ok-with_movers.ensures.globals ∙ ap₂ ◌||◌ l1 c.movers.ensures.local in
    let s3 : app_of c.in_ok-with_planners.with_planners ≡ with_rule (with_rule (with_rule (new_app (codes "serve")) file_rule) movers_rule) planners_rule = c.in_ok-with_planners.ensures.shape c.planners.ensures.local ∙ ap₂ with_rule s2 c.planners.ensures.rule in
    let l3 : (out-Command c.in_ok-with_planners.with_planners).has_globals ≡ false = c.in_ok-with_planners.ensures.globals ∙ ap₂ ◌||◌ l2 c.planners.ensures.local in
    let s4 : app_of c.in_ok-with_listen.with_listen ≡ with_rule (with_rule (with_rule (with_rule (new_app (codes "serve")) file_rule) movers_rule) planners_rule) listen_rule = c.in_ok-with_listen.ensures.shape c.listen.ensures.local ∙ ap₂ with_rule s3 c.listen.ensures.rule in
    let l4 : (out-Command c.in_ok-with_listen.with_listen).has_globals ≡ false = c.in_ok-with_listen.ensures.globals ∙ ap₂ ◌||◌ l3 c.listen.ensures.local in
    let s5 : app_of c.in_ok-with_links.with_links ≡ with_rule (with_rule (with_rule (with_rule (with_rule (new_app (codes "serve")) file_rule) movers_rule) planners_rule) listen_rule) links_rule = c.in_ok-with_links.ensures.shape c.links.ensures.local ∙ ap₂ with_rule s4 c.links.ensures.rule in
    let l5 : (out-Command c.in_ok-with_links.with_links).has_globals ≡ false = c.in_ok-with_links.ensures.globals ∙ ap₂ ◌||◌ l4 c.links.ensures.local in
    let s6 : app_of c.in_ok-with_review.with_review ≡ with_rule (with_rule (with_rule (with_rule (with_rule (with_rule (new_app (codes "serve")) file_rule) movers_rule) planners_rule) listen_rule) links_rule) review_rule = c.in_ok-with_review.ensures.shape c.review.ensures.local ∙ ap₂ with_rule s5 c.review.ensures.rule in
    let l6 : (out-Command c.in_ok-with_review.with_review).has_globals ≡ false = c.in_ok-with_review.ensures.globals ∙ ap₂ ◌||◌ l5 c.review.ensures.local in
    let s7 : app_of c.in_ok-with_forever.with_forever ≡ with_rule (with_rule (with_rule (with_rule (with_rule (with_rule (with_rule (new_app (codes "serve")) file_rule) movers_rule) planners_rule) listen_rule) links_rule) review_rule) forever_rule = c.in_ok-with_forever.ensures.shape c.forever.ensures.local ∙ ap₂ with_rule s6 c.forever.ensures.rule in
    let l7 : (out-Command c.in_ok-with_forever.with_forever).has_globals ≡ false = c.in_ok-with_forever.ensures.globals ∙ ap₂ ◌||◌ l6 c.forever.ensures.local in
    record {
      app = IfOk-weaker c.arg-8.result _ _ (λ r h. h.shape c.page.ensures.local ∙ ap₂ with_rule s7 c.page.ensures.rule) c.arg-8.ensures;
      local = IfOk-weaker c.arg-8.result _ _ (λ r h. h.globals ∙ ap₂ ◌||◌ l7 c.page.ensures.local) c.arg-8.ensures;
    }
