use Rattle.std.proofs.Common.{◌≡◌, ◌∙◌, get_or, sym, ap}
use Rattle.std.specs.Prelude.{find}
use Rattle.std.proofs.lemmas.List.{get_or_default}
use Rattle.goal_set.specs.Read.{default_kinds}
use Rattle.goal_set.specs.declared.kinds.GoalKind.TheVariants.{Evacuation}
use Rattle.anomaly_detector.specs.Decided.{first_broken, is_broken}
use Rattle.anomaly_detector.proofs.Firsts.{find_first}
use Rattle.anomaly_detector.proofs.rules.first_broken.Goals as goal

pub returns-then-branch : goal.returns-then-branch
unfolding first_broken
returns-then-branch c =
    let all : c.kinds-kinds.result.now ≡ default_kinds = c.kinds-kinds.ensures ∙ c.in_ok-goals.ensures in
    sym (find_first (is_broken c.args.case.now c.args.book.now.lists) c.kinds-kinds.result.now c.loop-kind.kind-index (get_or c.kinds-kinds.result.now c.loop-kind.kind-index Evacuation) c.loop-kind-test.true
    (get_or_default c.kinds-kinds.result.now c.loop-kind.kind-index Evacuation _ c.loop-kind-test.true) (sym c.in_ok-is_broken.ensures ∙ c.if-branch.true) c.loop-kind.invariant)
    ∙ ap (find (is_broken c.args.case.now c.args.book.now.lists)) all
