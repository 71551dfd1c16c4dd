use Rattle.std.proofs.Common.{refl, ◌*◌, ◌∙◌, ap, replicate}
use Rattle.metric_windows.proofs.Stands.{StandsFor-empty}
use Rattle.metric_windows.proofs.windows.Windows.new.Goals as goal

pub returns-clause-empty : goal.returns-clause-empty
returns-clause-empty c =
    let size = c.args.parts * c.args.keep in
    StandsFor-empty _ size refl (c.in_ok-cells.ensures.items_if_clones_equal (λ _ e. e) ∙ ap (replicate size) c.empty.ensures.value)
