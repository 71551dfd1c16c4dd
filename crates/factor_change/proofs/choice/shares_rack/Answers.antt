use Rattle.std.proofs.Common.{◌∙◌, sym, ap, ◌||◌, Bool, refl}
use Rattle.std.specs.Prelude.{option_map}
use Rattle.std.specs.List.{list_any}
use Rattle.plan_terms.specs.Racks.{equal_racks, rack_of}
use Rattle.factor_change.proofs.Racks.{shares_by_racks}
use Rattle.factor_change.proofs.choice.shares_rack.Goals as goal

pub returns-then-has : goal.returns-then-has
returns-then-has c =
    let case = c.args.case.now in
    let near = list_any (λ r. equal_racks (rack_of case c.args.broker) (option_map (λ x. x.now) r)) c.args.racks.now in
    c.if-has.true ∙ sym (ap (λ (h : Bool). h || near) (sym c.has.ensures ∙ c.if-has.true))
    ∙ shares_by_racks (λ x. x.now) case c.args.list.now c.args.broker (rack_of case c.args.broker) c.args.racks.now refl c.requires

pub returns-else-has : goal.returns-else-has
returns-else-has c =
    let near = list_any (λ r. equal_racks (option_map (λ x. x.now) c.rack_at.result) (option_map (λ x. x.now) r)) c.args.racks.now in
    c.is_among.ensures ∙ sym (ap (λ (h : Bool). h || near) (sym c.has.ensures ∙ c.if-has.false))
    ∙ shares_by_racks (λ x. x.now) c.args.case.now c.args.list.now c.args.broker (option_map (λ x. x.now) c.rack_at.result) c.args.racks.now c.rack_at.ensures c.requires
