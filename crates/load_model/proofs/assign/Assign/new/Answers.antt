use Rattle.std.proofs.Common.{arith, ◌≡◌, ◌∙◌, ap, length, None}
use Rattle.std.proofs.lemmas.List.{length-map}
use Rattle.plan_terms.specs.Belongs.{Belongs}
use Rattle.plan_terms.specs.Faults.{lists_fault}
use Rattle.plan_terms.proofs.FaultLemmas.{Belongs-faultless, few_parts}
use Rattle.load_model.proofs.assign.Assign.new.Goals as goal

belongs : (c : goal.In_ok-check_lists) → Belongs c.args.case.now c.in_ok-lists.lists.items
belongs c =
    let faultless : lists_fault c.args.case.now c.in_ok-lists.lists.items ≡ None = rw c.deref.ensures.value at c.in_ok-check_lists.ensures.ok in
    let long : length c.in_ok-lists.lists.items ≡ length c.args.case.now.parts = ap length c.in_ok-lists.ensures ∙ length-map c.args.lists.items (λ list. list.items) ∙ c.requires.one_each in
    Belongs-faultless c.args.case.now c.in_ok-lists.lists.items long faultless

pub invariant_of-result : goal.invariant_of-result
invariant_of-result c =
    let few = few_parts c.args.case.now c.parts-few.ensures.case in
    record { count_is = omega (arith, (belongs c).one_each); each = (belongs c).lists_are }

pub returns-clause-belongs : goal.returns-clause-belongs
returns-clause-belongs c = belongs c
