use Rattle.std.proofs.Common.{refl, ap, map, arith}
use Rattle.candidate_order.specs.declared.kinds.Kind.{Kind}
use Rattle.candidate_order.specs.declared.kinds.Kind.TheVariants.{Moves, Leads, Swaps}
use Rattle.candidate_order.proofs.Complete.{row-none}
use Rattle.candidate_order.proofs.RestLemmas.{rests-pass, AreOthers, others-Moves, others-Leads, others-Swaps}
use Rattle.candidate_order.proofs.rests.Rests.pass.Goals as goal

pub index_mut-requires : goal.index_mut-requires
index_mut-requires g c = omega (arith, c.broker_place-place.ensures.within, c.requires.rests.row_each Moves)

pub index_mut-requires-in-Leads : goal.index_mut-requires-in-Leads
index_mut-requires-in-Leads g c = omega (arith, c.broker_place-place.ensures.within, c.requires.rests.row_each Leads)

pub index_mut-requires-in-Swaps : goal.index_mut-requires-in-Swaps
index_mut-requires-in-Swaps g c = omega (arith, c.broker_place-place.ensures.within, c.requires.rests.row_each Swaps)

pub returns-in-Moves : goal.returns-in-Moves
returns-in-Moves g c =
    let case = c.args.case.now in
    let lists = c.args.book.now.lists in
    let earlier = map (λ x. g.G.Goal.meaning x case) c.args.earlier.now in
    let goal' = g.G.Goal.meaning c.args.goal.now case in
    rests-pass case earlier goal' lists c.args.self.now _ c.requires.rests Moves c.broker_place-place.result c.args.source c.broker_place-place.ensures.within c.broker_place-place.ensures.id
    c.broker_place-place.ensures.only
    (row-none case lists c.requires.belongs.lists_belong earlier goal' Moves c.args.source (rw c.in-Moves.is at c.requires.none))
    refl (others-Moves _ _ refl refl) refl refl refl

pub returns-in-Leads : goal.returns-in-Leads
returns-in-Leads g c =
    let case = c.args.case.now in
    let lists = c.args.book.now.lists in
    let earlier = map (λ x. g.G.Goal.meaning x case) c.args.earlier.now in
    let goal' = g.G.Goal.meaning c.args.goal.now case in
    rests-pass case earlier goal' lists c.args.self.now _ c.requires.rests Leads c.broker_place-place.result c.args.source c.broker_place-place.ensures.within c.broker_place-place.ensures.id
    c.broker_place-place.ensures.only
    (row-none case lists c.requires.belongs.lists_belong earlier goal' Leads c.args.source (rw c.in-Leads.is at c.requires.none))
    refl (others-Leads _ _ refl refl) refl refl refl

pub returns-in-Swaps : goal.returns-in-Swaps
returns-in-Swaps g c =
    let case = c.args.case.now in
    let lists = c.args.book.now.lists in
    let earlier = map (λ x. g.G.Goal.meaning x case) c.args.earlier.now in
    let goal' = g.G.Goal.meaning c.args.goal.now case in
    rests-pass case earlier goal' lists c.args.self.now _ c.requires.rests Swaps c.broker_place-place.result c.args.source c.broker_place-place.ensures.within c.broker_place-place.ensures.id
    c.broker_place-place.ensures.only
    (row-none case lists c.requires.belongs.lists_belong earlier goal' Swaps c.args.source (rw c.in-Swaps.is at c.requires.none))
    refl (others-Swaps _ _ refl refl) refl refl refl
