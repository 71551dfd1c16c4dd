use Rattle.std.proofs.Common.{◌∙◌, refl, sym, map, length, get_or, arith}
use Rattle.std.proofs.lemmas.List.Elements.{All-map}
use Rattle.plan_terms.specs.Cluster.{id_at}
use Rattle.goal_terms.specs.Verdicts.{VerdictsStay}
use Rattle.candidate_order.specs.declared.kinds.Kind.TheVariants.{Moves, Leads, Swaps}
use Rattle.candidate_order.proofs.Complete.{giver-known, taker-known}
use Rattle.candidate_order.proofs.RestLemmas.{rests-touch, same-times}
use Rattle.candidate_order.proofs.rests.Rests.touch.Goals as goal

pub returns : goal.returns
returns g c =
    let case = c.args.case.now in
    let lists = c.args.book.now.lists in
    let earlier = map (λ x. g.G.Goal.meaning x case) c.args.earlier.now in
    let goal' = g.G.Goal.meaning c.args.goal.now case in
    let is_case = c.brokers-brokers.ensures.case in
    let belongs = c.requires.belongs.lists_belong in
    rests-touch case earlier goal' lists c.args.self.now _ c.requires.rests c.args.action c.broker_place-from_place.result c.broker_place-to_place.result
    (All-map (λ m. VerdictsStay m lists) (λ x. g.G.Goal.meaning x case) c.args.earlier.now (λ k d l. g.met.G.Goal.verdicts_stay (get_or c.args.earlier.now k d) case lists (c.requires.made k d l) is_case belongs))
    (g.met.G.Goal.verdicts_stay c.args.goal.now case lists c.requires.made_goal is_case belongs)
    c.requires.applies c.broker_place-from_place.ensures.within c.broker_place-to_place.ensures.within
    (c.broker_place-from_place.ensures.id ∙ c.giver-from.ensures) (c.broker_place-to_place.ensures.id ∙ c.taker-to.ensures)
    (λ k l e. c.broker_place-from_place.ensures.only k l (e ∙ sym c.giver-from.ensures)) (λ k l e. c.broker_place-to_place.ensures.only k l (e ∙ sym c.taker-to.ensures))
    c.touch_two.ensures c.touch_parts.ensures.length c.touch_parts.ensures.each
    (same-times _ _ refl refl refl) (omega (arith, c.saturating_add-self.ensures))

pub broker_place-from_place-requires : goal.broker_place-from_place-requires
broker_place-from_place-requires g c =
    rw c.giver-from.ensures (giver-known c.args.case.now c.args.book.now.lists c.requires.belongs.lists_belong c.args.action c.requires.applies)

pub broker_place-to_place-requires : goal.broker_place-to_place-requires
broker_place-to_place-requires g c =
    rw c.taker-to.ensures (taker-known c.args.case.now c.args.book.now.lists c.requires.belongs.lists_belong c.args.action c.requires.applies c.requires.known)
