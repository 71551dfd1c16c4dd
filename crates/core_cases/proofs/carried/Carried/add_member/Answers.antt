use Rattle.std.proofs.Common.{◌≡◌, ◌∙◌, ◌<◌, ℕ, ◌+◌, List, get_or, length, map, set, arith, ap, sym, subst}
use Rattle.std.specs.List.{All}
use Rattle.std.proofs.lemmas.List.{get_or_default}
use Rattle.plan_terms.specs.declared.cluster.Part.{Part}
use Rattle.load_model.proofs.Sums.{LightPart-case}
use Rattle.core_terms.specs.Submits.{no_part}
use Rattle.core_terms.specs.declared.shows.BrokerShown.{BrokerShown}
use Rattle.core_cases.specs.Carried.{IsLight, IsWithin, with_member, with_place}
use Rattle.core_cases.proofs.Carries.{no_member, one_member, within-more, within-set}
use Rattle.core_cases.proofs.carried.Carried.add_member.Goals as goal

-- the part that is read is the partition at its place
part_is : (parts seen : List Part) (i : ℕ) (p : Part) → seen ≡ parts → i < length parts → p ≡ get_or seen i p → p ≡ get_or parts i no_part
part_is parts seen i p e h is = is ∙ ap (λ ps. get_or ps i p) e ∙ get_or_default parts i p no_part h

member : (c : goal.After-self-1) → (c.in-Some.broker < length c.self.inside.rows.items)
    × (set c.self.inside.rows.items c.in-Some.broker c.add_place.new.row ≡ map (with_member (get_or c.args.case.now.parts c.args.part no_part) c.args.first c.args.id) c.self.inside.rows.items)
member c =
    let part = part_is c.args.case.now.parts c.parts.result.now c.args.part c.index-parts-part.result c.parts.ensures.value c.requires.part c.index-parts-part.is in
    one_member c.args.case.now.brokers c.self.inside.rows.items c.args.id (ap (map (λ (s : BrokerShown). s.broker)) c.self.view_is ∙ c.requires.ids) (get_or c.args.case.now.parts c.args.part no_part) c.args.first
    c.in-Some.broker c.index_mut.result.now c.add_place.new.row c.in-Some.ensures.place c.in-Some.ensures.only c.index_mut.ensures.value
    (c.add_place.ensures.more ∙ ap (λ (p : Part). with_place p c.args.first c.index_mut.result.now) part)

pub add_place-requires-clause-light : goal.add_place-requires-clause-light
add_place-requires-clause-light c =
    let light = LightPart-case c.args.case.now c.parts.result.now c.args.part c.index-parts-part.result c.parts.ensures.case c.parts.ensures.value c.requires.part in
    let Light : Part → Type 0 = λ p. IsLight p in
    subst Light (sym c.index-parts-part.is) (record { lead = light.lead; follow = light.follow })

pub returns-in-Some-clause-more : goal.returns-in-Some-clause-more
returns-in-Some-clause-more c = (member c).1 ∙ ap (map (with_member (get_or c.args.case.now.parts c.args.part no_part) c.args.first c.args.id)) c.self.view_is

pub returns-in-Some-clause-within : goal.returns-in-Some-clause-within
returns-in-Some-clause-within c = λ n h.
    let rows = c.self.inside.rows.items in
    let Within : List BrokerShown → Type 0 = λ xs. All (IsWithin n) xs in
    let all : Within rows = subst Within (sym c.self.view_is) h in
    let Fits : BrokerShown → Type 0 = λ s. IsWithin n s in
    let old : Fits c.index_mut.result.now = subst Fits (sym c.index_mut.ensures.value) (all c.in-Some.broker c.index_mut.result.now (member c).0) in
    within-set (n + 1) rows c.in-Some.broker c.add_place.new.row (within-more n (n + 1) rows (omega arith) all) (c.add_place.ensures.within n old)

pub returns-in_default-clause-more : goal.returns-in_default-clause-more
returns-in_default-clause-more c =
    no_member c.args.case.now.brokers c.args.self.now c.args.id c.requires.ids (get_or c.args.case.now.parts c.args.part no_part) c.args.first
    (λ j l e. c.in_default.not-Some j (c.place.ensures.only j l e))
