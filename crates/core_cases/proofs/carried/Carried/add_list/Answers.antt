use Rattle.std.proofs.Common.{◌∙◌, ◌+◌, ◌^◌, ◌==◌, get_or, map, take, arith, ap, refl}
use Rattle.core_terms.specs.Submits.{no_part}
use Rattle.core_terms.specs.declared.shows.BrokerShown.{BrokerShown}
use Rattle.core_cases.specs.Carried.{with_member}
use Rattle.core_cases.proofs.Carries.{lists-none, lists-more, ids-with_list, within-more}
use Rattle.core_cases.proofs.carried.Carried.add_list.Goals as goal

pub loop-place-init : goal.loop-place-init
loop-place-init c = record { rows = lists-none (get_or c.args.case.now.parts c.args.part no_part) c.args.self.now; within = λ n h. within-more n (n + 0) c.args.self.now (omega arith) h }

pub add_member-requires-clause-ids : goal.add_member-requires-clause-ids
add_member-requires-clause-ids c =
    ap (map (λ (s : BrokerShown). s.broker)) c.loop-place.invariant.rows ∙ ids-with_list (get_or c.args.case.now.parts c.args.part no_part) (take c.loop-place.place c.args.list.now) c.args.self.now ∙ c.requires.ids

pub add_member-requires-clause-within : goal.add_member-requires-clause-within
add_member-requires-clause-within c =
    within-more (2 ^ 30 + c.loop-place.place) (2 ^ 31) c.loop-place.self (omega (arith, c.loop-place-test.true, c.requires.few)) (c.loop-place.invariant.within (2 ^ 30) c.requires.within)

pub loop-place-preserved : goal.loop-place-preserved
loop-place-preserved c =
    let p = get_or c.args.case.now.parts c.args.part no_part in
    let i = c.loop-place.place in
    let id = get_or c.args.list.now i 0 in
    record {
      rows = c.add_member.ensures.more ∙ ap (map (with_member p (i == 0) id)) c.loop-place.invariant.rows ∙ lists-more p c.args.list.now i id c.args.self.now c.loop-place-test.true refl;
      within = λ n h. within-more (n + i + 1) (n + (i + 1)) c.add_member.new.self (omega arith) (c.add_member.ensures.within (n + i) (c.loop-place.invariant.within n h));
    }

pub returns-clause-within : goal.returns-clause-within
returns-clause-within c = λ n h. within-more (n + c.loop-place.place) (n + 16) c.loop-place.self (omega (arith, c.loop-place.auto, c.requires.few)) (c.loop-place.invariant.within n h)
