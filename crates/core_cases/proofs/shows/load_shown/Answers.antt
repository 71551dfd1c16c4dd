use Rattle.std.proofs.Common.{◌≡◌, ◌∙◌, ℕ, ◌+◌, ◌*◌, ◌<◌, List, [], ◌∷◌, length, get_or, map, ap, sym, arith, add-one}
use Rattle.plan_terms.specs.Cluster.{Lists}
use Rattle.plan_terms.specs.Legal.{each_below}
use Rattle.exec_terms.specs.Machine.{list_now}
use Rattle.exec_terms.proofs.Launch.{length-each_below}
use Rattle.core_terms.specs.Shows.{broker_shown}
use Rattle.core_terms.specs.Submits.{no_part}
use Rattle.core_terms.specs.declared.shows.BrokerShown.{BrokerShown}
use Rattle.core_cases.specs.Carried.{with_list}
use Rattle.core_cases.proofs.Carries.{rows-more, ids-shown, within-more}
use Rattle.core_cases.proofs.shows.load_shown.Goals as goal

pub loop-part-init : goal.loop-part-init
loop-part-init c = record { rows = c.in_ok-carried.ensures.none; within = c.in_ok-carried.ensures.within }

pub add_list-requires-clause-ids : goal.add_list-requires-clause-ids
add_list-requires-clause-ids c =
    ap (map (λ (s : BrokerShown). s.broker)) c.loop-part.invariant.rows
    ∙ ids-shown c.args.case.now (each_below (λ p. list_now c.args.exec.now p ∷ []) c.loop-part.part) c.args.case.now.brokers

pub loop-part-preserved : goal.loop-part-preserved
loop-part-preserved c =
    let case = c.args.case.now in
    let i = c.loop-part.part in
    let lists : ℕ → Lists = each_below (λ p. list_now c.args.exec.now p ∷ []) in
    let list : List ℕ = list_now c.args.exec.now i in
    let long : length (lists i) ≡ i = length-each_below (list_now c.args.exec.now) i in
    let within : length (lists i) < length case.parts = omega (arith, long, ap length c.parts-end.ensures.value, c.loop-part-test.true) in
    record {
      rows =
          c.add_list.ensures.more ∙ ap (map (with_list (get_or case.parts i no_part) c.list_by.result.now)) c.loop-part.invariant.rows
          ∙ ap (λ (l : List ℕ). map (with_list (get_or case.parts i no_part) l) (map (broker_shown case (lists i)) case.brokers)) c.list_by.ensures.value
          ∙ ap (λ n. map (with_list (get_or case.parts n no_part) list) (map (broker_shown case (lists i)) case.brokers)) (sym long)
          ∙ sym (rows-more case (lists i) list no_part within case.brokers)
          ∙ ap (λ n. map (broker_shown case (lists n)) case.brokers) (sym (add-one i));
      within = within-more (16 * i + 16) (16 * (i + 1)) c.add_list.new.self (omega arith) (c.add_list.ensures.within (16 * i) c.loop-part.invariant.within);
    }
