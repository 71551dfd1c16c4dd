use Rattle.std.proofs.Common.{◌≡◌, [], get_or, set, sym, ap, ◌∙◌, inl}
use Rattle.std.proofs.lemmas.List.{get_or-set_other, get_or-set_same}
use Rattle.plan_terms.proofs.EffectLemmas.{fits-Swap}
use Rattle.plan_terms.specs.Cluster.{list_of, has, leads, id_at}
use Rattle.goal_terms.specs.Quantity.{part_weight, load_weights}
use Rattle.candidate_order.specs.CandidateList.{disk_of}
use Rattle.candidate_order.proofs.Complete.{known-member}
use Rattle.candidate_order.proofs.RankLemmas.{traded}
use Rattle.candidate_order.proofs.TurnLemmas.{row-of, row-has, order-later, same-set, swap-turns, apart-members}
use Rattle.candidate_order.proofs.order.Order.after_swap.Goals as goal

pub broker_place-giver-requires : goal.broker_place-giver-requires
broker_place-giver-requires c =
    let fit = fits-Swap c.args.book.now.lists c.args.part c.args.from c.args.other c.args.to c.requires.applies in
    known-member c.args.case.now c.args.book.now.lists c.requires.belongs.lists_belong c.args.part c.args.from fit.source

pub broker_place-taker-requires : goal.broker_place-taker-requires
broker_place-taker-requires c =
    let fit = fits-Swap c.args.book.now.lists c.args.part c.args.from c.args.other c.args.to c.requires.applies in
    known-member c.args.case.now c.args.book.now.lists c.requires.belongs.lists_belong c.args.other c.args.to fit.target

pub trade-requires-clause-old : goal.trade-requires-clause-old
trade-requires-clause-old c =
    row-of c.args.case.now c.args.book.now.lists c.args.self.now c.requires.order c.broker_place-giver.result c.args.from c.broker_place-giver.ensures.within c.broker_place-giver.ensures.id

pub trade-requires-clause-member : goal.trade-requires-clause-member
trade-requires-clause-member c =
    let lists = c.args.book.now.lists in
    let fit = fits-Swap lists c.args.part c.args.from c.args.other c.args.to c.requires.applies in
    row-has c.args.case.now lists c.args.self.now c.requires.order c.broker_place-giver.result c.args.from c.broker_place-giver.ensures.within c.broker_place-giver.ensures.id c.args.part fit.first ∙ fit.source

pub trade-requires-clause-new : goal.trade-requires-clause-new
trade-requires-clause-new c =
    let lists = c.args.book.now.lists in
    let fit = fits-Swap lists c.args.part c.args.from c.args.other c.args.to c.requires.applies in
    inl (row-has c.args.case.now lists c.args.self.now c.requires.order c.broker_place-giver.result c.args.from c.broker_place-giver.ensures.within c.broker_place-giver.ensures.id c.args.other fit.second ∙ fit.source_comes)

pub trade-requires-2-clause-old : goal.trade-requires-2-clause-old
trade-requires-2-clause-old c =
    let lists = c.args.book.now.lists in
    let fit = fits-Swap lists c.args.part c.args.from c.args.other c.args.to c.requires.applies in
    let i = c.broker_place-giver.result in
    let j = c.broker_place-taker.result in
    let n : j ≡ i → ⊥ = λ e. apart-members (list_of lists c.args.part) c.args.from c.args.to fit.source fit.target_comes
    (sym c.broker_place-taker.ensures.id ∙ ap (id_at c.args.case.now.brokers) e ∙ c.broker_place-giver.ensures.id) in
    rw (c.trade.ensures.others, get_or-set_other c.args.self.now i j (get_or c.trade.new.self i []) [] n)
    (row-of c.args.case.now lists c.args.self.now c.requires.order j c.args.to c.broker_place-taker.ensures.within c.broker_place-taker.ensures.id)

pub trade-requires-2-clause-member : goal.trade-requires-2-clause-member
trade-requires-2-clause-member c =
    let lists = c.args.book.now.lists in
    let fit = fits-Swap lists c.args.part c.args.from c.args.other c.args.to c.requires.applies in
    let i = c.broker_place-giver.result in
    let j = c.broker_place-taker.result in
    let n : j ≡ i → ⊥ = λ e. apart-members (list_of lists c.args.part) c.args.from c.args.to fit.source fit.target_comes
    (sym c.broker_place-taker.ensures.id ∙ ap (id_at c.args.case.now.brokers) e ∙ c.broker_place-giver.ensures.id) in
    rw (c.trade.ensures.others, get_or-set_other c.args.self.now i j (get_or c.trade.new.self i []) [] n)
    (row-has c.args.case.now lists c.args.self.now c.requires.order j c.args.to c.broker_place-taker.ensures.within c.broker_place-taker.ensures.id c.args.other fit.second ∙ fit.target)

pub trade-requires-2-clause-new : goal.trade-requires-2-clause-new
trade-requires-2-clause-new c =
    let lists = c.args.book.now.lists in
    let fit = fits-Swap lists c.args.part c.args.from c.args.other c.args.to c.requires.applies in
    let i = c.broker_place-giver.result in
    let j = c.broker_place-taker.result in
    let n : j ≡ i → ⊥ = λ e. apart-members (list_of lists c.args.part) c.args.from c.args.to fit.source fit.target_comes
    (sym c.broker_place-taker.ensures.id ∙ ap (id_at c.args.case.now.brokers) e ∙ c.broker_place-giver.ensures.id) in
    inl (ap (λ row. has row c.args.part) (ap (λ o. get_or o j []) c.trade.ensures.others ∙ get_or-set_other c.args.self.now i j (get_or c.trade.new.self i []) [] n)
    ∙ row-has c.args.case.now lists c.args.self.now c.requires.order j c.args.to c.broker_place-taker.ensures.within c.broker_place-taker.ensures.id c.args.part fit.first ∙ fit.target_comes)

pub returns : goal.returns
returns c =
    let case = c.args.case.now in
    let lists = c.args.book.now.lists in
    let p = c.args.part in
    let q = c.args.other in
    let a = c.args.from in
    let b = c.args.to in
    let fit = fits-Swap lists p a q b c.requires.applies in
    let turns = swap-turns lists p a q b fit (c.requires.belongs.lists_belong.lists_are p [] fit.first).once (c.requires.belongs.lists_belong.lists_are q [] fit.second).once in
    let i = c.broker_place-giver.result in
    let j = c.broker_place-taker.result in
    let m : j ≡ i → ⊥ = λ e. turns.apart (sym c.broker_place-taker.ensures.id ∙ ap (id_at case.brokers) e ∙ c.broker_place-giver.ensures.id) in
    let row_a = row-of case lists c.args.self.now c.requires.order i a c.broker_place-giver.ensures.within c.broker_place-giver.ensures.id in
    let row_b = row-of case lists c.args.self.now c.requires.order j b c.broker_place-taker.ensures.within c.broker_place-taker.ensures.id in
    let old : get_or c.trade.new.self j [] ≡ get_or c.args.self.now j [] = rw c.trade.ensures.others (get_or-set_other c.args.self.now i j (get_or c.trade.new.self i []) [] m) in
    let back : c.disk-back.result ≡ disk_of case turns.later a q =
    c.disk-back.ensures ∙ ap (part_weight (load_weights 3) case.parts q) (c.leads-other_first.ensures ∙ ap (λ l. leads l b) c.list-2.ensures ∙ sym turns.back_leads) in
    let out : c.disk-out.result ≡ disk_of case turns.later b p =
    c.disk-out.ensures ∙ ap (part_weight (load_weights 3) case.parts p) (c.leads-first.ensures ∙ ap (λ l. leads l a) c.list.ensures ∙ sym turns.out_leads) in
    rw (← turns.later_is)
    (order-later case lists turns.later c.args.self.now c.trade-2.new.self a b i j (get_or c.trade.new.self i []) (get_or c.trade-2.new.self j []) c.requires.order
    c.broker_place-giver.ensures.within c.broker_place-taker.ensures.within c.broker_place-giver.ensures.only c.broker_place-taker.ensures.only c.broker_place-giver.ensures.id c.broker_place-taker.ensures.id
    (traded case lists (set lists p []) turns.later a p q (same-set lists a p []) (ap (λ l. has l a) (get_or-set_same lists p [] [] fit.first)) turns.giver_differs turns.giver_none
    turns.giver_comes fit.second c.disk-back.result back (get_or c.args.self.now i []) (get_or c.trade.new.self i []) row_a c.trade.ensures.row)
    (traded case lists (set lists q []) turns.later b q p (same-set lists b q []) (ap (λ l. has l b) (get_or-set_same lists q [] [] fit.second)) turns.taker_differs turns.taker_none
    turns.taker_comes fit.first c.disk-out.result out (get_or c.args.self.now j []) (get_or c.trade-2.new.self j []) row_b (rw old at c.trade-2.ensures.row))
    (λ k d e. turns.stay k d e case)
    (c.trade-2.ensures.others ∙ ap (λ o. set o j (get_or c.trade-2.new.self j [])) c.trade.ensures.others))
