use Rattle.std.proofs.Common.{◌≡◌, [], get_or, set, sym, ap, ◌∙◌}
use Rattle.std.proofs.lemmas.List.{get_or-set_other, get_or-set_same}
use Rattle.plan_terms.proofs.EffectLemmas.{fits-Lead}
use Rattle.plan_terms.specs.Cluster.{list_of, has, leads, id_at}
use Rattle.plan_terms.specs.Effect.{exchange_first}
use Rattle.goal_terms.specs.Quantity.{part_weight, load_weights}
use Rattle.candidate_order.specs.CandidateList.{disk_of}
use Rattle.candidate_order.proofs.Complete.{known-member}
use Rattle.candidate_order.proofs.RankLemmas.{traded}
use Rattle.candidate_order.proofs.TurnLemmas.{row-of, row-has, order-later, same-set, same-sets, set-keeps, lead-turns, exchange-new, exchange-other}
use Rattle.candidate_order.proofs.order.Order.after_lead.Goals as goal

pub broker_place-taker-requires : goal.broker_place-taker-requires
broker_place-taker-requires c =
    let fit = fits-Lead c.args.book.now.lists c.args.part c.args.to c.requires.applies in
    known-member c.args.case.now c.args.book.now.lists c.requires.belongs.lists_belong c.args.part c.args.to fit.member

pub trade-requires-clause-old : goal.trade-requires-clause-old
trade-requires-clause-old c =
    row-of c.args.case.now c.args.book.now.lists c.args.self.now c.requires.order c.broker_place-giver.result (get_or c.list.result.now 0 0) c.broker_place-giver.ensures.within c.broker_place-giver.ensures.id

pub trade-requires-clause-member : goal.trade-requires-clause-member
trade-requires-clause-member c =
    let lists = c.args.book.now.lists in
    let fit = fits-Lead lists c.args.part c.args.to c.requires.applies in
    let turns = lead-turns lists c.args.part c.args.to (get_or c.list.result.now 0 0) (ap (λ l. get_or l 0 0) c.list.ensures) fit in
    row-has c.args.case.now lists c.args.self.now c.requires.order c.broker_place-giver.result (get_or c.list.result.now 0 0) c.broker_place-giver.ensures.within c.broker_place-giver.ensures.id c.args.part fit.within
    ∙ turns.had

pub trade-requires-2-clause-old : goal.trade-requires-2-clause-old
trade-requires-2-clause-old c =
    let lists = c.args.book.now.lists in
    let fit = fits-Lead lists c.args.part c.args.to c.requires.applies in
    let turns = lead-turns lists c.args.part c.args.to (get_or c.list.result.now 0 0) (ap (λ l. get_or l 0 0) c.list.ensures) fit in
    let i = c.broker_place-giver.result in
    let j = c.broker_place-taker.result in
    let n : j ≡ i → ⊥ = λ e. turns.apart (sym (sym c.broker_place-taker.ensures.id ∙ ap (id_at c.args.case.now.brokers) e ∙ c.broker_place-giver.ensures.id)) in
    rw (c.trade.ensures.others, get_or-set_other c.args.self.now i j (get_or c.trade.new.self i []) [] n)
    (row-of c.args.case.now lists c.args.self.now c.requires.order j c.args.to c.broker_place-taker.ensures.within c.broker_place-taker.ensures.id)

pub trade-requires-2-clause-member : goal.trade-requires-2-clause-member
trade-requires-2-clause-member c =
    let lists = c.args.book.now.lists in
    let fit = fits-Lead lists c.args.part c.args.to c.requires.applies in
    let turns = lead-turns lists c.args.part c.args.to (get_or c.list.result.now 0 0) (ap (λ l. get_or l 0 0) c.list.ensures) fit in
    let i = c.broker_place-giver.result in
    let j = c.broker_place-taker.result in
    let n : j ≡ i → ⊥ = λ e. turns.apart (sym (sym c.broker_place-taker.ensures.id ∙ ap (id_at c.args.case.now.brokers) e ∙ c.broker_place-giver.ensures.id)) in
    rw (c.trade.ensures.others, get_or-set_other c.args.self.now i j (get_or c.trade.new.self i []) [] n)
    (row-has c.args.case.now lists c.args.self.now c.requires.order j c.args.to c.broker_place-taker.ensures.within c.broker_place-taker.ensures.id c.args.part fit.within ∙ fit.member)

pub returns : goal.returns
returns c =
    let case = c.args.case.now in
    let lists = c.args.book.now.lists in
    let p = c.args.part in
    let b = c.args.to in
    let a = get_or c.list.result.now 0 0 in
    let a_is : a ≡ get_or (list_of lists p) 0 0 = ap (λ l. get_or l 0 0) c.list.ensures in
    let list = list_of lists p in
    let between = set lists p [] in
    let later = set lists p (exchange_first b list) in
    let fit = fits-Lead lists p b c.requires.applies in
    let turns = lead-turns lists p b a a_is fit in
    let comes = exchange-new b list fit.member in
    let i = c.broker_place-giver.result in
    let j = c.broker_place-taker.result in
    let m : j ≡ i → ⊥ = λ e. turns.apart (sym (sym c.broker_place-taker.ensures.id ∙ ap (id_at case.brokers) e ∙ c.broker_place-giver.ensures.id)) in
    let none_is : list_of between p ≡ [] = get_or-set_same lists p [] [] fit.within in
    let then_is : list_of later p ≡ exchange_first b list = get_or-set_same lists p (exchange_first b list) [] fit.within in
    let row_a = row-of case lists c.args.self.now c.requires.order i a c.broker_place-giver.ensures.within c.broker_place-giver.ensures.id in
    let row_b = row-of case lists c.args.self.now c.requires.order j b c.broker_place-taker.ensures.within c.broker_place-taker.ensures.id in
    let old : get_or c.trade.new.self j [] ≡ get_or c.args.self.now j [] = rw c.trade.ensures.others (get_or-set_other c.args.self.now i j (get_or c.trade.new.self i []) [] m) in
    let less : c.disk-less.result ≡ disk_of case later a p =
    c.disk-less.ensures ∙ ap (part_weight (load_weights 3) case.parts p) (sym turns.leads_then ∙ ap (λ l. leads l a) (sym then_is)) in
    let more : c.disk-more.result ≡ disk_of case later b p =
    c.disk-more.ensures ∙ ap (part_weight (load_weights 3) case.parts p) (sym comes.1 ∙ ap (λ l. leads l b) (sym then_is)) in
    order-later case lists later c.args.self.now c.trade-2.new.self a b i j (get_or c.trade.new.self i []) (get_or c.trade-2.new.self j []) c.requires.order
    c.broker_place-giver.ensures.within c.broker_place-taker.ensures.within c.broker_place-giver.ensures.only c.broker_place-taker.ensures.only c.broker_place-giver.ensures.id c.broker_place-taker.ensures.id
    (traded case lists between later a p p (same-set lists a p []) (ap (λ l. has l a) none_is) (same-sets lists a p [] (exchange_first b list)) (ap (λ l. has l a) none_is)
    (ap (λ l. has l a) then_is ∙ turns.has_then) fit.within c.disk-less.result less (get_or c.args.self.now i []) (get_or c.trade.new.self i []) row_a c.trade.ensures.row)
    (traded case lists between later b p p (same-set lists b p []) (ap (λ l. has l b) none_is) (same-sets lists b p [] (exchange_first b list)) (ap (λ l. has l b) none_is)
    (ap (λ l. has l b) then_is ∙ comes.0) fit.within c.disk-more.result more (get_or c.args.self.now j []) (get_or c.trade-2.new.self j []) row_b (rw old at c.trade-2.ensures.row))
    (λ k d e. let same = exchange-other b k list e (λ f. d (f ∙ sym a_is)) in set-keeps lists k p case (exchange_first b list) fit.within same.0 same.1)
    (c.trade-2.ensures.others ∙ ap (λ o. set o j (get_or c.trade-2.new.self j [])) c.trade.ensures.others)
