use Rattle.std.proofs.Common.{◌≡◌, [], get_or, set, refl, sym, ap, ◌∙◌}
use Rattle.std.proofs.lemmas.Bool.{ne_eqb}
use Rattle.std.proofs.lemmas.List.{get_or-set_other, get_or-set_same}
use Rattle.plan_terms.proofs.EffectLemmas.{fits-Move}
use Rattle.plan_terms.proofs.MemberLemmas.{has-replaced}
use Rattle.plan_terms.specs.Cluster.{list_of, has, leads, id_at}
use Rattle.plan_terms.specs.Effect.{replace}
use Rattle.goal_terms.specs.Quantity.{part_weight, load_weights}
use Rattle.candidate_order.specs.CandidateList.{disk_of}
use Rattle.candidate_order.proofs.Complete.{known-member}
use Rattle.candidate_order.proofs.RankLemmas.{lose, gain}
use Rattle.candidate_order.proofs.TurnLemmas.{row-of, row-has, order-later, same-set, set-keeps, has-new, leads-new, has-other, leads-other, apart-members}
use Rattle.candidate_order.proofs.order.Order.after_move.Goals as goal

pub broker_place-giver-requires : goal.broker_place-giver-requires
broker_place-giver-requires c =
    let fit = fits-Move c.args.book.now.lists c.args.part c.args.from c.args.to c.requires.applies in
    known-member c.args.case.now c.args.book.now.lists c.requires.belongs.lists_belong c.args.part c.args.from fit.source

pub lose-requires-clause-member : goal.lose-requires-clause-member
lose-requires-clause-member c =
    let fit = fits-Move c.args.book.now.lists c.args.part c.args.from c.args.to c.requires.applies in
    row-has c.args.case.now c.args.book.now.lists c.args.self.now c.requires.order c.broker_place-giver.result c.args.from c.broker_place-giver.ensures.within c.broker_place-giver.ensures.id c.args.part fit.within
    ∙ fit.source

pub gain-requires-clause-old : goal.gain-requires-clause-old
gain-requires-clause-old c =
    let fit = fits-Move c.args.book.now.lists c.args.part c.args.from c.args.to c.requires.applies in
    let i = c.broker_place-giver.result in
    let j = c.broker_place-taker.result in
    let n : j ≡ i → ⊥ = λ e. apart-members (list_of c.args.book.now.lists c.args.part) c.args.from c.args.to fit.source fit.target
    (sym c.broker_place-taker.ensures.id ∙ ap (id_at c.args.case.now.brokers) e ∙ c.broker_place-giver.ensures.id) in
    rw (c.lose.ensures.others, get_or-set_other c.args.self.now i j (get_or c.lose.new.self i []) [] n)
    (row-of c.args.case.now c.args.book.now.lists c.args.self.now c.requires.order j c.args.to c.broker_place-taker.ensures.within c.broker_place-taker.ensures.id)

pub returns : goal.returns
returns c =
    let case = c.args.case.now in
    let lists = c.args.book.now.lists in
    let p = c.args.part in
    let a = c.args.from in
    let b = c.args.to in
    let list = list_of lists p in
    let later = set lists p (replace a b list) in
    let fit = fits-Move lists p a b c.requires.applies in
    let i = c.broker_place-giver.result in
    let j = c.broker_place-taker.result in
    let n : b ≡ a → ⊥ = apart-members list a b fit.source fit.target in
    let m : j ≡ i → ⊥ = λ e. n (sym c.broker_place-taker.ensures.id ∙ ap (id_at case.brokers) e ∙ c.broker_place-giver.ensures.id) in
    let then_is : list_of later p ≡ replace a b list = get_or-set_same lists p (replace a b list) [] fit.within in
    let row_a = row-of case lists c.args.self.now c.requires.order i a c.broker_place-giver.ensures.within c.broker_place-giver.ensures.id in
    let row_b = row-of case lists c.args.self.now c.requires.order j b c.broker_place-taker.ensures.within c.broker_place-taker.ensures.id in
    let old : get_or c.lose.new.self j [] ≡ get_or c.args.self.now j [] = rw c.lose.ensures.others (get_or-set_other c.args.self.now i j (get_or c.lose.new.self i []) [] m) in
    let weight : c.disk-weight.result ≡ disk_of case later b p =
    c.disk-weight.ensures
    ∙ ap (part_weight (load_weights 3) case.parts p) (c.leads-first.ensures ∙ ap (λ l. leads l a) c.list.ensures ∙ sym (leads-new a b list fit.target) ∙ ap (λ l. leads l b) (sym then_is)) in
    order-later case lists later c.args.self.now c.gain.new.self a b i j (get_or c.lose.new.self i []) (get_or c.gain.new.self j []) c.requires.order
    c.broker_place-giver.ensures.within c.broker_place-taker.ensures.within c.broker_place-giver.ensures.only c.broker_place-taker.ensures.only c.broker_place-giver.ensures.id c.broker_place-taker.ensures.id
    (lose case lists later a p (same-set lists a p (replace a b list)) (ap (λ l. has l a) then_is ∙ has-replaced a b list (c.requires.belongs.lists_belong.lists_are p [] fit.within).once (ne_eqb b a n))
    (get_or c.args.self.now i []) (get_or c.lose.new.self i []) row_a c.lose.ensures.row)
    (gain case lists later b p (same-set lists b p (replace a b list)) fit.target (ap (λ l. has l b) then_is ∙ has-new a b list fit.source) fit.within (disk_of case lists b) c.disk-weight.result weight
    (get_or c.args.self.now j []) (get_or c.gain.new.self j []) (λ k d l. refl) row_b (rw old at c.gain.ensures.row))
    (λ k d e. set-keeps lists k p case (replace a b list) fit.within (has-other a b k list d e) (leads-other a b k list d e))
    (c.gain.ensures.others ∙ ap (λ o. set o j (get_or c.gain.new.self j [])) c.lose.ensures.others)
