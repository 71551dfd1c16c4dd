use Rattle.std.proofs.Common.{map, ℕ, get_or, sym, ap, ◌∙◌}
use Rattle.std.proofs.lemmas.Bool.{false≢true}
use Rattle.std.proofs.lemmas.List.{take_all}
use Rattle.std.proofs.lemmas.List.Elements.{All-more}
use Rattle.plan_terms.specs.Cluster.{has}
use Rattle.plan_terms.specs.Trace.{Step}
use Rattle.plan_terms.specs.declared.actions.Action.TheVariants.{Swap}
use Rattle.candidate_order.proofs.Complete.{known-member}
use Rattle.candidate_order.proofs.RankLemmas.{has-at}
use Rattle.candidate_order.proofs.swaps.some_of_serves.Goals as goal

pub row_of-target-requires-clause-known : goal.row_of-target-requires-clause-known
row_of-target-requires-clause-known g c =
    let members = c.list-members.result.now in
    let i = c.loop-member.member-index in
    known-member c.args.case.now c.args.book.now.lists c.requires.belongs.lists_belong c.args.other (get_or members i 0)
    (ap (λ ys. has ys (get_or members i 0)) (sym c.list-members.ensures) ∙ has-at members i 0 c.loop-member-test.true)

pub loop-member-preserved : goal.loop-member-preserved
loop-member-preserved g c =
    let case = c.args.case.now in
    let lists = c.args.book.now.lists in
    let no : Step case (map (λ x. g.G.Goal.meaning x case) c.args.earlier.now) (g.G.Goal.meaning c.args.goal.now case) lists (Swap c.args.part c.args.source.now.id c.args.other c.row_of-target.result.now.id) → ⊥ =
    λ s. false≢true (c.if-swap_serves.ensures.1 s) in
    All-more (λ (b : ℕ). Step case (map (λ x. g.G.Goal.meaning x case) c.args.earlier.now) (g.G.Goal.meaning c.args.goal.now case) lists (Swap c.args.part c.args.source.now.id c.args.other b) → ⊥)
    c.list-members.result.now c.loop-member.member-index 0 c.loop-member-test.true c.loop-member.invariant
    (rw c.row_of-target.ensures.id at no)

pub returns : goal.returns
returns g c = λ _. rw (take_all c.loop-member.member-index c.list-members.result.now c.loop-member-test.false, c.list-members.ensures) at c.loop-member.invariant
