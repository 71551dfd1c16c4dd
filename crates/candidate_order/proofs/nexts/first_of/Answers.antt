use Rattle.std.proofs.Common.{ℕ, map, refl, get_or}
use Rattle.std.proofs.lemmas.List.{take_all}
use Rattle.std.proofs.lemmas.List.Elements.{All-more}
use Rattle.plan_terms.specs.Trace.{Step}
use Rattle.candidate_order.specs.CandidateList.{candidates_at, NoStep}
use Rattle.candidate_order.proofs.Firsts.{first-flat, none-flat}
use Rattle.candidate_order.proofs.nexts.first_of.Goals as goal

pub returns-in-Some : goal.returns-in-Some
returns-in-Some g c =
    let case = c.args.case.now in
    let lists = c.args.book.now.lists in
    first-flat (Step case (map (λ x. g.G.Goal.meaning x case) c.args.earlier.now) (g.G.Goal.meaning c.args.goal.now case) lists) (candidates_at c.args.kind case lists c.args.source.now.id)
    c.args.replicas.now c.loop-part.part-index 0 c.in-Some.action c.loop-part-test.true c.loop-part.invariant
    (rw c.in-Some.is at c.first_at_since-found.ensures)

pub loop-part-preserved : goal.loop-part-preserved
loop-part-preserved g c =
    let case = c.args.case.now in
    let lists = c.args.book.now.lists in
    All-more (λ (p : ℕ). NoStep case (map (λ x. g.G.Goal.meaning x case) c.args.earlier.now) (g.G.Goal.meaning c.args.goal.now case) lists (candidates_at c.args.kind case lists c.args.source.now.id p))
    c.args.replicas.now c.loop-part.part-index 0 c.loop-part-test.true c.loop-part.invariant
    (rw c.in_default.is at c.first_at_since-found.ensures)

pub returns : goal.returns
returns g c =
    let case = c.args.case.now in
    let lists = c.args.book.now.lists in
    none-flat (Step case (map (λ x. g.G.Goal.meaning x case) c.args.earlier.now) (g.G.Goal.meaning c.args.goal.now case) lists) (candidates_at c.args.kind case lists c.args.source.now.id)
    c.args.replicas.now (rw (take_all c.loop-part.part-index c.args.replicas.now c.loop-part-test.false) at c.loop-part.invariant)

pub returns-then-serves_nobody : goal.returns-then-serves_nobody
returns-then-serves_nobody g c =
    let case = c.args.case.now in
    let lists = c.args.book.now.lists in
    none-flat (Step case (map (λ x. g.G.Goal.meaning x case) c.args.earlier.now) (g.G.Goal.meaning c.args.goal.now case) lists) (candidates_at c.args.kind case lists c.args.source.now.id)
    c.args.replicas.now (λ k d l. c.if-serves_nobody.ensures refl (get_or c.args.replicas.now k d))

pub first_at_since-found-requires-clause-since : goal.first_at_since-found-requires-clause-since
first_at_since-found-requires-clause-since g c = c.rests_since-since.ensures _ (c.requires.within c.loop-part.part-index 0 c.loop-part-test.true)
