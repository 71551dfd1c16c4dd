use Rattle.std.proofs.Common.{ℕ, ◌∙◌, map, sym}
use Rattle.candidate_order.specs.CandidateList.{candidates_at}
use Rattle.candidate_order.specs.Scan.{Finds}
use Rattle.plan_terms.specs.Trace.{Step}
use Rattle.candidate_order.proofs.Firsts.{found-Some, found-None}
use Rattle.candidate_order.proofs.blocks.first_of_block.Goals as goal

pub returns-in-Some : goal.returns-in-Some
returns-in-Some g c =
    let s = c.args.search.now in
    let case = s.case.now in
    let lists = s.book.now.lists in
    let found = c.first_answer.ensures in
    found-Some (Step case (map (λ x. g.G.Goal.meaning x case) s.earlier.now) (g.G.Goal.meaning s.goal.now case) lists) (candidates_at s.kind case lists s.source.now.id)
    (λ (p : ℕ) o. Finds g.G.Goal s.earlier.now s.goal.now case lists s.kind s.source.now.id p o) (λ p o h. h.first)
    c.args.block.now found.0 c.in-Some.found found.1 (sym c.in-Some.is ∙ found.2)

pub returns-in-None : goal.returns-in-None
returns-in-None g c =
    let s = c.args.search.now in
    let case = s.case.now in
    let lists = s.book.now.lists in
    let found = c.first_answer.ensures in
    found-None (Step case (map (λ x. g.G.Goal.meaning x case) s.earlier.now) (g.G.Goal.meaning s.goal.now case) lists) (candidates_at s.kind case lists s.source.now.id)
    (λ (p : ℕ) o. Finds g.G.Goal s.earlier.now s.goal.now case lists s.kind s.source.now.id p o) (λ p o h. h.first)
    c.args.block.now found.0 found.1 (sym c.in-None.is ∙ found.2)
