use Rattle.std.proofs.Common.{ℕ, List, ◌≤◌, map, take, drop, subst, sym, arith}
use Rattle.std.specs.List.{All, flat_map, slice_range}
use Rattle.std.proofs.lemmas.List.{take_all}
use Rattle.std.proofs.lemmas.List.Elements.{All-append}
use Rattle.plan_terms.specs.Trace.{Step}
use Rattle.candidate_order.specs.CandidateList.{candidates_at, NoStep}
use Rattle.candidate_order.specs.First.{IsFirst}
use Rattle.candidate_order.proofs.BlockLemmas.{front-range, parts-range}
use Rattle.candidate_order.proofs.Firsts.{first-block, none-flat}
use Rattle.candidate_order.proofs.blocks.first_by_blocks.Goals as goal

pub returns-in-Some : goal.returns-in-Some
returns-in-Some g c =
    let s = c.args.search.now in
    let case = s.case.now in
    let lists = s.book.now.lists in
    let xs = c.args.replicas.now in
    let rises : c.each.from ≤ c.min-to.result = omega (arith, c.each-test.true, c.min-to.ensures, c.saturating_add.ensures) in
    subst (λ (l : List ℕ). IsFirst (Step case (map (λ x. g.G.Goal.meaning x case) s.earlier.now) (g.G.Goal.meaning s.goal.now case) lists) (flat_map (candidates_at s.kind case lists s.source.now.id) l) c.in-Some.action)
    (sym (parts-range xs c.each.from c.min-to.result rises))
    (first-block (Step case (map (λ x. g.G.Goal.meaning x case) s.earlier.now) (g.G.Goal.meaning s.goal.now case) lists) (candidates_at s.kind case lists s.source.now.id)
    (take c.each.from xs) (slice_range xs c.each.from c.min-to.result) (drop c.min-to.result xs) c.in-Some.action c.each.invariant.passed (rw c.in-Some.is at c.first_of_block-found.ensures))

pub each-preserved : goal.each-preserved
each-preserved g c =
    let s = c.args.search.now in
    let case = s.case.now in
    let lists = s.book.now.lists in
    let xs = c.args.replicas.now in
    let rises : c.each.from ≤ c.min-to.result = omega (arith, c.each-test.true, c.min-to.ensures, c.saturating_add.ensures) in
    let none = λ (p : ℕ). NoStep case (map (λ x. g.G.Goal.meaning x case) s.earlier.now) (g.G.Goal.meaning s.goal.now case) lists (candidates_at s.kind case lists s.source.now.id p) in
    record {
      passed = subst (λ (l : List ℕ). All none l) (sym (front-range xs c.each.from c.min-to.result rises c.each.invariant.within))
          (All-append none (take c.each.from xs) (slice_range xs c.each.from c.min-to.result) c.each.invariant.passed (rw c.in_default.is at c.first_of_block-found.ensures));
      within = omega (arith, c.min-to.ensures);
    }

pub returns : goal.returns
returns g c =
    let s = c.args.search.now in
    let case = s.case.now in
    let lists = s.book.now.lists in
    none-flat (Step case (map (λ x. g.G.Goal.meaning x case) s.earlier.now) (g.G.Goal.meaning s.goal.now case) lists) (candidates_at s.kind case lists s.source.now.id)
    c.args.replicas.now (rw (take_all c.each.from c.args.replicas.now c.each-test.false) at c.each.invariant.passed)
