use Rattle.std.proofs.Common.{map}
use Rattle.candidate_order.proofs.Complete.{NoneLeft-candidates}
use Rattle.candidate_order.proofs.KindLemmas.{by_kind, leads-in}
use Rattle.candidate_order.proofs.next.first_candidate.Goals as goal

pub returns-in-Some : goal.returns-in-Some
returns-in-Some g c =
    let case = c.args.case.now in
    let kinds = by_kind case (map (λ x. g.G.Goal.meaning x case) c.args.earlier.now) (g.G.Goal.meaning c.args.goal.now case) c.args.book.now.lists in
    record { next = kinds.moves c.in-Some.action (rw c.in-Some.is at c.next_in-next_move.ensures.first); scan = c.next_in-next_move.ensures.scan }

pub returns-in-Some-next_lead : goal.returns-in-Some-next_lead
returns-in-Some-next_lead g c =
    let case = c.args.case.now in
    let lists = c.args.book.now.lists in
    let kinds = by_kind case (map (λ x. g.G.Goal.meaning x case) c.args.earlier.now) (g.G.Goal.meaning c.args.goal.now case) lists in
    record {
      next = kinds.leads c.in-Some-next_lead.action (rw c.in_default.is at c.next_in-next_move.ensures.first) (rw (leads-in case lists) at (rw c.in-Some-next_lead.is at c.next_in-next_lead.ensures.first));
      scan = c.next_in-next_lead.ensures.scan;
    }

pub returns-in-Some-next_swap : goal.returns-in-Some-next_swap
returns-in-Some-next_swap g c =
    let case = c.args.case.now in
    let lists = c.args.book.now.lists in
    let kinds = by_kind case (map (λ x. g.G.Goal.meaning x case) c.args.earlier.now) (g.G.Goal.meaning c.args.goal.now case) lists in
    record {
      next = kinds.swaps c.in-Some-next_swap.action (rw c.in_default.is at c.next_in-next_move.ensures.first) (rw (leads-in case lists) at (rw c.in_default-next_lead.is at c.next_in-next_lead.ensures.first))
          (rw c.in-Some-next_swap.is at c.next_in-next_swap.ensures.first);
      scan = c.next_in-next_swap.ensures.scan;
    }

pub returns : goal.returns
returns g c =
    let case = c.args.case.now in
    let lists = c.args.book.now.lists in
    let earlier = map (λ x. g.G.Goal.meaning x case) c.args.earlier.now in
    let kinds = by_kind case earlier (g.G.Goal.meaning c.args.goal.now case) lists in
    record {
      next = NoneLeft-candidates case lists c.requires.belongs.lists_belong earlier (g.G.Goal.meaning c.args.goal.now case)
          (kinds.none (rw c.in_default.is at c.next_in-next_move.ensures.first) (rw (leads-in case lists) at (rw c.in_default-next_lead.is at c.next_in-next_lead.ensures.first)) (rw c.in_default-next_swap.is at c.next_in-next_swap.ensures.first));
      scan = c.next_in-next_swap.ensures.scan;
    }
