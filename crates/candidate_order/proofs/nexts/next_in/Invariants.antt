use Rattle.std.proofs.Common.{map, take}
use Rattle.std.specs.List.{All, flat_map}
use Rattle.candidate_order.specs.CandidateList.{candidates_at, replicas_of, NoStep}
use Rattle.candidate_order.specs.Known.{IsScanFor}
use Rattle.candidate_order.specs.declared.kept.Row.{Row}
use Rattle.candidate_order.proofs.nexts.next_in.Given as goal

abbrev pub invariant-loop-k : goal.invariant-loop-k
invariant-loop-k g l =
    record {
      passed : All (λ (r : Row). NoStep l.case (map (λ x. g.G.Goal.meaning x l.case) l.earlier) (g.G.Goal.meaning l.goal l.case) l.book.lists (flat_map (candidates_at l.kind l.case l.book.lists r.id) (replicas_of l.case l.book.lists r.id)))
          (take l.k l.scan.rows.items);
      scan_is : IsScanFor g.G.Goal l.case l.book.lists l.earlier l.goal l.scan;
    }
