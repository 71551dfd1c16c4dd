-- Laws of load sums: what a change of one list does to them.
use Rattle.std.proofs.Common.{◌≡◌, ℕ, ◌+◌, ◌<◌, List, [], ◌∷◌, length, get_or, set, zero, suc, arith}
use Rattle.std.specs.Prelude.{slice_index}
use Rattle.plan_terms.specs.Cluster.{Cluster, Lists, list_of}
use Rattle.plan_terms.specs.Load.{sum_parts, list_load, load}
use Rattle.plan_terms.specs.declared.cluster.Part.{Part}

-- a sum over the partitions after one list changed
pub sum_parts-set : (f : Part → List ℕ → ℕ) (ps : List Part) (lists : Lists) (p : ℕ) (d : Part) (list : List ℕ) → length lists ≡ length ps → p < length lists
    → sum_parts f ps (set lists p list) + f (get_or ps p d) (list_of lists p) ≡ sum_parts f ps lists + f (get_or ps p d) list
sum_parts-set f [] [] p d list e l = absurd (omega arith)
sum_parts-set f [] (x ∷ lists) p d list e l = absurd (omega arith)
sum_parts-set f (q ∷ ps) [] p d list e l = absurd (omega arith)
sum_parts-set f (q ∷ ps) (x ∷ lists) zero d list e l = omega arith
sum_parts-set f (q ∷ ps) (x ∷ lists) (suc p) d list e l = omega (arith, sum_parts-set f ps lists p d list (omega arith) (omega arith))

-- a broker's load after one list changed
pub load-set : (c : Cluster) (r b p : ℕ) (d : Part) (lists : Lists) (list : List ℕ) → length lists ≡ length c.parts → p < length lists
    → load c r b (set lists p list) + list_load (slice_index (get_or c.parts p d).loads.lead r) (slice_index (get_or c.parts p d).loads.follow r) b (list_of lists p)
    ≡ load c r b lists + list_load (slice_index (get_or c.parts p d).loads.lead r) (slice_index (get_or c.parts p d).loads.follow r) b list
load-set c r b p d lists list e l = sum_parts-set _ c.parts lists p d list e l
