use Rattle.std.proofs.Common.{◌<◌, ℕ, length, arith, ap, sym}
use Rattle.std.proofs.lemmas.List.Elements.{All-push}
use Rattle.candidate_order.proofs.StirLemmas.{each-more, each-still}
use Rattle.candidate_order.proofs.kept.all_stirring.Goals as goal
use Rattle.candidate_order.proofs.kept.all_stirring.Goals.{then-stirs+in_ok-push, else-stirs}

pub loop-part-preserved : goal.loop-part-preserved
loop-part-preserved g c =
    let parts = c.args.case.now.parts in
    let stirs = g.G.Goal.stirs_at c.args.goal.now c.args.case.now c.args.book.now.lists in
    let p = c.loop-part.part in
    let xs = c.loop-part.stirring.items in
    let l : p < length parts = omega (arith, c.loop-part-test.true, ap length c.parts.ensures.value) in
    elim c.if-stirs.branch [
      | then-stirs+in_ok-push w ↦ record {
        within = rw (w.stirring-is, w.in_ok-push.ensures.items) (All-push (λ (q : ℕ). q < length parts) xs p c.loop-part.invariant.within l);
        each = rw (w.stirring-is, w.in_ok-push.ensures.items) (each-more stirs p xs c.loop-part.invariant.each);
      }
      | else-stirs w ↦ record {
        within = rw w.stirring-is c.loop-part.invariant.within;
        each = rw w.stirring-is (each-still stirs p xs c.loop-part.invariant.each (sym w.if-stirs.ensures));
      }
    ]
