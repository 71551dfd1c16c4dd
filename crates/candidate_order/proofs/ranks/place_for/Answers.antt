use Rattle.std.proofs.Common.{◌≡◌, ℕ, ◌+◌, ◌-◌, ◌/◌, ◌<◌, length, get_or, refl, sym, ◌∙◌, ap, arith, inl, inr}
use Rattle.std.proofs.lemmas.Bool.{cases_lt, false≢true}
use Rattle.plan_terms.specs.Cluster.{has}
use Rattle.candidate_order.specs.CandidateList.{disk_of}
use Rattle.candidate_order.specs.Ranks.{IsAhead}
use Rattle.candidate_order.proofs.RankLemmas.{ahead-at, ahead-trans, ahead-other, has-at}
use Rattle.candidate_order.proofs.ranks.place_for.Goals as goal

pub loop-low-preserved-then-is_ahead : goal.loop-low-preserved-then-is_ahead
loop-low-preserved-then-is_ahead c =
    let f : ℕ → ℕ = disk_of c.args.case.now c.args.book.now.lists c.args.broker in
    let row = c.args.row.now in
    let middle = c.loop-low.low + (c.loop-low.high - c.loop-low.low) / 2 in
    let ahead = rw c.disk_at-other_weight.ensures at (c.if-is_ahead.ensures.0 refl) in
    record {
      order = omega arith;
      within = c.loop-low.invariant.within;
      before = λ k l. elim (cases_lt k middle) as (λ _. IsAhead (f (get_or row k 0)) (get_or row k 0) c.args.weight c.args.part) [
        | inl m ↦ ahead-trans (ahead-at f row c.requires.in_order k middle m (omega arith)) ahead
        | inr m ↦ let e : k ≡ middle = omega arith in rw e ahead
      ];
      behind = c.loop-low.invariant.behind;
    }

pub loop-low-preserved : goal.loop-low-preserved
loop-low-preserved c =
    let f : ℕ → ℕ = disk_of c.args.case.now c.args.book.now.lists c.args.broker in
    let row = c.args.row.now in
    let middle = c.loop-low.low + (c.loop-low.high - c.loop-low.low) / 2 in
    let other = get_or row middle 0 in
    let m : middle < length row = omega arith in
    let apart : other ≡ c.args.part → ⊥ = λ e. false≢true (sym c.requires.new ∙ ap (has row) (sym e) ∙ has-at row middle 0 m) in
    let no : IsAhead (f other) other c.args.weight c.args.part → ⊥ = λ h. false≢true (c.if-is_ahead.ensures.1 (rw c.disk_at-other_weight.ensures h)) in
    let ahead = ahead-other (f other) other c.args.weight c.args.part apart no in
    record {
      order = omega arith;
      within = omega arith;
      before = c.loop-low.invariant.before;
      behind = λ k l n. elim (cases_lt middle k) as (λ _. IsAhead c.args.weight c.args.part (f (get_or row k 0)) (get_or row k 0)) [
        | inl h ↦ ahead-trans ahead (ahead-at f row c.requires.in_order middle k h n)
        | inr h ↦ let e : k ≡ middle = omega arith in rw e ahead
      ];
    }
