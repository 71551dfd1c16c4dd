use Rattle.std.proofs.Common.{◌≡◌, ◌∙◌, ap, sym, true, false, take, map, ℕ, List}
use Rattle.std.specs.List.{list_any}
use Rattle.std.specs.Prelude.{option_map}
use Rattle.plan_terms.specs.Faults.{part_repeat, same_part}
use Rattle.plan_terms.specs.declared.faults.CaseFault.TheVariants.{DuplicatePartition}
use Rattle.load_model.proofs.Listed.{true_from_not, false_from_not}
use Rattle.load_model.proofs.Repetition.{Key, Kept, seen_key, same_kept, any_key, keys_more, repeat_from-here, repeat_from-next}
use Rattle.load_model.proofs.repeats.part_repeat.Goals as goal

pub returns-then-not-branch : goal.returns-then-not-branch
unfolding part_repeat
returns-then-not-branch c =
    let p = c.index-parts-i.result in
    let k : Kept = (p.number, c.as_str.result) in
    let is = ap (λ (t : List ℕ). let q : Key = (p.number, t) in q) c.as_str.ensures in
    let has : list_any (same_part p) (take c.loop-i.i c.args.parts.now) ≡ true = sym (any_key k _ p _ is c.loop-i.invariant.keys_are) ∙ true_from_not _ (sym c.in_ok-insert.ensures.added ∙ c.if-not-branch.true) in
    sym (ap (option_map DuplicatePartition) (sym c.loop-i.invariant.rest ∙ repeat_from-here same_part _ _ p c.loop-i-test.true c.index-parts-i.is has))

pub loop-i-preserved : goal.loop-i-preserved
loop-i-preserved c =
    let p = c.index-parts-i.result in
    let k : Kept = (p.number, c.as_str.result) in
    let is = ap (λ (t : List ℕ). let q : Key = (p.number, t) in q) c.as_str.ensures in
    let lacks : list_any (same_kept k) c.loop-i.seen.keys ≡ false = false_from_not _ (sym c.in_ok-insert.ensures.added ∙ c.if-not-branch.false) in
    let new = sym (any_key k _ p _ is c.loop-i.invariant.keys_are) ∙ lacks in
    record {
      keys_are = ap (map seen_key) c.in_ok-insert.ensures.keys ∙ keys_more _ _ _ p k c.loop-i-test.true c.index-parts-i.is is c.loop-i.invariant.keys_are lacks;
      rest = repeat_from-next same_part _ _ p c.loop-i-test.true c.index-parts-i.is new ∙ c.loop-i.invariant.rest;
    }
