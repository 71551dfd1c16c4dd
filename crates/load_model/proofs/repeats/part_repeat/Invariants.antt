use Rattle.std.proofs.Common.{◌≡◌, map, take, drop}
use Rattle.plan_terms.specs.Faults.{first_repeat, repeat_from, same_part}
use Rattle.load_model.proofs.Repetition.{key}
use Rattle.load_model.proofs.repeats.part_repeat.Given as goal

abbrev pub invariant-loop-i : goal.invariant-loop-i
invariant-loop-i l = record {
  keys_are : map (λ k. (k.0, k.1.now)) l.seen.keys ≡ map key (take l.i l.parts);
  rest : repeat_from same_part (take l.i l.parts) l.i (drop l.i l.parts) ≡ first_repeat same_part l.parts;
}
