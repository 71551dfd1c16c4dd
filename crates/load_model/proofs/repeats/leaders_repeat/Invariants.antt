use Rattle.std.proofs.Common.{◌≡◌, map, take, drop}
use Rattle.plan_terms.specs.Faults.{first_repeat, repeat_from, same_topic}
use Rattle.load_model.proofs.repeats.leaders_repeat.Given as goal

abbrev pub invariant-loop-i : goal.invariant-loop-i
invariant-loop-i l = record {
  topics_are : map (λ k. k.now) l.seen.keys ≡ map (λ m. m.topic) (take l.i l.min_leaders);
  rest : repeat_from same_topic (take l.i l.min_leaders) l.i (drop l.i l.min_leaders) ≡ first_repeat same_topic l.min_leaders;
}
