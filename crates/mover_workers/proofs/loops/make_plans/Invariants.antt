use Rattle.mover_rounds.specs.Made.{HasMade}
use Rattle.mover_workers.specs.Loops.{AreUnits, IsPlanUnit, no_copier}
use Rattle.mover_workers.proofs.loops.make_plans.Given as goal

abbrev pub invariant-loop : goal.invariant-loop
invariant-loop g l = record {
  since : g.X.Asker.since l.initial.asker l.asker;
  did : HasMade (AreUnits (IsPlanUnit (g.X.Asker.known l.initial.asker).rules (g.X.Asker.known l.asker).seen)) (g.X.Asker.known l.initial.asker) (g.X.Asker.known l.asker) no_copier no_copier;
}
