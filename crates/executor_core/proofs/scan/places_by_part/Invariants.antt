use Rattle.std.proofs.Common.{◌≡◌, ◌<◌, ℕ, None, get_or, take, length, position}
use Rattle.exec_terms.specs.Words.{is_on}
use Rattle.executor_core.proofs.scan.places_by_part.Given as goal

abbrev pub invariant-loop-place : goal.invariant-loop-place
invariant-loop-place l = record {
  long : length l.places.items ≡ l.parts;
  each : (p : ℕ) → p < l.parts → get_or l.places.items p None ≡ position (is_on p) (take l.place l.tasks);
}
