-- What the executor does to the user tasks.
use Rattle.std.proofs.Common.{refl, sym, arith}
use Rattle.std.proofs.lemmas.Bool.{true≢false}
use Rattle.core_terms.specs.State.{opening_desk}
use Rattle.core_laws.proofs.UserTasks.{settled_tasks}
use Rattle.core_laws.proofs.Unfinished.{calm}
use Rattle.core_laws.specs.Laws.{MovesKeepTasks, OpeningHasTasks}
use Rattle.exec_terms.specs.Runs.{after_event}

pub moves_keep_tasks : MovesKeepTasks
moves_keep_tasks d e nl v a = settled_tasks d (after_event d.exec e) a (calm d.exec e nl v)

pub opening_has_tasks : OpeningHasTasks
unfolding opening_desk
opening_has_tasks file = record {
  one_each = refl;
  few_open = omega arith;
  one_plans = omega arith;
  none_plans = λ q. refl;
  idle = λ q. refl;
  busy = λ q. absurd (true≢false (sym q));
}
