use Rattle.core_laws.proofs.Alone.{idle_is_done, planned_is_less, taken_work_is_out, worked_is_less}
use Rattle.core_laws.proofs.laws.every_round.Goals as goal

pub returns : goal.returns
returns c = record {
  out = taken_work_is_out;
  worked = worked_is_less;
  planned = planned_is_less;
  idle = idle_is_done;
}
