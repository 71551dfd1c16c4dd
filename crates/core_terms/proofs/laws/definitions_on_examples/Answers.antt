use Rattle.std.proofs.Common.{refl}
use Rattle.plan_terms.specs.Change.{proposals}
use Rattle.metric_windows.specs.Samples.{newest, kept_windows, values}
use Rattle.exec_terms.specs.Machine.{next_work}
use Rattle.exec_terms.specs.Leases.{test_lease, end_lease}
use Rattle.exec_terms.specs.Words.{copies, copies_left, next_step}
use Rattle.user_tasks.specs.Ids.{id_of}
use Rattle.core_terms.specs.Same.{same_cluster, same_lists, same_goals, same_ask}
use Rattle.core_terms.specs.Asked.{case_of}
use Rattle.core_terms.specs.Input.{accepted, loaded_parts, valid_parts}
use Rattle.core_terms.specs.State.{opening_desk, present}
use Rattle.core_terms.specs.Submits.{refusal_of}
use Rattle.core_terms.specs.Plans.{problem_at}
use Rattle.core_terms.specs.History.{state_after}
use Rattle.core_terms.proofs.laws.definitions_on_examples.Goals as goal

pub returns : goal.returns
unfolding proposals newest kept_windows values next_work test_lease end_lease copies copies_left next_step id_of same_cluster same_lists same_goals same_ask case_of accepted loaded_parts valid_parts opening_desk present refusal_of problem_at state_after
returns c trace = record {
  runs = refl;
  stop_forced = refl;
  list_forced = refl;
  stop_soft = refl;
  list_soft = refl;
  killed = refl;
  list_killed = refl;
  added_until_then = refl;
  cancelled = refl;
  list_cancelled = refl;
  added_no_more = refl;
  sent_back = refl;
  requested = refl;
  caps_set = refl;
  caps_kept = refl;
}
