use Rattle.core_laws.proofs.Lifts as lifts
use Rattle.core_laws.proofs.Events.{none_executes}
use Rattle.core_laws.proofs.Replies.{only_requests_meet_execution}
use Rattle.core_laws.proofs.Refusals.{refusals_keep_state}
use Rattle.core_laws.proofs.laws.every_event.Goals as goal

pub returns : goal.returns
returns c = record {
  launches = lifts.plans_can_be_launched;
  changes = lifts.changes_can_be_launched;
  moves = lifts.events_move_executor;
  starts = lifts.starts_keep_caps_in_force;
  others = lifts.others_raise_none;
  work = lifts.only_launches_raise_work;
  less = lifts.ended_work_is_less;
  there = lifts.work_is_there;
  refusals = refusals_keep_state;
  requests = only_requests_meet_execution;
  executing = none_executes;
}
