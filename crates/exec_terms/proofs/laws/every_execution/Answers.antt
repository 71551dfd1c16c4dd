use Rattle.exec_terms.proofs.Launch.{each_event_keeps, runs_are_valid}
use Rattle.exec_terms.proofs.WorkLeft.{events_lower, none_left_is_done}
use Rattle.exec_terms.proofs.Gives.{no_event_raises, take_gives}
use Rattle.exec_terms.proofs.ListLaws.{list_now-task, launch_keeps_lists, others_keep_lists, unions_are_short, lists_are_short, drained_lists_are_settled, settled_lists_are_replica_lists}
use Rattle.exec_terms.proofs.CapLaws.{starts_keep_caps, only_starts_raise, runs_keep_caps}
use Rattle.exec_terms.proofs.laws.every_execution.Goals as goal

pub returns : goal.returns
returns c = record {
  keeps = each_event_keeps;
  runs = runs_are_valid;
  lowers = events_lower;
  raises = no_event_raises;
  done = none_left_is_done;
  gives = take_gives;
  lists = list_now-task;
  launches = launch_keeps_lists;
  starts_keep_caps = starts_keep_caps;
  only_starts_raise = only_starts_raise;
  runs_keep_caps = runs_keep_caps;
  unions_are_short = unions_are_short;
  lists_are_short = lists_are_short;
  drained_lists_are_settled = drained_lists_are_settled;
  settled_lists_are_replica_lists = settled_lists_are_replica_lists;
  others_keep_lists = others_keep_lists;
}
