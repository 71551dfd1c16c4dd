use Rattle.core_laws.proofs.Moves.{moves_keep_tasks, opening_has_tasks}
use Rattle.core_laws.proofs.Events.{events_keep_tasks}
use Rattle.core_laws.proofs.Valid.{events_keep_valid}
use Rattle.core_laws.proofs.Tickets.{events_keep_tickets}
use Rattle.core_laws.proofs.Plans.{plans_meet_no_execution}
use Rattle.core_laws.proofs.Settled.{settled_belongs}
use Rattle.core_laws.proofs.Sound.{each_event_keeps_sound}
use Rattle.core_laws.proofs.Histories.{opening_is_sound, histories_are_sound, histories_keep_caps, histories_show_lists}
use Rattle.core_laws.proofs.Closing.{closing_was_asked}
use Rattle.core_laws.proofs.Reported.{copies_are_reported}
use Rattle.core_laws.proofs.laws.every_history.Goals as goal

pub returns : goal.returns
returns c = record {
  moves = moves_keep_tasks;
  events = events_keep_tasks;
  valid = events_keep_valid;
  tickets = events_keep_tickets;
  plans = plans_meet_no_execution;
  opens = opening_has_tasks;
  settled = settled_belongs;
  keeps = each_event_keeps_sound;
  opening = opening_is_sound;
  lists = histories_show_lists;
  caps = histories_keep_caps;
  closing = closing_was_asked;
  copies = copies_are_reported;
  histories = histories_are_sound;
}
