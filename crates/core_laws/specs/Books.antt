-- What a book rests on: how many leases and tickets are given, the room that its journal keeps, and the lists that its admin tells.
use Rattle.std.specs.Prelude.{◌≡◌, ℕ, ◌+◌, ◌≤◌, List, length, Some, if◌then◌else◌}
use Rattle.plan_terms.specs.Belongs.{Belongs}
use Rattle.cluster_json.specs.File.{Meaning}
use Rattle.exec_terms.specs.Machine.{lists_now}
use Rattle.core_terms.specs.Input.{IsInput}
use Rattle.core_terms.specs.State.{Core, Desk, moment_of}
use Rattle.core_terms.specs.Plans.{problem_at}
use Rattle.core_terms.specs.Step.{next}
use Rattle.core_terms.specs.History.{AreLegal, IsLegal, is_sure, kept_for, state_after}
use Rattle.core_terms.specs.Sound.{IsSound}
use Rattle.core_terms.specs.Writes.{told_after}
use Rattle.core_terms.specs.declared.events.Event.{Event}

-- no more leases and tickets were given than so many
pub record AreGiven (d : Desk) (n : ℕ) : Type 0 where
  pub leases : d.exec.leases ≤ n
  pub tickets : d.tickets ≤ n

-- each event gives at most one lease and one ticket, so after a journal no more were given than it has entries
abbrev pub EntriesGiveOneEach : Type 0
EntriesGiveOneEach = (file : Meaning) (events : List Event) → IsInput file → AreLegal events → AreGiven (state_after file events).desk (length events)

-- the room that the journal keeps suffices: an event that is sure takes its entry from it, and any other one needs at most two more,
-- for its own entry and for the lease or ticket that it gives
abbrev pub RoomIsKept : Type 0
RoomIsKept = (file : Meaning) (s : Core) (e : Event) → IsInput file → IsLegal e → IsSound file s.desk
    → kept_for (next file s e).desk + 1 ≤ (if is_sure s.desk e then kept_for s.desk else kept_for s.desk + 2)

-- with the call that goes with each event the admin's lists stay the state's
abbrev pub AdminFollows : Type 0
AdminFollows = (file : Meaning) (s : Core) (e : Event) → IsInput file → IsLegal e → IsSound file s.desk
    → told_after s.desk.exec e (Some (lists_now s.desk.exec)) ≡ Some (lists_now (next file s e).desk.exec)

-- the settled lists belong to the case of each job
abbrev pub ProblemsBelong : Type 0
ProblemsBelong = (file : Meaning) (s : Core) (i : ℕ) → IsSound file s.desk
    → Belongs (problem_at (moment_of file s).cluster s.desk i).case (problem_at (moment_of file s).cluster s.desk i).start
