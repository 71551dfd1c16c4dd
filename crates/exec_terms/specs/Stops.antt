-- A stop, and the death of a broker: for each the state afterwards and the reply.
use Rattle.std.specs.Prelude.{ℕ, Bool, true, not, ◌==◌, ◌&&◌, ◌||◌, if◌then◌else◌, List, map, Result, Ok, Err}
use Rattle.std.specs.List.{list_any, count_by}
use Rattle.exec_terms.specs.Words.{is_pending, is_in_progress, in_flight, needs}
use Rattle.exec_terms.specs.declared.phase.Phase.{Phase}
use Rattle.exec_terms.specs.declared.phase.Phase.TheVariants.{Pending, InProgress, Aborting, Aborted, Completed, Dead}
use Rattle.exec_terms.specs.declared.task.Task.{Task}
use Rattle.exec_terms.specs.declared.brokers.Host.{Host}
use Rattle.exec_terms.specs.declared.replies.Stopped.{Stopped}
use Rattle.exec_terms.specs.declared.replies.NothingToStop.{NothingToStop}
use Rattle.exec_terms.specs.declared.replies.Killed.{Killed}
use Rattle.exec_terms.specs.declared.replies.KillFault.{KillFault}
use Rattle.exec_terms.specs.declared.replies.KillFault.TheVariants.{NoSuchBroker, AlreadyDead}
use Rattle.exec_terms.specs.Machine.{State, any_unfinished}

-- a stop: pending tasks are aborted, and with force those in progress are aborting
abbrev pub phase_stopped : Bool → Phase → Phase
phase_stopped force Pending = Aborted
phase_stopped force InProgress = if force then Aborting else InProgress
phase_stopped force Aborting = Aborting
phase_stopped force Aborted = Aborted
phase_stopped force Completed = Completed
phase_stopped force Dead = Dead

-- the task after a stop
abbrev pub stopped_by : Bool → Task → Task
stopped_by force t = record t { phase = phase_stopped force t.phase }

-- a stop, where some task has not ended
abbrev pub after_stop : State → Bool → State
after_stop s force = if any_unfinished s.tasks then record s { tasks = map (stopped_by force) s.tasks; stopped = true } else s

-- how many tasks it aborted, and how many it made abort
abbrev pub stop_reply : State → Bool → Result Stopped NothingToStop
stop_reply s force =
    if any_unfinished s.tasks
    then Ok (record { aborted = count_by (λ t. is_pending t.phase) s.tasks; aborting = (if force then count_by (λ t. is_in_progress t.phase) s.tasks else 0) })
    else Err (record {})

-- a death: a pending task that needs the broker is dead, one in flight is aborting and doomed
abbrev pub phase_killed : Phase → Phase
phase_killed Pending = Dead
phase_killed InProgress = Aborting
phase_killed Aborting = Aborting
phase_killed Aborted = Aborted
phase_killed Completed = Completed
phase_killed Dead = Dead

-- the task after the death of broker b
abbrev pub killed_by : ℕ → Task → Task
killed_by b t = if needs t b then record t { phase = phase_killed t.phase; doomed = t.doomed || in_flight t.phase } else t

-- the broker is known
abbrev pub is_host : List Host → ℕ → Bool
is_host hosts b = list_any (λ h. h.id == b) hosts

-- the broker is dead already
abbrev pub has_died : List Host → ℕ → Bool
has_died hosts b = list_any (λ h. (h.id == b) && h.dead) hosts

-- broker b is dead
abbrev pub marked : ℕ → Host → Host
marked b h = if h.id == b then record h { dead = true } else h

-- the broker is known and not dead
abbrev pub can_die : State → ℕ → Bool
can_die s b = is_host s.hosts b && not (has_died s.hosts b)

-- the death of a broker that can die
abbrev pub after_kill : State → ℕ → State
after_kill s b = if can_die s b then record s { tasks = map (killed_by b) s.tasks; hosts = map (marked b) s.hosts } else s

-- how many tasks it ended, and how many it made abort
abbrev pub kill_reply : State → ℕ → Result Killed KillFault
kill_reply s b =
    if not (is_host s.hosts b) then Err NoSuchBroker
    else (if has_died s.hosts b then Err AlreadyDead
    else Ok (record {
      dead = count_by (λ t. needs t b && is_pending t.phase) s.tasks;
      aborting = count_by (λ t. needs t b && is_in_progress t.phase) s.tasks;
    }))
