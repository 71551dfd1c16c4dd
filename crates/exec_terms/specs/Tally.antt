-- How many tasks are in each phase, and how many leases are out.
use Rattle.std.specs.Prelude.{ℕ, not, List}
use Rattle.std.specs.List.{count_by}
use Rattle.exec_terms.specs.Words.{is_pending, is_in_progress, is_aborting, is_aborted, is_completed, has_phase_dead, is_free}
use Rattle.exec_terms.specs.declared.task.Task.{Task}
use Rattle.exec_terms.specs.declared.tally.PhaseCounts.{PhaseCounts}

-- the tasks of each phase, counted
abbrev pub phase_counts : List Task → PhaseCounts
phase_counts tasks = record {
  pending = count_by (λ t. is_pending t.phase) tasks;
  in_progress = count_by (λ t. is_in_progress t.phase) tasks;
  aborting = count_by (λ t. is_aborting t.phase) tasks;
  aborted = count_by (λ t. is_aborted t.phase) tasks;
  completed = count_by (λ t. is_completed t.phase) tasks;
  dead = count_by (λ t. has_phase_dead t.phase) tasks;
}

-- the tasks that have a lease out, counted
abbrev pub leases_out : List Task → ℕ
leases_out tasks = count_by (λ t. not (is_free t.lease)) tasks
