-- What is known of each task at its place: whether it wants its cancel, whether it may go on, and the number of its lease.
use Rattle.std.specs.Prelude.{◌≡◌, ℕ, Bool, false, ◌&&◌, List, map, slice_set, length, replicate, Option, None}
use Rattle.std.specs.Option.{option_map}
use Rattle.exec_terms.specs.Words.{is_aborting, is_in_progress, is_free}
use Rattle.exec_terms.specs.declared.work.Lease.{Lease}
use Rattle.exec_terms.specs.declared.task.Task.{Task}

-- by the places of the tasks
pub record Marks : Type 0 where
  pub to_cancel : List Bool
  pub to_go_on : List Bool
  pub leases : List (Option ℕ)

-- it is aborting, and no lease of it is out
abbrev pub wants_cancel : Task → Bool
wants_cancel t = is_aborting t.phase && is_free t.lease

-- it is in progress, and no lease of it is out
abbrev pub may_go_on : Task → Bool
may_go_on t = is_in_progress t.phase && is_free t.lease

-- the number of the lease, if one is out
abbrev pub number_of : Option Lease → Option ℕ
number_of lease = option_map (λ l. l.number) lease

abbrev pub number_in : Task → Option ℕ
number_in t = number_of t.lease

-- what is known of the tasks
abbrev pub marks_of : List Task → Marks
marks_of tasks = record { to_cancel = map wants_cancel tasks; to_go_on = map may_go_on tasks; leases = map number_in tasks }

-- nothing is known of so many tasks
abbrev pub no_marks : ℕ → Marks
no_marks n = record { to_cancel = replicate n false; to_go_on = replicate n false; leases = replicate n None }

-- another task stands at a place
abbrev pub marked_at : Marks → ℕ → Task → Marks
marked_at m i t = record {
  to_cancel = slice_set m.to_cancel i (wants_cancel t);
  to_go_on = slice_set m.to_go_on i (may_go_on t);
  leases = slice_set m.leases i (number_in t);
}

-- all are of the same tasks
pub record AreBeside (to_cancel to_go_on : List Bool) (leases : List (Option ℕ)) : Type 0 where
  pub cancels : length to_cancel ≡ length leases
  pub steps : length to_go_on ≡ length leases
