-- Why the book doesn't take an event.
use Rattle.std.specs.Prelude.{◌≡◌, ℕ, ◌≤◌, true, false}
use Rattle.exec_terms.specs.Machine.{any_unfinished}
use Rattle.core_terms.specs.State.{Desk}
use Rattle.core_terms.specs.History.{is_outward, is_sure}
use Rattle.core_terms.specs.declared.events.Event.{Event}
use Rattle.core_terms.specs.declared.faults.StepFault.{StepFault}
use Rattle.core_terms.specs.declared.faults.StepFault.TheVariants as fault

-- the number of the outside fault that it tells, or 0
abbrev pub blame_of : StepFault → ℕ
blame_of (fault.AdminFault number) = number
blame_of fault.Memory = 0

-- it is want of memory
abbrev pub IsWant : StepFault → Type 0
IsWant (fault.AdminFault number) = ⊥
IsWant fault.Memory = Unit {0}

-- when an event may meet the fault: one of the admin only where the event calls it, while a task is unfinished, and its number is at
-- least 1; want of memory only where the event takes memory
abbrev pub IsCause : Desk → Event → StepFault → Type 0
IsCause d e (fault.AdminFault number) = (is_outward e ≡ true) × (any_unfinished d.exec.tasks ≡ true) × (1 ≤ number)
IsCause d e fault.Memory = is_sure d e ≡ false
