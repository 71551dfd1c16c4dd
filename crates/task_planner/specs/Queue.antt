-- The queue of tasks: which wait, and which of them fits first.
use Rattle.std.specs.Prelude.{◌≡◌, ℕ, Bool, true, false, not, ◌==◌, ◌&&◌, ◌||◌, List, [], get_or, Option}
use Rattle.std.specs.List.{list_any, list_all, position}
use Rattle.plan_terms.specs.Belongs.{distinct}
use Rattle.plan_terms.specs.Cluster.{has}
use Rattle.plan_terms.specs.declared.lists.Proposal.{Proposal}
use Rattle.plan_terms.specs.declared.settings.Caps.{Caps}
use Rattle.plan_terms.specs.Change.{differ}
use Rattle.cap_ledger.specs.Ledger.{Ledger, fits_in}
use Rattle.task_planner.specs.declared.slot.Slot.{Slot}

-- what stands past the last task
abbrev pub no_slot : Slot
no_slot = record { before = []; after = []; waits = false }

-- the task at a place
abbrev pub slot_at : List Slot → ℕ → Slot
slot_at slots i = get_or slots i no_slot

-- the task of a proposal, which waits
abbrev pub waiting : Proposal → Slot
waiting p = record { before = p.before; after = p.after; waits = true }

-- the task, which waits no longer
abbrev pub ended : Slot → Slot
ended s = record s { waits = false }

-- a task that waits and moves replicas
abbrev pub moves : Slot → Bool
moves s = s.waits && differ s.before s.after

-- a task may change a leader alone: no task that moves replicas is in flight, and none waits
abbrev pub may_lead : Ledger → List Slot → Bool
may_lead l slots = (l.replica == 0) && not (list_any moves slots)

-- a task that waits and for which the caps leave room, where it moves replicas or may change a leader alone
abbrev pub fits_slot : Caps → Ledger → Bool → Slot → Bool
fits_slot caps l lead s = s.waits && fits_in l caps s.before s.after && (lead || differ s.before s.after)

-- the first task that fits
abbrev pub first_fitting : Caps → Ledger → List Slot → Option ℕ
first_fitting caps l slots = position (fits_slot caps l (may_lead l slots)) slots

-- the list's members are among the brokers, and none stands twice
pub record IsListOf (brokers list : List ℕ) : Type 0 where
  pub known : list_all (has brokers) list ≡ true
  pub once : distinct list ≡ true

-- both lists of the proposal are
pub record AreListsOf (brokers : List ℕ) (p : Proposal) : Type 0 where
  pub before : IsListOf brokers p.before
  pub after : IsListOf brokers p.after
