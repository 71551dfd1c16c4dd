-- The book: what contracts see of it, what it keeps, and what a step tells.
use Rattle.std.specs.Prelude.{◌≡◌, ℕ, ◌+◌, ◌-◌, ◌^◌, ◌<◌, ◌≤◌, Bool, true, false, min, List, [], length, Option, IfSome, if◌then◌else◌}
use Rattle.plan_terms.specs.Cluster.{Lists}
use Rattle.cc_base.specs.Outside.{HasRisen}
use Rattle.cluster_json.specs.File.{Meaning}
use Rattle.exec_terms.specs.Machine.{lists_now}
use Rattle.metric_windows.specs.StandsFor.{StandsFor}
use Rattle.core_terms.specs.Faults.{IsCause}
use Rattle.core_terms.specs.Input.{IsInput}
use Rattle.core_terms.specs.State.{Core}
use Rattle.core_terms.specs.History.{AreLegal, kept_for, state_after}
use Rattle.core_terms.specs.declared.events.Event.{Event}
use Rattle.core_terms.specs.declared.faults.StepFault.{StepFault}
use Rattle.core_terms.specs.declared.faults.StepFault.TheVariants.{AdminFault, Memory}
use Rattle.control_core.specs.Machines.{AreWindows}
use Rattle.control_core.specs.declared.machine.Machine.{Machine}

-- a book over an admin of some type: the file that it was opened with, its journal, how many faults of the admin it answered, how many
-- of them after it was settled, whether it was, and the admin
pub record BookView (A : Type 0) : Type 0 where
  pub file : Meaning
  pub journal : List Event
  pub failures : ℕ
  pub late : ℕ
  pub settled : Bool
  pub admin : A

-- the state that its journal gives
abbrev pub state_of : {A : Type 0} → BookView A → Core
state_of b = state_after b.file b.journal

-- a book that was just opened
abbrev pub opened : {A : Type 0} → Meaning → A → BookView A
opened file admin = record { file = file; journal = []; failures = 0; late = 0; settled = false; admin = admin }

-- the lists that the admin tells, and how many it has, are those of the state
pub record AreAdminLists (told : Option Lists) (parts : ℕ) (file : Meaning) (s : Core) : Type 0 where
  pub told_are : IfSome told (λ lists. lists ≡ lists_now s.desk.exec)
  pub parts_are : parts ≡ length file.cluster.parts

-- what a book keeps: its journal is legal and gives its state, the journal has room for each lease and ticket that is out and for
-- the first Close, the admin's lists are the state's, and it answered no more faults than the admin had
pub record IsBook (told : Option Lists) (parts faults : ℕ) (m : Machine) (journal : List Event) (room failures late : ℕ) : Type 0 where
  pub input : IsInput m.file
  pub windows : AreWindows m
  pub legal : AreLegal journal
  pub desk_is : m.desk ≡ (state_after m.file journal).desk
  pub stands : StandsFor m.windows (state_after m.file journal).samples
  pub since_is : m.since.items ≡ (state_after m.file journal).since
  pub short : length journal < 2 ^ 63
  pub room_is : length journal + kept_for m.desk ≤ room
  pub lists : AreAdminLists told parts m.file (state_after m.file journal)
  pub few : failures ≤ faults
  pub late_few : late ≤ failures

-- one fault more; a count that stands at the end of a u64 stays there
abbrev pub one_more : ℕ → ℕ
one_more n = min (n + 1) (2 ^ 64 - 1)

-- a fault of a step: one of the admin where its count rose, with the number of those answered so far, which count as late once the book
-- is settled; or want of memory, with which no count changes
abbrev pub IsStepFault : {A : Type 0} → (A → ℕ) → BookView A → Event → BookView A → StepFault → Type 0
IsStepFault faults old e new (AdminFault n) =
    IsCause (state_of old).desk e (AdminFault n) × HasRisen (faults old.admin) (faults new.admin) × (n ≡ new.failures) × (new.failures ≡ one_more old.failures)
    × (new.late ≡ (if old.settled then one_more old.late else old.late))
IsStepFault faults old e new Memory = IsCause (state_of old).desk e Memory × (new.failures ≡ old.failures) × (new.late ≡ old.late)

-- the same book after a while: the admin's count never falls, and a fault that the book answered is one that the admin had; it counts
-- as late once the book is settled, and not before
pub record IsSince {A : Type 0} (faults : A → ℕ) (b c : BookView A) : Type 0 where
  pub file : c.file ≡ b.file
  pub settled : c.settled ≡ b.settled
  pub later : faults b.admin ≤ faults c.admin
  pub risen : b.failures < c.failures → HasRisen (faults b.admin) (faults c.admin)
  pub early : b.settled ≡ false → c.late ≡ b.late
  pub late_stays : 1 ≤ b.late → 1 ≤ c.late
  pub late : b.settled ≡ true → b.failures < c.failures → 1 ≤ c.late
