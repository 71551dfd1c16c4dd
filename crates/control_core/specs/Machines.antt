-- The machine: which state it stands for, and what it needs to answer an event.
use Rattle.std.specs.Prelude.{◌≡◌, ◌^◌, ◌<◌, Bool, true, false, List, length}
use Rattle.plan_terms.specs.declared.settings.Sample.{Sample}
use Rattle.metric_windows.specs.StandsFor.{StandsFor}
use Rattle.core_terms.specs.Input.{IsInput}
use Rattle.core_terms.specs.State.{Core}
use Rattle.core_terms.specs.Sound.{IsSound}
use Rattle.core_terms.specs.declared.events.Event.{Event}
use Rattle.core_terms.specs.declared.events.Event.TheVariants as event
use Rattle.control_core.specs.declared.machine.Machine.{Machine}

-- the state of the machine, where its windows stand for these samples
abbrev pub core_of : Machine → List Sample → Core
core_of m samples = record { desk = m.desk; samples = samples; since = m.since.items }

-- the windows are those of the file
pub record AreWindows (m : Machine) : Type 0 where
  pub rules : m.windows.rules ≡ m.file.rules
  pub parts : m.windows.parts ≡ length m.file.cluster.parts

-- the windows stand for some samples
abbrev pub Stands : Machine → Type 0
Stands m = (samples : List Sample) × StandsFor m.windows samples

-- the machine may answer: the file is one that was read, its windows are the file's and stand for samples, its desk is sound, and few leases and tickets were given
pub record IsReady (m : Machine) : Type 0 where
  pub input : IsInput m.file
  pub windows : AreWindows m
  pub stands : Stands m
  pub sound : IsSound m.file m.desk
  pub leases : m.desk.exec.leases < 2 ^ 63
  pub tickets : m.desk.tickets < 2 ^ 63

-- the events that may want memory
abbrev pub wants_memory : Event → Bool
wants_memory (event.Submit ask key) = true
wants_memory event.PlanTake = true
wants_memory (event.Planned ticket plan) = true
wants_memory (event.Refused ticket failure) = true
wants_memory (event.Show query) = true
wants_memory (event.Look now) = true
wants_memory (event.Heal cause ask) = true
wants_memory _ = false
