-- A book that is just opened.
use Rattle.std.proofs.Common.{◌≡◌, ◌∙◌, ℕ, ◌<◌, ◌≤◌, [], length, refl, sym, ap, arith}
use Rattle.std.specs.Prelude.{Option, Some, None, IfSome}
use Rattle.std.proofs.lemmas.List.{ext_get_or}
use Rattle.plan_terms.specs.Cluster.{Cluster, Lists, list_of}
use Rattle.plan_terms.specs.declared.settings.Caps.{Caps}
use Rattle.cluster_gate.specs.Lists.{installed}
use Rattle.cluster_json.specs.File.{Meaning}
use Rattle.metric_windows.specs.StandsFor.{StandsFor}
use Rattle.exec_terms.specs.Machine.{lists_now}
use Rattle.exec_terms.specs.Runs.{opening}
use Rattle.exec_terms.proofs.Launch.{length-each_below, get_or-each_below}
use Rattle.core_terms.specs.Input.{IsInput, accepted}
use Rattle.core_terms.specs.State.{Core, opening_desk, opening_of}
use Rattle.core_terms.specs.History.{kept_for, state_after}
use Rattle.control_core.specs.Books.{IsBook}
use Rattle.control_core.specs.Machines.{AreWindows}
use Rattle.control_core.specs.declared.machine.Machine.{Machine}

-- the lists of a new executor are those that it was made of
opening_lists : (c : Cluster) (lists : Lists) (caps : Caps) → lists_now (opening c lists caps) ≡ lists
opening_lists c lists caps =
    ext_get_or [] (lists_now (opening c lists caps)) lists (length-each_below (list_of lists) (length lists))
    (λ p m. let l : p < length lists = rw (length-each_below (list_of lists) (length lists)) at m in get_or-each_below (list_of lists) (length lists) p [] l)

-- the state of an empty journal
pub opening_state : (file : Meaning) → state_after file [] ≡ opening_of file
unfolding state_after
opening_state file = refl

kept_once : (file : Meaning) → kept_for (opening_desk file) ≡ 1
unfolding opening_desk
kept_once file = refl

shown : (file : Meaning) (told : Option Lists) → IfSome (installed told file.lists) (λ lists. lists ≡ lists_now (opening_desk file).exec)
unfolding opening_desk
shown file None = tt
shown file (Some lists) = sym (opening_lists file.cluster file.lists file.caps)

pub opened_book : (before told : Option Lists) (parts faults : ℕ) (m : Machine) (room : ℕ) → IsInput m.file → AreWindows m → m.desk ≡ opening_desk m.file
    → StandsFor m.windows (accepted m.file.rules m.file.samples) → m.since.items ≡ [] → told ≡ installed before m.file.lists → parts ≡ length m.file.lists → 1 ≤ room → IsBook told parts faults m [] room 0 0
opened_book before told parts faults m room input windows desk stands since tells same some = record {
  input = input;
  windows = windows;
  legal = tt;
  desk_is = desk ∙ ap (λ (s : Core). s.desk) (sym (opening_state m.file));
  stands = rw (opening_state m.file) stands;
  since_is = since ∙ ap (λ (s : Core). s.since) (sym (opening_state m.file));
  short = omega arith;
  room_is = rw (desk, kept_once m.file) (omega (arith, some));
  lists = record { told_are = rw (tells, opening_state m.file) (shown m.file before); parts_are = same ∙ input.belongs.one_each };
  few = omega arith;
  late_few = omega arith;
}
