-- The opening of a file is sound, and so is the state after each legal history.
use Rattle.std.proofs.Common.{◌≡◌, ◌∙◌, ℕ, ◌≤◌, inl, inr, List, [], ◌∷◌, map, get_or, arith, refl, ap}
use Rattle.std.specs.Prelude.{◌==◌, nat_lt, fold}
use Rattle.std.specs.List.{All}
use Rattle.std.proofs.lemmas.Bool.{or_parts, ltb-false}
use Rattle.std.proofs.lemmas.List.Elements.{All-nil, All-map}
use Rattle.plan_terms.specs.Cluster.{Cluster}
use Rattle.plan_terms.specs.Faults.{IsCase, has_bad_chunks}
use Rattle.plan_terms.specs.declared.cluster.Part.{Part}
use Rattle.plan_terms.proofs.FaultLemmas.{WithinLimits-faultless}
use Rattle.cluster_json.specs.File.{Meaning}
use Rattle.exec_terms.specs.CapLaws.{IsNoLower, LowersNone, caps_after}
use Rattle.exec_terms.specs.Machine.{State}
use Rattle.exec_terms.specs.Runs.{Event as Move, CanAllHappen, after_events, hosts_of, opening}
use Rattle.exec_terms.specs.Valid.{AreCapsKept}
use Rattle.exec_terms.proofs.CapLaws.{runs_keep_caps}
use Rattle.exec_terms.specs.declared.brokers.Host.{Host}
use Rattle.exec_terms.proofs.Gives.{none_any}
use Rattle.exec_terms.proofs.Launch.{IsValid-new}
use Rattle.exec_terms.proofs.ListLaws.{drained_lists_are_settled, list_now-task}
use Rattle.exec_terms.proofs.SettledLists.{list_short}
use Rattle.core_terms.specs.Input.{IsInput}
use Rattle.core_terms.specs.State.{Core, opening_desk, opening_of}
use Rattle.core_terms.specs.Step.{next}
use Rattle.core_terms.specs.History.{AreLegal, state_after}
use Rattle.core_terms.specs.Sound.{IsListOf, IsSound}
use Rattle.core_terms.specs.declared.events.Event.{Event}
use Rattle.core_laws.specs.Events.{HistoriesKeepCaps, HistoriesShowLists, IsMove, LowersNoCap}
use Rattle.core_laws.specs.Laws.{OpeningIsSound, HistoriesAreSound}
use Rattle.core_laws.proofs.Execs.{caps_are}
use Rattle.core_laws.proofs.Lifts.{events_move_executor}
use Rattle.core_laws.proofs.Moves.{opening_has_tasks}
use Rattle.core_laws.proofs.Sound.{each_event_keeps_sound}

-- the chunk counts of a case are within the limit
few_chunks : (c : Cluster) → IsCase c → All (λ n. n ≤ 1000) (map (λ p. p.chunks) c.parts)
few_chunks c h =
    let good = none_any has_bad_chunks c.parts (WithinLimits-faultless c.brokers c.parts h.faultless).chunked in
    All-map (λ n. n ≤ 1000) (λ (p : Part). p.chunks) c.parts (λ k d l.
    let p : Part = get_or c.parts k d in
    ltb-false 1000 p.chunks (or_parts (p.chunks == 0) (nat_lt 1000 p.chunks) (good k d l)).1)

ids_of_hosts : (brokers dead : List ℕ) → map (λ (h : Host). h.id) (hosts_of brokers dead) ≡ brokers
ids_of_hosts [] dead = refl
ids_of_hosts (b ∷ bs) dead = ap (λ (ids : List ℕ). b ∷ ids) (ids_of_hosts bs dead)

pub opening_is_sound : OpeningIsSound
unfolding opening_desk
opening_is_sound file input = record {
  exec = record {
    valid = IsValid-new file.lists _ file.caps _ input.belongs.lists_are (few_chunks file.cluster input.case) input.caps.some_broker input.caps.some_cluster input.caps.some_leader;
    brokers = ids_of_hosts _ _;
    base = input.belongs;
    afters = All-nil (λ t. IsListOf file.cluster t.after);
  };
  tasks = opening_has_tasks file;
  tickets = record { one_holder = λ n. omega arith; given = λ i n e. cc; active = λ i n e. cc };
  jobs = λ i l. absurd (omega arith);
}

from : (file : Meaning) (s : Core) (events : List Event) → IsInput file → AreLegal events → IsSound file s.desk → IsSound file (fold (next file) s events).desk
from file s [] input legal h = h
from file s (e ∷ es) input legal h = from file (next file s e) es input legal.1 (each_event_keeps_sound file s e input legal.0 h)

pub histories_are_sound : HistoriesAreSound
unfolding state_after
histories_are_sound file events input legal = from file (opening_of file) events input legal (opening_is_sound file input)

pub histories_show_lists : HistoriesShowLists
histories_show_lists file events input legal =
    let v = (histories_are_sound file events input legal).exec.valid in
    record {
      phases = λ i l. list_now-task (state_after file events).desk.exec i v l;
      short = λ p l. list_short (state_after file events).desk.exec p v l;
      drained = λ h. drained_lists_are_settled (state_after file events).desk.exec v h;
    }

-- what the core does is a run of the executor
record IsRun (s t : State) : Type 0 where
  moves : List Move
  can : CanAllHappen s moves
  low : LowersNone s.caps moves
  is : t ≡ after_events s moves

longer : (e : Event) (s u t : State) → IsMove e s u → IsNoLower s.caps u.caps → IsRun u t → IsRun s t
longer e s u t (inl is) low r = rw is at r
longer e s u t (inr (m, fits, can, is)) low r =
    let caps : u.caps ≡ caps_after s.caps m = ap (λ (x : State). x.caps) is ∙ caps_are s m in
    record {
      moves = m ∷ r.moves;
      can = (can, rw (← is) r.can);
      low = (rw (← caps) low, rw (← caps) r.low);
      is = r.is ∙ ap (λ (x : State). after_events x r.moves) is;
    }

run : (file : Meaning) (s : Core) (events : List Event) → IsInput file → AreLegal events → IsSound file s.desk → LowersNoCap file s events → IsRun s.desk.exec (fold (next file) s events).desk.exec
run file s [] input legal h low = record { moves = []; can = tt; low = tt; is = refl }
run file s (e ∷ es) input legal h low = longer e s.desk.exec (next file s e).desk.exec (fold (next file) (next file s e) es).desk.exec (events_move_executor file s e input legal.0 h) low.0
    (run file (next file s e) es input legal.1 (each_event_keeps_sound file s e input legal.0 h) low.1)

kept_after : (file : Meaning) (t : State) → IsInput file → IsRun (opening file.cluster file.lists file.caps) t → AreCapsKept t.caps t.tasks
kept_after file t input r = rw r.is (runs_keep_caps file.lists _ file.caps _ r.moves input.belongs.lists_are (few_chunks file.cluster input.case) input.caps.some_broker input.caps.some_cluster input.caps.some_leader r.can r.low)

pub histories_keep_caps : HistoriesKeepCaps
unfolding state_after opening_desk
histories_keep_caps file events input legal low = kept_after file _ input (run file (opening_of file) events input legal (opening_is_sound file input) low)
