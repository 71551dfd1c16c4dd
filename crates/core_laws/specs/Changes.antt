-- A request for another replication factor that is carried out: the lists when its execution is over.
use Rattle.std.specs.Prelude.{◌≡◌, ℕ, ◌<◌, Bool, true, false, fold, List, [], ◌∷◌, length, None}
use Rattle.std.specs.List.{list_all}
use Rattle.plan_terms.specs.Cluster.{Lists, list_of}
use Rattle.cluster_json.specs.File.{Meaning}
use Rattle.exec_terms.specs.Machine.{any_unfinished, lists_now}
use Rattle.factor_change.specs.Resized.{is_named_at}
use Rattle.user_tasks.specs.Asks.{AskView, changes_factor}
use Rattle.core_terms.specs.Asked.{is_dry}
use Rattle.core_terms.specs.History.{AreLegal}
use Rattle.core_terms.specs.Input.{IsInput}
use Rattle.core_terms.specs.Sound.{IsSound}
use Rattle.core_terms.specs.State.{Core, moment_of}
use Rattle.core_terms.specs.Step.{next}
use Rattle.core_terms.specs.Submits.{change_refusal, lists_asked}
use Rattle.core_terms.specs.declared.events.Event.{Event}
use Rattle.core_terms.specs.declared.events.Event.TheVariants as event

-- no copy fails by it, it stops nothing, and no broker dies
abbrev pub is_calm : Event → Bool
is_calm (event.CopyFailed lease) = false
is_calm (event.Stop force) = false
is_calm (event.Kill broker) = false
is_calm _ = true

-- the state after these events, one after another
abbrev pub after_all : Meaning → Core → List Event → Core
after_all file s events = fold (next file) s events

-- in each state before the last one a task is unfinished
abbrev pub IsBusyUntil : Meaning → Core → List Event → Type 0
IsBusyUntil file s [] = Unit {0}
IsBusyUntil file s (e ∷ es) = (any_unfinished s.desk.exec.tasks ≡ true) × IsBusyUntil file (next file s e) es

-- the event is this request, whoever makes it
abbrev pub IsRequest : AskView → Event → Type 0
IsRequest ask (event.Submit asked None) = asked ≡ ask
IsRequest ask (event.Heal cause asked) = asked ≡ ask
IsRequest ask _ = ⊥

-- the lists are those that the request asks for, and each list of a topic that it names has the length that it asks for
pub record IsChanged (file : Meaning) (s : Core) (ask : AskView) (lists : Lists) : Type 0 where
  pub lists_are : lists ≡ lists_asked (moment_of file s) s.desk ask
  pub long : (p : ℕ) → p < length lists → is_named_at (moment_of file s).cluster ask.topics p ≡ true → length (list_of lists p) ≡ ask.factor

-- where another replication factor is asked for, is taken and is carried out, and nothing fails, stops or dies until no task is
-- unfinished, the lists are then changed so
abbrev pub ChangedListsCome : Type 0
ChangedListsCome = (file : Meaning) (s : Core) (ask : AskView) (e : Event) (events : List Event) → IsInput file → IsSound file s.desk → AreLegal events
    → IsRequest ask e → changes_factor ask ≡ true → is_dry ask ≡ false → change_refusal (moment_of file s) s.desk ask ≡ None
    → list_all is_calm events ≡ true → IsBusyUntil file (next file s e) events → any_unfinished (after_all file (next file s e) events).desk.exec.tasks ≡ false
    → IsChanged file s ask (lists_now (after_all file (next file s e) events).desk.exec)
