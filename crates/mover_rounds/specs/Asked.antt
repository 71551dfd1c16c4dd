-- What an actor knows, and what one asking changes in it.
use Rattle.std.specs.Prelude.{◌≡◌, ℕ, Bool, true, false, List, [], ◌∷◌, ◌++◌, take, map}
use mathlib.Core.List.{IsPrefix}
use Rattle.cc_base.specs.Outside.{HasRisen}
use Rattle.cluster_json.specs.File.{Meaning}
use Rattle.core_terms.specs.History.{reply_after, is_sure_after, is_unfinished_after, is_outward}
use Rattle.core_terms.specs.declared.events.Event.{Event}
use Rattle.core_terms.specs.declared.events.Event.TheVariants as event
use Rattle.core_terms.specs.declared.replies.Reply.{Reply}
use Rattle.core_terms.specs.declared.faults.StepFault.{StepFault}
use Rattle.core_terms.specs.declared.faults.StepFault.TheVariants.{AdminFault, Memory}

-- what holds after a history: the reply to an event, whether the event is sure to find memory, and whether a task is unfinished
pub record Rules : Type 0 where
  pub reply : List Event → Event → Reply
  pub sure : List Event → Event → Bool
  pub unfinished : List Event → Bool

-- the rules of the core, for a cluster file
abbrev pub core_rules : Meaning → Rules
core_rules file = record { reply = reply_after file; sure = is_sure_after file; unfinished = is_unfinished_after file }

-- an entry: an event, behind the history that it was added to
pub record Entry : Type 0 where
  pub before : List Event
  pub event : Event

-- the entries at these places of a history
abbrev pub entries_of : List Event → List (ℕ × Event) → List Entry
entries_of history places = map (λ x. record { before = take x.0 history; event = x.1 }) places

-- all entries of a journal behind these, each behind those before it
abbrev pub entries_from : List Event → List Event → List Entry
entries_from front [] = []
entries_from front (e ∷ es) = record { before = front; event = e } ∷ entries_from (front ++ e ∷ []) es

-- the reply to an entry
abbrev pub reply_to : Rules → Entry → Reply
reply_to rules x = rules.reply x.before x.event

-- the history up to and with an entry
abbrev pub through : Entry → List Event
through x = x.before ++ x.event ∷ []

-- what an actor knows: the rules, the history that it has seen, its own entries, and the number of the last fault
pub record Known : Type 0 where
  pub rules : Rules
  pub seen : List Event
  pub own : List Entry
  pub blamed : ℕ

-- the event was added behind what was seen and what others added, and is one more own entry; the reply is that of its place
pub record HasAsked (v w : Known) (event : Event) (reply : Reply) : Type 0 where
  pub between : List Event
  pub rules : w.rules ≡ v.rules
  pub seen : w.seen ≡ (v.seen ++ between) ++ event ∷ []
  pub own : w.own ≡ v.own ++ record { before = v.seen ++ between; event = event } ∷ []
  pub replied : reply ≡ v.rules.reply (v.seen ++ between) event
  pub blamed : w.blamed ≡ v.blamed

-- the events that give back a lease or a ticket
abbrev pub gives_back : Event → Bool
gives_back (event.GiveBack lease) = true
gives_back (event.PlanBack ticket) = true
gives_back _ = false

-- where a task was unfinished, one is
abbrev pub StaysUnfinished : Known → Known → Type 0
StaysUnfinished v w = v.rules.unfinished v.seen ≡ true → w.rules.unfinished w.seen ≡ true

-- the fault of an event that was not taken: the admin's, which only an event that calls it meets, while a task is unfinished; or want
-- of memory, which no sure event meets
abbrev pub IsAskFault : Known → Known → Event → StepFault → Type 0
IsAskFault v w event (AdminFault n) = (is_outward event ≡ true) × (n ≡ w.blamed) × HasRisen v.blamed w.blamed × (w.rules.unfinished w.seen ≡ true)
IsAskFault v w event Memory = (w.rules.sure w.seen event ≡ false) × (w.blamed ≡ v.blamed)

-- the event was not taken: no own entry is added, and the history that the fault speaks of was seen
pub record IsUnasked (v w : Known) (event : Event) (fault : StepFault) : Type 0 where
  pub rules : w.rules ≡ v.rules
  pub longer : IsPrefix v.seen w.seen
  pub own : w.own ≡ v.own
  pub told : IsAskFault v w event fault
