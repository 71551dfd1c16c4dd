-- Rounds: what a planner or a mover does at a time, as own entries.
use Rattle.std.specs.Prelude.{◌≡◌, false, List, [], ◌∷◌, ◌⊎◌}
use mathlib.Core.List.{IsPrefix}
use Rattle.core_terms.specs.Ends.{Ends, GivesBack}
use Rattle.core_terms.specs.declared.events.Event.{Event}
use Rattle.core_terms.specs.declared.events.Event.TheVariants as event
use Rattle.core_terms.specs.declared.replies.Reply.{Reply}
use Rattle.core_terms.specs.declared.replies.Reply.TheVariants as reply
use Rattle.mover_rounds.specs.Asked.{Rules, Entry, reply_to, through}

-- how a round stands: what was given is done; it was given back, or another actor had ended it; there was nothing to do; only a job was looked for
pub data Standing : Type 0 where
  done : Standing
  undone : Standing
  idle : Standing
  look : Standing

-- an event was not sure to find memory, after a history between these two
pub record Unsure (rules : Rules) (from to : List Event) (e : Event) : Type 0 where
  pub history : List Event
  pub longer : IsPrefix from history
  pub saw : IsPrefix history to
  pub unsure : rules.sure history e ≡ false

-- another actor had ended what a reply gave to do: what would give it back was not sure any more
pub record WasEnded (rules : Rules) (seen after : List Event) (what : Reply) : Type 0 where
  pub back : Event
  pub gives_back : GivesBack what back
  pub unsure : Unsure rules after seen back

-- the entries behind the one that gave something to do
abbrev pub IsEnd : Rules → List Event → Standing → Reply → List Event → List Entry → Type 0
IsEnd rules seen done what after (y ∷ []) = Ends what y.event
IsEnd rules seen undone what after [] = WasEnded rules seen after what
IsEnd rules seen undone what after (y ∷ []) = GivesBack what y.event
IsEnd rules seen _ what after _ = ⊥

-- what a planner, and what a mover, was answered
abbrev pub IsJob : Reply → Type 0
IsJob (reply.Job ticket problem) = Unit {0}
IsJob _ = ⊥

abbrev pub IsNoJob : Reply → Type 0
IsNoJob (reply.NoJob closing) = Unit {0}
IsNoJob _ = ⊥

abbrev pub IsWork : Reply → Type 0
IsWork (reply.Work g) = Unit {0}
IsWork _ = ⊥

abbrev pub IsIdle : Reply → Type 0
IsIdle (reply.Idle why closing) = Unit {0}
IsIdle _ = ⊥

-- a round of a planner: PlanTake with a job, and its end; or PlanTake without one, which is a look
abbrev pub IsPlanRound : Rules → List Event → Standing → List Entry → Type 0
IsPlanRound rules seen look (x ∷ []) = (x.event ≡ event.PlanTake) × IsNoJob (reply_to rules x)
IsPlanRound rules seen s (x ∷ xs) = (x.event ≡ event.PlanTake) × IsJob (reply_to rules x) × IsEnd rules seen s (reply_to rules x) (through x) xs
IsPlanRound rules seen s [] = ⊥

-- a round of a mover: Take with work, and its end; or Take without work, which is idle
abbrev pub IsWorkRound : Rules → List Event → Standing → List Entry → Type 0
IsWorkRound rules seen idle (x ∷ []) = (x.event ≡ event.Take) × IsIdle (reply_to rules x)
IsWorkRound rules seen s (x ∷ xs) = (x.event ≡ event.Take) × IsWork (reply_to rules x) × IsEnd rules seen s (reply_to rules x) (through x) xs
IsWorkRound rules seen s [] = ⊥

-- a mover's round behind a look
abbrev pub IsLookedRound : Rules → List Event → Standing → List Entry → Type 0
IsLookedRound rules seen s [] = ⊥
IsLookedRound rules seen s (x ∷ xs) = IsPlanRound rules seen look (x ∷ []) × IsWorkRound rules seen s xs

-- a round of a pump or a drain: a planner's, or where there is no job a mover's behind the look
abbrev pub IsRound : Rules → List Event → Standing → List Entry → Type 0
IsRound rules seen s made = IsPlanRound rules seen s made ⊎ IsLookedRound rules seen s made
