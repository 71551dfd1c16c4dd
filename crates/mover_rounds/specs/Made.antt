-- What the parts of a round add to the own entries, to a copier's copies and to its faults.
use Rattle.std.specs.Prelude.{◌≡◌, ℕ, ◌+◌, ◌-◌, ◌^◌, ◌≤◌, ◌<◌, true, false, min, List, [], ◌∷◌, ◌++◌, length, Option, option_map, Result, Ok, Err, ◌⊎◌}
use Rattle.std.specs.List.{AllByRecursion}
use mathlib.Core.List.{IsPrefix}
use Rattle.cc_base.specs.Outside.{HasRisen}
use Rattle.cluster_gate.specs.declared.copier.ChunkCopy.{ChunkCopy}
use Rattle.core_terms.specs.History.{is_outward}
use Rattle.core_terms.specs.declared.events.Event.{Event}
use Rattle.core_terms.specs.declared.events.Event.TheVariants as event
use Rattle.core_terms.specs.declared.replies.Reply.{Reply}
use Rattle.mover_rounds.specs.Asked.{Rules, Entry, Known}
use Rattle.mover_rounds.specs.Rounds.{Standing, done, undone, idle, look, Unsure, IsEnd, IsRound, IsWorkRound, IsPlanRound, IsLookedRound}
use Rattle.cluster_gate.specs.Receipts.{ReceiptView}
use Rattle.exec_terms.specs.declared.replies.Given.{Given}
use Rattle.core_terms.specs.declared.replies.Reply.TheVariants as reply
use Rattle.mover_rounds.specs.Asked.{reply_to, through}
use Rattle.core_terms.specs.Ends.{Works}
use Rattle.mover_rounds.specs.declared.round.Found.{Found}
use Rattle.mover_rounds.specs.declared.round.Found.TheVariants.{Planned, Worked, Idle}
use Rattle.core_terms.specs.declared.pumps.PumpEnd.{PumpEnd}
use Rattle.core_terms.specs.declared.pumps.PumpEnd.TheVariants as pump
use Rattle.core_terms.specs.declared.faults.StepFault.{StepFault}
use Rattle.core_terms.specs.declared.faults.StepFault.TheVariants.{AdminFault, Memory}

-- a copier: the copies that were made, where they are told, and how many have failed
pub record Copies : Type 0 where
  pub made : Option (List ChunkCopy)
  pub faults : ℕ

abbrev pub copier_of : {S : Type 0} → (S → Option (List ChunkCopy)) → (S → ℕ) → S → Copies
copier_of copies faults s = record { made = copies s; faults = faults s }

-- the copy that an event names, the copies that entries name, and how many copies they tell to have failed
abbrev pub copy_of : Event → List ChunkCopy
copy_of (event.Copied r) = record { part = r.part; to = r.to; chunk = r.chunk } ∷ []
copy_of _ = []

abbrev pub copies_of : List Entry → List ChunkCopy
copies_of [] = []
copies_of (x ∷ xs) = copy_of x.event ++ copies_of xs

abbrev pub failed_in : Event → ℕ
failed_in (event.CopyFailed lease) = 1
failed_in _ = 0

abbrev pub failures_of : List Entry → ℕ
failures_of [] = 0
failures_of (x ∷ xs) = failed_in x.event + failures_of xs

-- a count has risen by so much at least, or stands at the end of a u64
abbrev pub HasRisenBy : ℕ → ℕ → ℕ → Type 0
HasRisenBy n before now = min (before + n) (2 ^ 64 - 1) ≤ now

-- why a call ended: the admin's fault is the last one, and came in the call, and a task is unfinished; with want of memory no fault of
-- the admin came
abbrev pub IsCause : Known → Known → StepFault → Type 0
IsCause v w (AdminFault n) = (n ≡ w.blamed) × HasRisen v.blamed w.blamed × (w.rules.unfinished w.seen ≡ true)
IsCause v w Memory = w.blamed ≡ v.blamed

-- one entry more
pub record Added (v w : Known) (e : Event) : Type 0 where
  pub entry : Entry
  pub event_is : entry.event ≡ e
  pub behind : IsPrefix v.seen entry.before
  pub own : w.own ≡ v.own ++ entry ∷ []
  pub rules : w.rules ≡ v.rules
  pub longer : IsPrefix v.seen w.seen
  pub blamed : w.blamed ≡ v.blamed

-- the entry that gives back, or none where it was not sure
abbrev pub IsReturned : Rules → List Event → List Event → Event → List Entry → Type 0
IsReturned rules seen after back [] = Unsure rules after seen back
IsReturned rules seen after back (y ∷ []) = (y.event ≡ back) × IsPrefix after y.before
IsReturned rules seen after back _ = ⊥

-- how far the history went before these entries, of all that was seen
abbrev pub until : List Entry → List Event → List Event
until [] seen = seen
until (y ∷ ys) seen = y.before

pub record Returned (v w : Known) (back : Event) : Type 0 where
  pub made : List Entry
  pub own : w.own ≡ v.own ++ made
  pub is : IsReturned v.rules w.seen v.seen back made
  pub rules : w.rules ≡ v.rules
  pub longer : IsPrefix v.seen w.seen
  pub blamed : w.blamed ≡ v.blamed

-- the event was not taken, and what it was to end was given back
pub record Failed (v w : Known) (e back : Event) (fault : StepFault) : Type 0 where
  pub made : List Entry
  pub own : w.own ≡ v.own ++ made
  pub is : IsReturned v.rules w.seen v.seen back made
  pub rules : w.rules ≡ v.rules
  pub longer : IsPrefix v.seen w.seen
  pub cause : IsCause v w fault
  pub unsure : fault ≡ Memory → Unsure v.rules v.seen (until made w.seen) e
  pub kind : is_outward e ≡ false → fault ≡ Memory

-- what is told, with these copies at its end
abbrev pub with_copies : Option (List ChunkCopy) → List ChunkCopy → Option (List ChunkCopy)
with_copies told copies = option_map (λ made. made ++ copies) told

-- done, where a call ended well
abbrev pub standing_of : {A : Type 0} → Result A StepFault → Standing
standing_of (Ok a) = done
standing_of (Err fault) = undone

-- the copy of work whose lease another actor had ended: no entry names it
pub record IsLost (rules : Rules) (seen after : List Event) (g : Given) (copies : List ChunkCopy) : Type 0 where
  pub receipt : ReceiptView
  pub works : Works g (event.Copied receipt)
  pub copies_are : copies ≡ copy_of (event.Copied receipt)
  pub unsure : Unsure rules after seen (event.Copied receipt)

abbrev pub IsLostCopy : Rules → List Event → List Event → Reply → List ChunkCopy → Type 0
IsLostCopy rules seen after (reply.Work g) copies = IsLost rules seen after g copies
IsLostCopy rules seen after _ copies = ⊥

-- what a reply gave to do is ended, with these entries
pub record HasEnded (v w : Known) (what : Reply) (s : Standing) : Type 0 where
  pub made : List Entry
  pub own : w.own ≡ v.own ++ made
  pub is : IsEnd v.rules w.seen s what v.seen made
  pub rules : w.rules ≡ v.rules
  pub longer : IsPrefix v.seen w.seen

-- the copies that were made are those that the entries name; where the work was given back, its one copy may be lost
abbrev pub AreNamed : Rules → List Event → List Event → Standing → Reply → List Entry → List ChunkCopy → Type 0
AreNamed rules seen after undone what made copies = (copies ≡ copies_of made) ⊎ IsLostCopy rules (until made seen) after what copies
AreNamed rules seen after _ what made copies = copies ≡ copies_of made

-- work is ended, and so many copies and failures of the copier go with the entries
pub record HasWorked (v w : Known) (what : Reply) (k l : Copies) (s : Standing) : Type 0 where
  pub ended : HasEnded v w what s
  pub copies : List ChunkCopy
  pub copied : l.made ≡ with_copies k.made copies
  pub named : AreNamed v.rules w.seen v.seen s what ended.made copies
  pub failed : HasRisenBy (failures_of ended.made) k.faults l.faults

-- the copy of the work that one of the entries was answered is lost
pub record LostIn (rules : Rules) (seen : List Event) (made : List Entry) (copies : List ChunkCopy) : Type 0 where
  pub entry : Entry
  pub front : List Entry
  pub back : List Entry
  pub among : made ≡ front ++ entry ∷ back
  pub took : entry.event ≡ event.Take
  pub lost : IsLostCopy rules (until back seen) (through entry) (reply_to rules entry) copies

-- entries and copies, of which something holds, were added
pub record HasMade (P : List Entry → List ChunkCopy → Type 0) (v w : Known) (k l : Copies) : Type 0 where
  pub made : List Entry
  pub copies : List ChunkCopy
  pub own : w.own ≡ v.own ++ made
  pub copied : l.made ≡ with_copies k.made copies
  pub is : P made copies
  pub failed : HasRisenBy (failures_of made) k.faults l.faults
  pub rules : w.rules ≡ v.rules
  pub longer : IsPrefix v.seen w.seen

-- a round that stands so, with its copies
abbrev pub IsRoundMade : (Standing → List Entry → Type 0) → Rules → List Event → Standing → List Entry → List ChunkCopy → Type 0
IsRoundMade R rules seen undone made copies = R undone made × ((copies ≡ copies_of made) ⊎ LostIn rules seen made copies)
IsRoundMade R rules seen s made copies = R s made × (copies ≡ copies_of made)

-- what stands before an error that ends a call: no entry, a look, or a round that is given back
abbrev pub IsBroken : (Standing → List Entry → Type 0) → Rules → List Event → List Entry → List ChunkCopy → Type 0
IsBroken R rules seen made copies = ((made ≡ []) × (copies ≡ [])) ⊎ (IsRoundMade R rules seen look made copies ⊎ IsRoundMade R rules seen undone made copies)

-- what a mover's call has made
abbrev pub IsTaken : Rules → List Event → Result Found StepFault → List Entry → List ChunkCopy → Type 0
IsTaken rules seen (Ok Planned) made copies = ⊥
IsTaken rules seen (Ok Worked) made copies = IsRoundMade (IsWorkRound rules seen) rules seen done made copies
IsTaken rules seen (Ok (Idle why closing)) made copies = IsRoundMade (IsWorkRound rules seen) rules seen idle made copies
IsTaken rules seen (Err fault) made copies = IsBroken (IsWorkRound rules seen) rules seen made copies

-- the round that a call has made
abbrev pub IsMade : Rules → List Event → Result Found StepFault → List Entry → List ChunkCopy → Type 0
IsMade rules seen (Ok Planned) made copies = IsRoundMade (IsPlanRound rules seen) rules seen done made copies
IsMade rules seen (Ok Worked) made copies = IsRoundMade (IsLookedRound rules seen) rules seen done made copies
IsMade rules seen (Ok (Idle why closing)) made copies = IsRoundMade (IsLookedRound rules seen) rules seen idle made copies
IsMade rules seen (Err fault) made copies = IsBroken (IsRound rules seen) rules seen made copies

-- a round of a mover alone, and a round of a pump
abbrev pub HasTaken : Known → Known → Copies → Copies → Result Found StepFault → Type 0
HasTaken v w k l result = HasMade (IsTaken v.rules w.seen result) v w k l

abbrev pub HasRound : Known → Known → Copies → Copies → Result Found StepFault → Type 0
HasRound v w k l result = HasMade (IsMade v.rules w.seen result) v w k l

-- the entries of rounds, one round after another
abbrev pub joined : List (List Entry) → List Entry
joined [] = []
joined (x ∷ xs) = x ++ joined xs

-- so many rounds, each done, with the copies that they name
pub record AreDone (rules : Rules) (seen : List Event) (count : ℕ) (made : List Entry) (copies : List ChunkCopy) : Type 0 where
  pub rounds : List (List Entry)
  pub made_is : made ≡ joined rounds
  pub did : AllByRecursion (IsRound rules seen done) rounds
  pub count_is : length rounds ≡ count
  pub copies_are : copies ≡ copies_of made

-- rounds that are done, and what stands behind them
pub record AreRounds (rules : Rules) (seen : List Event) (count : ℕ) (Last : List Entry → List ChunkCopy → Type 0) (made : List Entry) (copies : List ChunkCopy) : Type 0 where
  pub front : List Entry
  pub last : List Entry
  pub front_copies : List ChunkCopy
  pub last_copies : List ChunkCopy
  pub parts : (made ≡ front ++ last) × (copies ≡ front_copies ++ last_copies)
  pub did : AreDone rules seen count front front_copies
  pub last_is : Last last last_copies

-- what a pump of so many steps has made: at its end as many rounds as were asked, or fewer and an idle one, which isn't counted; before an error fewer, and what stands before an error
abbrev pub IsPumped : Rules → List Event → ℕ → PumpEnd → List Entry → List ChunkCopy → Type 0
IsPumped rules seen steps (pump.Done n true) made copies = (n < steps) × AreRounds rules seen n (IsRoundMade (IsLookedRound rules seen) rules seen idle) made copies
IsPumped rules seen steps (pump.Done n false) made copies = (n ≡ steps) × AreDone rules seen n made copies
IsPumped rules seen steps _ made copies = (n : ℕ) × (n < steps) × AreRounds rules seen n (IsBroken (IsRound rules seen) rules seen) made copies

abbrev pub HasPumped : Known → Known → Copies → Copies → ℕ → PumpEnd → Type 0
HasPumped v w k l steps end = HasMade (IsPumped v.rules w.seen steps end) v w k l

-- the admin's fault that ends a pump is the last one, and came in it, and a task is unfinished; with any other end none came
abbrev pub IsPumpCause : Known → Known → PumpEnd → Type 0
IsPumpCause v w (pump.AdminFault n) = IsCause v w (AdminFault n)
IsPumpCause v w _ = w.blamed ≡ v.blamed

-- so many rounds were done so far
abbrev pub HasDone : Known → Known → Copies → Copies → ℕ → Type 0
HasDone v w k l count = HasMade (AreDone v.rules w.seen count) v w k l
