-- What a request asks of the core, and what it is told.
use Rattle.std.specs.Prelude.{◌≡◌, ◌⊎◌, ℕ, false, List, [], ◌∷◌, Result, Ok, Err}
use Rattle.cluster_gate.specs.declared.copier.ChunkCopy.{ChunkCopy}
use Rattle.core_terms.specs.History.{is_outward}
use Rattle.core_terms.specs.declared.events.Event.{Event}
use Rattle.core_terms.specs.declared.events.Event.TheVariants as event
use Rattle.anomaly_detector.specs.Decided.{decided}
use Rattle.anomaly_detector.specs.declared.decision.Decision.{Decision}
use Rattle.anomaly_detector.specs.declared.decision.Decision.TheVariants as decision
use Rattle.core_terms.specs.declared.faults.StepFault.TheVariants as step
use Rattle.core_terms.specs.declared.replies.Reply.{Reply}
use Rattle.core_terms.specs.declared.replies.Reply.TheVariants as reply
use Rattle.mover_rounds.specs.Asked.{Entry, HasAsked, IsUnasked, Known, Rules, reply_to}
use Rattle.mover_rounds.specs.Made.{Copies, HasMade, IsPumped, failed_in}
use Rattle.rest_parse.specs.Calls.{UnlessMemory}
use Rattle.rest_parse.specs.declared.calls.Call.{Call}
use Rattle.rest_parse.specs.declared.calls.Call.TheVariants as call
use Rattle.rest_parse.specs.declared.calls.HttpFault.{HttpFault}
use Rattle.rest_replies.specs.declared.told.Told.{Told}
use Rattle.rest_replies.specs.declared.told.Told.TheVariants as told
use Rattle.rest_session.specs.declared.calls.Asked.{Asked}
use Rattle.rest_session.specs.declared.calls.Asked.TheVariants as asked

-- the event that a call is, or so many rounds, or a look with what follows
abbrev pub asked_by : Call → Asked
asked_by (call.Submit ask id) = asked.Once (event.Submit ask id)
asked_by (call.Stop force) = asked.Once (event.Stop force)
asked_by (call.Kill broker) = asked.Once (event.Kill broker)
asked_by (call.Sample topic number time loads) = asked.Once (event.Sample topic number time loads)
asked_by (call.Show query) = asked.Once (event.Show query)
asked_by (call.Pump steps) = asked.Rounds steps
asked_by (call.Detect now alert heal) = asked.Detects now alert heal
asked_by (call.Caps of_broker of_cluster of_leaders) = asked.Once (event.Caps (record { broker = of_broker; cluster = of_cluster; leader = of_leaders }))

-- the same where what starts something is reviewed first: a fix is told, and not asked
abbrev pub plainly_asked : Call → Asked
plainly_asked (call.Detect now alert heal) = asked.Looks now alert heal
plainly_asked c = asked_by c

-- no entry, and no copy
abbrev pub IsNothing : List Entry → List ChunkCopy → Type 0
IsNothing made copies = (made ≡ []) × (copies ≡ [])

-- what is told of a decision, with the entry that it leads to: a fix is asked with its cause, and what that is answered is told; any
-- other decision is told itself
abbrev pub IsDecided : Rules → Decision → Told → List Entry → Type 0
IsDecided rules (decision.Fix why ask) (told.Core r) made = (x : Entry) × (made ≡ x ∷ []) × (x.event ≡ event.Heal why ask) × (reply_to rules x ≡ r)
IsDecided rules (decision.Fix why ask) t made = ⊥
IsDecided rules d t made = (t ≡ told.Decided d) × (made ≡ [])

-- so of what a look was answered: where it shows which brokers are lost, it is decided by that; else the answer is told
abbrev pub IsLooked : Rules → ℕ → ℕ → ℕ → Reply → Told → List Entry → Type 0
IsLooked rules now alert heal (reply.Looked v) t made = IsDecided rules (decided now alert heal v.since v.case v.lists) t made
IsLooked rules now alert heal r t made = (t ≡ told.Core r) × (made ≡ [])

-- a look at this moment, and what follows
pub record IsDetected (rules : Rules) (now alert heal : ℕ) (t : Told) (made : List Entry) : Type 0 where
  pub look : Entry
  pub rest : List Entry
  pub made_is : made ≡ look ∷ rest
  pub asks : look.event ≡ event.Look now
  pub looked : IsLooked rules now alert heal (reply_to rules look) t rest

-- what is told of a look that was answered so: where it shows which brokers are lost, what is decided by that; else the answer
abbrev pub is_told_of : ℕ → ℕ → ℕ → Reply → Told
is_told_of now alert heal (reply.Looked v) = told.Decided (decided now alert heal v.since v.case v.lists)
is_told_of now alert heal r = told.Core r

-- a look at this moment, of which is told what it calls for
pub record IsShown (rules : Rules) (now alert heal : ℕ) (t : Told) (made : List Entry) : Type 0 where
  pub look : Entry
  pub made_is : made ≡ look ∷ []
  pub asks : look.event ≡ event.Look now
  pub told_is : t ≡ is_told_of now alert heal (reply_to rules look)

-- no entry, or the look alone
abbrev pub IsCutShort : ℕ → List Entry → Type 0
IsCutShort now made = (made ≡ []) ⊎ ((x : Entry) × (made ≡ x ∷ []) × (x.event ≡ event.Look now))

-- the own entries and copies of what is asked, and what it is told: one event has its one entry, and is told the reply at its place, or
-- want of memory without an entry; a pump has its rounds; what is asked of the detector has a look and what follows, or where memory runs
-- out no more than the look
abbrev pub IsDone : Rules → List Event → Asked → Told → List Entry → List ChunkCopy → Type 0
IsDone rules seen (asked.Once e) (told.Core r) made copies = ((x : Entry) × (made ≡ x ∷ []) × (x.event ≡ e) × (reply_to rules x ≡ r)) × (copies ≡ [])
IsDone rules seen (asked.Once e) (told.Step f) made copies = (f ≡ step.Memory) × IsNothing made copies
IsDone rules seen (asked.Rounds n) (told.Pump end) made copies = IsPumped rules seen n end made copies
IsDone rules seen (asked.Detects now alert heal) (told.Core r) made copies = IsDetected rules now alert heal (told.Core r) made × (copies ≡ [])
IsDone rules seen (asked.Detects now alert heal) (told.Decided d) made copies = IsDetected rules now alert heal (told.Decided d) made × (copies ≡ [])
IsDone rules seen (asked.Detects now alert heal) (told.Step f) made copies = (f ≡ step.Memory) × IsCutShort now made × (copies ≡ [])
IsDone rules seen (asked.Looks now alert heal) (told.Core r) made copies = IsShown rules now alert heal (told.Core r) made × (copies ≡ [])
IsDone rules seen (asked.Looks now alert heal) (told.Decided d) made copies = IsShown rules now alert heal (told.Decided d) made × (copies ≡ [])
IsDone rules seen (asked.Looks now alert heal) (told.Step f) made copies = (f ≡ step.Memory) × IsCutShort now made × (copies ≡ [])
IsDone rules seen _ _ made copies = ⊥

-- the same of what a request means: a call; or a fault, which is told and has no entry. Where memory runs out before it is known what
-- the request means, nothing is done
abbrev pub IsCalled : Rules → List Event → Result Call HttpFault → Told → List Entry → List ChunkCopy → Type 0
IsCalled rules seen meaning (told.Http fault) made copies = UnlessMemory {T = Call} (Err fault) meaning × IsNothing made copies
IsCalled rules seen meaning t made copies = (c : Call) × (meaning ≡ Ok c) × IsDone rules seen (asked_by c) t made copies

-- one event was asked: it was answered, or there was no memory for it
abbrev pub IsAskedOnce : Known → Known → Event → Told → Type 0
IsAskedOnce v w e (told.Core r) = HasAsked v w e r
IsAskedOnce v w e (told.Step f) = (f ≡ step.Memory) × IsUnasked v w e f
IsAskedOnce v w e _ = ⊥

-- a fix was asked; any other decision asks nothing
abbrev pub HasHealed : Known → Known → Decision → Told → Type 0
HasHealed v w (decision.Fix why ask) t = IsAskedOnce v w (event.Heal why ask) t
HasHealed v w d t = (w ≡ v) × (t ≡ told.Decided d)

-- what a look that was answered so calls for
abbrev pub IsDecidedBy : ℕ → ℕ → ℕ → Reply → Decision → Type 0
IsDecidedBy now alert heal (reply.Looked s) d = d ≡ decided now alert heal s.since s.case s.lists
IsDecidedBy now alert heal r d = ⊥

-- what is told of a look at once: an answer that shows nothing, or that there is no memory to decide
abbrev pub IsToldAtOnce : Reply → Told → Type 0
IsToldAtOnce (reply.Looked s) t = t ≡ told.Step step.Memory
IsToldAtOnce r t = t ≡ told.Core r

-- what is asked calls nothing outside
abbrev pub IsInward : Asked → Type 0
IsInward (asked.Once e) = (is_outward e ≡ false) × (failed_in e ≡ 0)
IsInward _ = Unit {0}

-- what a call has made
abbrev pub HasDone : Known → Known → Copies → Copies → Asked → Told → Type 0
HasDone v w k l a t = HasMade (IsDone v.rules w.seen a t) v w k l
