-- The copies that were reported for each task.
use Rattle.std.specs.Prelude.{◌≡◌, ℕ, ◌<◌, Bool, true, false, not, ◌==◌, ◌&&◌, List, [], ◌∷◌, ◌++◌, length, map, take, if◌then◌else◌}
use Rattle.std.specs.List.{filter}
use Rattle.cluster_json.specs.File.{Meaning}
use Rattle.cluster_gate.specs.Receipts.{ReceiptView}
use Rattle.exec_terms.specs.Machine.{State, any_unfinished, task_at}
use Rattle.exec_terms.specs.Words.{copies, is_completed}
use Rattle.exec_terms.specs.declared.work.Work.{Work}
use Rattle.exec_terms.specs.declared.work.Work.TheVariants.{Copy}
use Rattle.core_terms.specs.Input.{IsInput}
use Rattle.core_terms.specs.State.{Core, opening_of}
use Rattle.core_terms.specs.Step.{next, reply_of}
use Rattle.core_terms.specs.History.{AreLegal, state_after}
use Rattle.core_terms.specs.declared.events.Event.{Event}
use Rattle.core_terms.specs.declared.events.Event.TheVariants as event
use Rattle.core_terms.specs.declared.replies.Reply.{Reply}
use Rattle.core_terms.specs.declared.replies.Reply.TheVariants as reply

-- the copy counts
abbrev pub is_left : Reply → Bool
is_left (reply.Left left) = true
is_left _ = false

-- an execution begins
abbrev pub begins : Core → Core → Bool
begins s t = not (any_unfinished s.desk.exec.tasks) && any_unfinished t.desk.exec.tasks

-- the receipts of the copies that count, after an event: one more where a copy does, and none where an execution begins
abbrev pub reported : Meaning → Core → Event → List ReceiptView → List ReceiptView
reported file s (event.Copied receipt) told = if is_left (reply_of file s (event.Copied receipt)) then told ++ receipt ∷ [] else told
reported file s (event.Planned ticket plan) told = if begins s (next file s (event.Planned ticket plan)) then [] else told
reported file s (event.Submit ask key) told = if begins s (next file s (event.Submit ask key)) then [] else told
reported file s (event.Heal cause ask) told = if begins s (next file s (event.Heal cause ask)) then [] else told
reported file s _ told = told

-- so after events, one after another
abbrev pub reported_from : Meaning → Core → List ReceiptView → List Event → List ReceiptView
reported_from file s told [] = told
reported_from file s told (e ∷ es) = reported_from file (next file s e) (reported file s e told) es

-- the copies of partition p among them, in order
abbrev pub copies_told : ℕ → List ReceiptView → List Work
copies_told p told = map (λ r. Copy r.to r.chunk) (filter (λ r. r.part == p) told)

-- the copies that were reported for each task of the execution are its first ones, as many as are done
abbrev pub AreReported : State → List ReceiptView → Type 0
AreReported s told = (i : ℕ) → i < length s.tasks → copies_told (task_at s.tasks i).part told ≡ take (task_at s.tasks i).done (copies (task_at s.tasks i))

-- so after each legal history: a completed task had each of its copies reported, in their order
pub record CopiesWereReported (file : Meaning) (events : List Event) : Type 0 where
  pub done : AreReported (state_after file events).desk.exec (reported_from file (opening_of file) [] events)
  pub completed : (i : ℕ) → i < length (state_after file events).desk.exec.tasks → is_completed (task_at (state_after file events).desk.exec.tasks i).phase ≡ true
      → copies_told (task_at (state_after file events).desk.exec.tasks i).part (reported_from file (opening_of file) [] events) ≡ copies (task_at (state_after file events).desk.exec.tasks i)

abbrev pub CopiesAreReported : Type 0
CopiesAreReported = (file : Meaning) (events : List Event) → IsInput file → AreLegal events → CopiesWereReported file events
