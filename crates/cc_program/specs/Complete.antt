-- When a run with threads ends so, and when it has to end well.
use Rattle.std.specs.Prelude.{◌≡◌, ◌≤◌, ◌⊎◌, ℕ, true, List, [], ◌∷◌, length, Option, Some, None, IfSome}
use Rattle.cc_base.specs.Outside.{HasRisen}
use Rattle.cluster_json.specs.File.{Meaning}
use Rattle.control_core.specs.Books.{BookView, state_of}
use Rattle.exec_terms.specs.Machine.{any_unfinished}
use Rattle.rest_session.specs.Answered.{end_of}
use Rattle.rest_session.specs.declared.session.LinkEnd.TheVariants as link
use Rattle.rest_stream.specs.Stream.{Requests, stopped}
use Rattle.rest_stream.specs.declared.raw.RawRequest.{RawRequest}
use Rattle.rest_stream.specs.declared.raw.Stop.{Stop}
use Rattle.quiet_commands.specs.Input.{Means}
use Rattle.live_service.specs.Asked.{ServingAsked}
use Rattle.live_service.specs.Views.{LaneView}
use Rattle.cc_program.specs.Lives.{Gate, IsCalled, IsLiveRefusal, IsUnasked, LiveAsked, Shelf, live_command}
use Rattle.cc_program.specs.Outside.{LeftView, OutsideView}
use Rattle.quiet_commands.specs.declared.ends.End.{End}
use Rattle.quiet_commands.specs.declared.ends.End.TheVariants.{Usage, Refused, GoalFailed, FileFault, ReadFault, WriteFault, NotDrained, InputCut, TraceRefused, ListenerFault}
use Rattle.quiet_commands.specs.Complete.{HasWholeInput}

-- the input of a session ended inside a request, or has one that can't be framed
pub record IsCutSession (words : List (List ℕ)) (left : Option (List ℕ)) : Type 0 where
  pub asked : LiveAsked
  pub means : live_command words ≡ Some asked
  pub of_console : asked.crew.serving ≡ None
  pub raws : List RawRequest
  pub why : Stop
  pub cut : (end_of why ≡ link.Cut) ⊎ (end_of why ≡ link.Unframed)
  pub stops : (stream : List ℕ) → left ≡ Some stream → Requests 0 stream raws (stopped why)

-- a call of the admin failed, by the admin that comes back, or by that of the book
abbrev pub HasFailedBy : {A : Type 0} → Gate A → A → Option A → Option (BookView A) → Type 0
HasFailedBy gate admin back (Some c) = HasRisen (gate.faults admin) (gate.faults c.admin)
HasFailedBy gate admin (Some back) None = HasRisen (gate.faults admin) (gate.faults back)
HasFailedBy gate admin None None = ⊥

-- so by what a run left
abbrev pub AdminFailed : {A : Type 0} → Gate A → A → LeftView A → Type 0
AdminFailed gate admin l = HasFailedBy gate admin l.admin l.book

-- a task of the book is unfinished; and a call of the admin failed once the book was settled, or this can't be told, since as many
-- failed before as can be counted
pub record IsUndrained {A : Type 0} (c : BookView A) : Type 0 where
  pub unfinished : any_unfinished (state_of c).desk.exec.tasks ≡ true
  pub late : (1 ≤ c.late) ⊎ (18446744073709551615 ≤ c.failures)

-- a call of one of these handles of the listener failed
abbrev pub HasHandleFailed : List LaneView → Type 0
HasHandleFailed [] = ⊥
HasHandleFailed (x ∷ xs) = (1 ≤ x.net.faults) ⊎ HasHandleFailed xs

-- a call of the listener failed, or one of its handles
abbrev pub NetFailed : ℕ → ℕ → List LaneView → Type 0
NetFailed before now lanes = HasRisen before now ⊎ HasHandleFailed lanes

-- why a run ended so that left this book. It ends neither by a goal nor by a trace
abbrev pub IsCauseBy : {A : Type 0} → Gate A → List (List ℕ) → Shelf → OutsideView → A → LeftView A → Option (BookView A) → End → Type 0
IsCauseBy gate words files o admin l book Usage = IsUnasked words (length o.copiers)
IsCauseBy gate words files o admin l book (Refused line) = IsLiveRefusal words (length o.copiers) files line.items × (l.drain ≡ None)
IsCauseBy gate words files o admin l book FileFault = IsCalled words (length o.copiers) × HasRisen files.before files.now
IsCauseBy gate words files o admin l book ReadFault = HasRisen o.console.reads l.outside.console.reads
IsCauseBy gate words files o admin l book WriteFault = HasRisen o.console.writes l.outside.console.writes
IsCauseBy gate words files o admin l book NotDrained = HasFailedBy gate admin l.admin book × IfSome book IsUndrained
IsCauseBy gate words files o admin l book InputCut = IsCutSession words o.console.left
IsCauseBy gate words files o admin l book ListenerFault = NetFailed o.net.faults l.outside.net.faults l.lanes
IsCauseBy gate words files o admin l book (GoalFailed line) = ⊥
IsCauseBy gate words files o admin l book TraceRefused = ⊥
IsCauseBy gate words files o admin l book _ = Unit {0}

abbrev pub IsLiveCause : {A : Type 0} → Gate A → List (List ℕ) → Shelf → OutsideView → A → LeftView A → End → Type 0
IsLiveCause gate words files o admin l end = IsCauseBy gate words files o admin l l.book end

-- a call of the files, of the console, of the listener or of the admin failed
abbrev pub HasLiveFailed : {A : Type 0} → Gate A → Shelf → OutsideView → A → LeftView A → Type 0
HasLiveFailed gate files o admin l =
    HasRisen files.before files.now ⊎ HasRisen o.console.reads l.outside.console.reads ⊎ HasRisen o.console.writes l.outside.console.writes
    ⊎ NetFailed o.net.faults l.outside.net.faults l.lanes ⊎ AdminFailed gate admin l

-- without links the requests are the console's, and have to be whole
abbrev pub IsServed : Option ServingAsked → Option (List ℕ) → Type 0
IsServed None left = HasWholeInput left
IsServed (Some serving) left = Unit {0}

-- the words are a command with threads, the copiers suffice, the file has a meaning, and the input is what the command needs
pub record IsLiveGiven (words : List (List ℕ)) (files : Shelf) (o : OutsideView) : Type 0 where
  pub call : IsCalled words (length o.copiers)
  pub bytes : List ℕ
  pub told : files.told call.asked.file ≡ Some bytes
  pub file : Meaning
  pub meant : Means bytes file
  pub served : IsServed call.asked.crew.serving o.console.left
