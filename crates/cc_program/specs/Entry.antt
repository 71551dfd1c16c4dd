-- What the words of a command line do, whichever of the two runs they want.
use Rattle.std.specs.Prelude.{◌≡◌, ◌≢◌, ◌⊎◌, ℕ, true, false, List, [], length, None}
use Rattle.cc_base.specs.declared.outside.Files as files_trait
use Rattle.command_words.specs.Live.{wants_live}
use Rattle.live_service.specs.Views.{LinkView, NetView}
use Rattle.std.specs.declared.io.ErrorKind.{ErrorKind}
use Rattle.std.specs.declared.io.ErrorKind.TheVariants.{OutOfMemory}
use Rattle.quiet_commands.specs.Edges.{Console, edge}
use Rattle.cc_program.specs.Lives.{Gate, Leaves, Shelf, shelf}
use Rattle.cc_program.specs.Outside.{LeftView, OutsideView, idle}
use Rattle.quiet_commands.specs.Runs.{Logs, Runs}
use Rattle.quiet_commands.specs.declared.ends.End.{End}
use Rattle.quiet_commands.specs.declared.ends.End.TheVariants.{Memory, Usage}

-- no words can be had: there was no memory for them, or one is no text
abbrev pub IsWordless : ErrorKind → End → Type 0
IsWordless kind end = (kind ≡ OutOfMemory → end ≡ Memory) × (kind ≢ OutOfMemory → end ≡ Usage)

-- what holds of a run with threads where the words want one, and else of one alone
abbrev pub AsWanted : List (List ℕ) → Type 0 → Type 0 → Type 0
AsWanted words Live Quiet = (wants_live words ≡ true → Live) × (wants_live words ≡ false → Quiet)

-- nothing was begun, and this console and this listener come back
abbrev pub IsKept : {A : Type 0} → LinkView → NetView → LeftView A → Type 0
IsKept console net left = left ≡ idle None (record { copiers = []; console = console; net = net })

-- a run with threads over this console and this listener, with a copier for each mover and each link that words can ask for, and one more
pub record RanLive {A : Type 0} (gate : Gate A) (words : List (List ℕ)) (files : Shelf) (console : LinkView) (net : NetView) (left : LeftView A) (end : End) : Type 0 where
  pub given : OutsideView
  pub console_is : given.console ≡ console
  pub net_is : given.net ≡ net
  pub enough : length given.copiers ≡ 129
  pub cluster : A
  pub leaves : Leaves gate words files given cluster left end

-- the same, or out of memory before it began, with all that was lent as it was
abbrev pub RunsLive : {A F : Type 0} → Gate A → files_trait.Ghosts F → List (List ℕ) → F → F → LinkView → NetView → LeftView A → End → Type 0
RunsLive gate files words old new console net left end =
    ((end ≡ Memory) × (new ≡ old) × IsKept console net left)
    ⊎ RanLive gate words (shelf files.contents files.faults files.log old new) console net left end

-- the input and the output, before and after
abbrev pub io_between : LinkView → LinkView → Console
io_between before now = record {
  left = before.left;
  in_before = before.reads;
  in_now = now.reads;
  out_before = before.writes;
  out_now = now.writes;
  written_before = before.written;
  written_now = now.written;
}

-- a run alone over this console, which comes back as it left it; the listener is as it was
pub record RanAlone {A F : Type 0} (files : files_trait.Ghosts F) (words : List (List ℕ)) (old new : F) (console : LinkView) (net : NetView) (left : LeftView A) (end : End) : Type 0 where
  pub kept : IsKept left.outside.console net left
  pub runs : Runs words (edge files.contents files.faults old new (io_between console left.outside.console)) end
  pub logs : Logs words (files.contents old) (files.log old) (files.log new) end
