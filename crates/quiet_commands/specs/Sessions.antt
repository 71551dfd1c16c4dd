-- What `session` does: it answers the requests of the input over a book of a cluster in memory.
use Rattle.std.specs.Prelude.{◌≡◌, ◌⊎◌, ℕ, Bool, true, false, List, [], Option, None, Some}
use Rattle.std.specs.List.{AllByRecursion}
use Rattle.cc_base.specs.Outside.{HasRisen}
use Rattle.cluster_gate.specs.declared.memory.MemoryCluster.{MemoryCluster}
use Rattle.cluster_json.specs.File.{Meaning}
use Rattle.control_core.specs.Books.{BookView, opened, state_of}
use Rattle.core_laws.specs.Alone.{IsDone}
use Rattle.core_laws.specs.Events.{AreListsShown}
use Rattle.core_terms.specs.History.{AreLegal}
use Rattle.core_terms.specs.Sound.{IsSound}
use Rattle.mover_rounds.specs.Asked.{entries_from}
use Rattle.mover_rounds.specs.Made.{Copies, failures_of}
use Rattle.mover_rounds.specs.declared.drains.DrainEnd.{DrainEnd}
use Rattle.mover_rounds.specs.declared.drains.DrainEnd.TheVariants as drain
use Rattle.rest_session.specs.Answered.{fault_told}
use Rattle.rest_session.specs.Sessions.{IsSession}
use Rattle.rest_session.specs.declared.session.LinkEnd.{LinkEnd}
use Rattle.rest_session.specs.declared.session.LinkEnd.TheVariants as link
use Rattle.rest_session.specs.declared.whole.SessionEnd.{SessionEnd}
use Rattle.rest_stream.specs.Stream.{Requests, closed, stopped}
use Rattle.rest_stream.specs.declared.raw.RawRequest.{RawRequest}
use Rattle.rest_stream.specs.declared.raw.Stop.TheVariants as stop
use Rattle.review_board.specs.Asked.{BoardKnown, known_by_owner}
use Rattle.review_board.specs.declared.events.BoardEvent.{BoardEvent}
use Rattle.quiet_commands.specs.Edges.{Console}
use Rattle.quiet_commands.specs.declared.ends.End.{End}
use Rattle.quiet_commands.specs.declared.ends.End.TheVariants.{Done, InputCut, Memory, NotDrained, ReadFault, WriteFault}

-- how a run ends whose link ended well
abbrev pub drained_end : DrainEnd → End
drained_end drain.Drained = Done
drained_end (drain.AdminFault number) = NotDrained
drained_end drain.Memory = Memory

-- how a run ends whose link, and then whose drain, ended so
abbrev pub ended_by : LinkEnd → DrainEnd → End
ended_by link.Ended d = drained_end d
ended_by link.Closed d = drained_end d
ended_by link.ShutDown d = drained_end d
ended_by link.Cut d = InputCut
ended_by link.Unframed d = InputCut
ended_by link.ReadFault d = ReadFault
ended_by link.WriteFault d = WriteFault
ended_by link.Memory d = Memory

-- a copier in memory that made no copy
abbrev pub no_copies : Copies
no_copies = record { made = Some []; faults = 0 }

-- the input is whole requests: the last of them closes it, or it ends behind the last
pub record IsWholeInput (stream : List ℕ) : Type 0 where
  pub raws : List RawRequest
  pub ends : Requests 0 stream raws closed ⊎ Requests 0 stream raws (stopped stop.End)

-- the board of a session, with this journal, where requests are reviewed; else there is none
abbrev pub board_kept : Bool → List BoardEvent → Option BoardKnown
board_kept true journal = Some (known_by_owner journal)
board_kept false journal = None

-- a whole session over the cluster that a file means: a legal history, in which no copy failed, of the entries that answered the requests,
-- one Close, and the rounds of a drain; its state is sound, and shows each list as the old one, the new one or, in flight, both. No reply tells
-- a fault of the admin. Where requests are reviewed, they are on a board of the session's own
pub record IsSessionOf (m : Meaning) (reviews : Bool) (io : Console) (end : SessionEnd) : Type 0 where
  pub before : BookView MemoryCluster
  pub after : BookView MemoryCluster
  pub copies : Copies
  pub opening : before ≡ opened m before.admin
  pub board : List BoardEvent
  pub session : IsSession before after (board_kept reviews []) (board_kept reviews board) no_copies copies io.left io.written_before io.written_now end
  pub file_is : after.file ≡ m
  pub legal : AreLegal after.journal
  pub sound : IsSound m (state_of after).desk
  pub shown : AreListsShown (state_of after).desk.exec
  pub drained : end.drain ≡ drain.Drained → IsDone (state_of after).desk
  pub no_failure : failures_of (entries_from [] after.journal) ≡ 0
  pub no_admin_fault : AllByRecursion (λ p. fault_told p.told_is ≡ None) session.answered.pieces
  pub read_fault : end.link ≡ link.ReadFault → HasRisen io.in_before io.in_now
  pub write_fault : end.link ≡ link.WriteFault → HasRisen io.out_before io.out_now

-- what a session did where the run ended so
abbrev pub DidSession : Meaning → Bool → Console → End → Type 0
DidSession m reviews io end = (how : SessionEnd) × (end ≡ ended_by how.link how.drain) × IsSessionOf m reviews io how
