-- A session over a book of its own: the requests of a link, then Close, then rounds until nothing is unfinished.
use Rattle.std.specs.Prelude.{◌≡◌, ℕ, true, false, List, [], ◌∷◌, ◌++◌, Option, Some, None, is_some}
use Rattle.std.specs.List.{list_any}
use Rattle.cluster_gate.specs.declared.copier.ChunkCopy.{ChunkCopy}
use Rattle.control_core.specs.Books.{BookView}
use Rattle.core_terms.specs.declared.events.Event.{Event}
use Rattle.core_terms.specs.declared.events.Event.TheVariants as event
use Rattle.mover_rounds.specs.Asked.{core_rules, entries_from}
use Rattle.mover_rounds.specs.Drained.{IsDrained}
use Rattle.mover_rounds.specs.Made.{Copies, HasRisenBy, failures_of, with_copies}
use Rattle.mover_rounds.specs.declared.drains.DrainEnd.{DrainEnd}
use Rattle.mover_rounds.specs.declared.drains.DrainEnd.TheVariants as drain
use Rattle.review_board.specs.Asked.{BoardEntry, BoardKnown}
use Rattle.rest_session.specs.Answered.{IsBlamed, IsServed}
use Rattle.rest_session.specs.Heals.{is_heal}
use Rattle.rest_session.specs.Heard.{offers, paged}
use Rattle.rest_session.specs.Reviewed.{IsBoardSince}
use Rattle.rest_session.specs.declared.whole.SessionEnd.{SessionEnd}

-- the number of the admin's fault that ended a drain, if one did
abbrev pub drain_fault : DrainEnd → Option ℕ
drain_fault (drain.AdminFault n) = Some n
drain_fault _ = None

-- the journal of a book that was just opened is now that of a session: the entries that answered the requests of the link, one Close,
-- and the rounds of a drain. What the requests asked of a board, if there is one, was asked of it, and no fix stands in the journal then
pub record IsSession {A : Type 0} (b c : BookView A) (x y : Option BoardKnown) (k l : Copies) (left old new : Option (List ℕ)) (end : SessionEnd) : Type 0 where
  pub served : List Event
  pub drained : List Event
  pub journal_is : c.journal ≡ served ++ event.Close ∷ drained
  pub served_copies : List ChunkCopy
  pub drained_copies : List ChunkCopy
  pub copied : l.made ≡ with_copies k.made (served_copies ++ drained_copies)
  pub failed : HasRisenBy (failures_of (entries_from [] c.journal)) k.faults l.faults
  pub faults : ℕ
  pub noted : List BoardEntry
  pub board : IsBoardSince x y noted
  pub answered : IsServed (offers (paged false) x) left old new (core_rules b.file) served b.failures faults end.link noted (entries_from [] served) served_copies
  pub drain_blamed : IsBlamed (drain_fault end.drain) faults c.failures
  pub rounds : IsDrained (core_rules b.file) c.journal end.drain (entries_from (served ++ event.Close ∷ []) drained) drained_copies
  pub unhealed : is_some x ≡ true → list_any is_heal c.journal ≡ false
