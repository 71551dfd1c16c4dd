-- A run that waits for nobody ends well where all is as it should be.
use Rattle.std.proofs.Common.{◌≡◌, ◌⊎◌, ◌∙◌, inl, inr, ℕ, List, refl, sym, subst}
use Rattle.std.specs.Prelude.{Option, Some, None, IfSome, Ok, Err}
use Rattle.cc_base.specs.Outside.{HasRisen}
use Rattle.cluster_json.specs.File.{Meaning}
use Rattle.mover_rounds.specs.declared.drains.DrainEnd.{DrainEnd}
use Rattle.mover_rounds.specs.declared.drains.DrainEnd.TheVariants as drain
use Rattle.rest_session.specs.Answered.{HasEnded}
use Rattle.rest_session.specs.Pieces.{Piece, raws_of}
use Rattle.rest_session.specs.declared.session.LinkEnd.{LinkEnd}
use Rattle.rest_session.specs.declared.session.LinkEnd.TheVariants as link
use Rattle.rest_stream.specs.Stream.{Requests, stopped}
use Rattle.rest_stream.specs.declared.raw.RawRequest.{RawRequest}
use Rattle.quiet_commands.specs.Commands.{Asked, apply, check, command, gen, plan, session, source_of}
use Rattle.quiet_commands.specs.Complete.{HasFailed, HasWholeInput, IsServable, IsWell, IsWellGiven}
use Rattle.quiet_commands.specs.Edges.{Edge}
use Rattle.quiet_commands.specs.Ends.{status_of}
use Rattle.quiet_commands.specs.Input.{IsRefused}
use Rattle.quiet_commands.specs.Runs.{Did, Runs}
use Rattle.quiet_commands.specs.Sessions.{ended_by}
use Rattle.quiet_commands.specs.declared.ends.End.{End}
use Rattle.quiet_commands.specs.declared.ends.End.TheVariants as end
use Rattle.quiet_commands.proofs.Streams.{if_told, never_cut}

-- a session whose run ended so
no_goal : (l : LinkEnd) (d : DrainEnd) (line : _) → end.GoalFailed line ≡ ended_by l d → ⊥
no_goal link.Ended drain.Drained line e = cc
no_goal link.Ended (drain.AdminFault n) line e = cc
no_goal link.Ended drain.Memory line e = cc
no_goal link.Closed drain.Drained line e = cc
no_goal link.Closed (drain.AdminFault n) line e = cc
no_goal link.Closed drain.Memory line e = cc
no_goal link.ShutDown drain.Drained line e = cc
no_goal link.ShutDown (drain.AdminFault n) line e = cc
no_goal link.ShutDown drain.Memory line e = cc
no_goal link.Cut d line e = cc
no_goal link.Unframed d line e = cc
no_goal link.ReadFault d line e = cc
no_goal link.WriteFault d line e = cc
no_goal link.Memory d line e = cc

no_trace : (l : LinkEnd) (d : DrainEnd) → end.TraceRefused ≡ ended_by l d → ⊥
no_trace link.Ended drain.Drained e = cc
no_trace link.Ended (drain.AdminFault n) e = cc
no_trace link.Ended drain.Memory e = cc
no_trace link.Closed drain.Drained e = cc
no_trace link.Closed (drain.AdminFault n) e = cc
no_trace link.Closed drain.Memory e = cc
no_trace link.ShutDown drain.Drained e = cc
no_trace link.ShutDown (drain.AdminFault n) e = cc
no_trace link.ShutDown drain.Memory e = cc
no_trace link.Cut d e = cc
no_trace link.Unframed d e = cc
no_trace link.ReadFault d e = cc
no_trace link.WriteFault d e = cc
no_trace link.Memory d e = cc

was_read : (l : LinkEnd) (d : DrainEnd) → end.ReadFault ≡ ended_by l d → l ≡ link.ReadFault
was_read link.Ended drain.Drained e = absurd cc
was_read link.Ended (drain.AdminFault n) e = absurd cc
was_read link.Ended drain.Memory e = absurd cc
was_read link.Closed drain.Drained e = absurd cc
was_read link.Closed (drain.AdminFault n) e = absurd cc
was_read link.Closed drain.Memory e = absurd cc
was_read link.ShutDown drain.Drained e = absurd cc
was_read link.ShutDown (drain.AdminFault n) e = absurd cc
was_read link.ShutDown drain.Memory e = absurd cc
was_read link.Cut d e = absurd cc
was_read link.Unframed d e = absurd cc
was_read link.ReadFault d e = refl
was_read link.WriteFault d e = absurd cc
was_read link.Memory d e = absurd cc

was_written : (l : LinkEnd) (d : DrainEnd) → end.WriteFault ≡ ended_by l d → l ≡ link.WriteFault
was_written link.Ended drain.Drained e = absurd cc
was_written link.Ended (drain.AdminFault n) e = absurd cc
was_written link.Ended drain.Memory e = absurd cc
was_written link.Closed drain.Drained e = absurd cc
was_written link.Closed (drain.AdminFault n) e = absurd cc
was_written link.Closed drain.Memory e = absurd cc
was_written link.ShutDown drain.Drained e = absurd cc
was_written link.ShutDown (drain.AdminFault n) e = absurd cc
was_written link.ShutDown drain.Memory e = absurd cc
was_written link.Cut d e = absurd cc
was_written link.Unframed d e = absurd cc
was_written link.ReadFault d e = absurd cc
was_written link.WriteFault d e = refl
was_written link.Memory d e = absurd cc

was_cut : (l : LinkEnd) (d : DrainEnd) → end.InputCut ≡ ended_by l d → (l ≡ link.Cut) ⊎ (l ≡ link.Unframed)
was_cut link.Ended drain.Drained e = absurd cc
was_cut link.Ended (drain.AdminFault n) e = absurd cc
was_cut link.Ended drain.Memory e = absurd cc
was_cut link.Closed drain.Drained e = absurd cc
was_cut link.Closed (drain.AdminFault n) e = absurd cc
was_cut link.Closed drain.Memory e = absurd cc
was_cut link.ShutDown drain.Drained e = absurd cc
was_cut link.ShutDown (drain.AdminFault n) e = absurd cc
was_cut link.ShutDown drain.Memory e = absurd cc
was_cut link.Cut d e = inl refl
was_cut link.Unframed d e = inr refl
was_cut link.ReadFault d e = absurd cc
was_cut link.WriteFault d e = absurd cc
was_cut link.Memory d e = absurd cc

-- whole requests are neither cut nor refused
no_cut : (left old new : Option (List ℕ)) (pieces : List Piece) (l : LinkEnd) → (l ≡ link.Cut) ⊎ (l ≡ link.Unframed) → HasEnded left old new pieces l → HasWholeInput left → ⊥
no_cut left old new pieces link.Cut how h w = never_cut w.stream (raws_of pieces) h.0 w.whole (inl h.1) (if_told left (λ s. Requests 0 s (raws_of pieces) (stopped h.0)) w.stream w.told h.2.1.requests)
no_cut left old new pieces link.Unframed how h w = never_cut w.stream (raws_of pieces) h.0 w.whole (inr h.1) (if_told left (λ s. Requests 0 s (raws_of pieces) (stopped h.0)) w.stream w.told h.2.1.requests)
no_cut left old new pieces link.Ended (inl e) h w = cc
no_cut left old new pieces link.Ended (inr e) h w = cc
no_cut left old new pieces link.Closed (inl e) h w = cc
no_cut left old new pieces link.Closed (inr e) h w = cc
no_cut left old new pieces link.ShutDown (inl e) h w = cc
no_cut left old new pieces link.ShutDown (inr e) h w = cc
no_cut left old new pieces link.ReadFault (inl e) h w = cc
no_cut left old new pieces link.ReadFault (inr e) h w = cc
no_cut left old new pieces link.WriteFault (inl e) h w = cc
no_cut left old new pieces link.WriteFault (inr e) h w = cc
no_cut left old new pieces link.Memory (inl e) h w = cc
no_cut left old new pieces link.Memory (inr e) h w = cc

module _ (e : Edge) (m : Meaning) where
  well_done : (a : Asked) → IsWell a 0
  well_done (plan file trace ask) = inl refl
  well_done (check file trace ask) = inl refl
  well_done (apply file ask) = inl refl
  well_done (gen seed brokers partitions file ask) = inl refl
  well_done (session file review) = refl

  well_failed : (a : Asked) (line : _) → Did a m e (end.GoalFailed line) → IsWell a 4
  well_failed (plan file trace ask) line h = inr refl
  well_failed (check file trace ask) line h = absurd h.1
  well_failed (apply file ask) line h = inr refl
  well_failed (gen seed brokers partitions file ask) line h = inr refl
  well_failed (session file review) line h = absurd (no_goal h.0.link h.0.drain line h.1)

  well_traced : (a : Asked) → Did a m e end.TraceRefused → IsWell a 11
  well_traced (plan file trace ask) h = absurd h.1
  well_traced (check file trace ask) h = inr refl
  well_traced (apply file ask) h = absurd h.1
  well_traced (gen seed brokers partitions file ask) h = absurd h.1
  well_traced (session file review) h = absurd (no_trace h.0.link h.0.drain h.1)

  pub read_failed : (a : Asked) → Did a m e end.ReadFault → HasRisen e.io.in_before e.io.in_now
  read_failed (plan file trace ask) h = absurd h.1
  read_failed (check file trace ask) h = absurd h.1
  read_failed (apply file ask) h = absurd h.1
  read_failed (gen seed brokers partitions file ask) h = absurd h.1
  read_failed (session file review) h = h.2.read_fault (was_read h.0.link h.0.drain h.1)

  pub write_failed : (a : Asked) → Did a m e end.WriteFault → HasRisen e.io.out_before e.io.out_now
  write_failed (plan file trace ask) h = h.3
  write_failed (check file trace ask) h = h.3
  write_failed (apply file ask) h = h.3
  write_failed (gen seed brokers partitions file ask) h = h.3
  write_failed (session file review) h = h.2.write_fault (was_written h.0.link h.0.drain h.1)

  not_cut : (a : Asked) → Did a m e end.InputCut → IsServable a e → ⊥
  not_cut (plan file trace ask) h w = h.1
  not_cut (check file trace ask) h w = h.1
  not_cut (apply file ask) h w = h.1
  not_cut (gen seed brokers partitions file ask) h w = h.1
  not_cut (session file review) h w = no_cut e.io.left e.io.written_before e.io.written_now h.2.session.answered.pieces h.0.link (was_cut h.0.link h.0.drain h.1) h.2.session.answered.ended w

module _ (words : List (List ℕ)) (e : Edge) (asked : Asked) (given : IsWellGiven words e asked) where
  same : (a : Asked) → command words ≡ Some a → a ≡ asked
  same a h = (let i : Some a ≡ Some asked = sym h ∙ given.means in cc)

  pub complete : (way : End) → Runs words e way → IsWell asked (status_of way) ⊎ (status_of way ≡ 9) ⊎ HasFailed e
  complete end.Done h = inl (well_done e given.file asked)
  complete end.Usage h = absurd (let i : None ≡ Some asked = sym h.0 ∙ given.means in cc)
  complete (end.Refused line) h =
      let r = h.0 in
      let told : IfSome (source_of e.told asked) (λ bytes. IsRefused bytes r.fault) = subst (λ (a : Asked). IfSome (source_of e.told a) (λ bytes. IsRefused bytes r.fault)) (same r.asked r.means) r.refused in
      let refused : IsRefused given.bytes r.fault = if_told (source_of e.told asked) (λ bytes. IsRefused bytes r.fault) given.bytes given.told told in
      absurd (let i : Ok given.file ≡ Err r.fault = sym given.meant ∙ refused in cc)
  complete (end.GoalFailed line) h = inl (subst (λ (a : Asked). IsWell a 4) (same h.asked h.means) (well_failed e h.file h.asked line h.answered))
  complete end.FileFault h = inr (inr (inl h.1))
  complete end.ReadFault h = inr (inr (inr (inl (read_failed e h.file h.asked h.answered))))
  complete end.WriteFault h = inr (inr (inr (inr (write_failed e h.file h.asked h.answered))))
  complete end.NotDrained h = absurd h
  complete end.Memory h = inr (inl refl)
  complete end.InputCut h = absurd (not_cut e h.file h.asked h.answered (subst (λ (a : Asked). IsServable a e) (sym (same h.asked h.means)) given.servable))
  complete end.TraceRefused h = inl (subst (λ (a : Asked). IsWell a 11) (same h.asked h.means) (well_traced e h.file h.asked h.answered))
  complete end.ListenerFault h = absurd h
