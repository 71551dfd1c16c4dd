-- What the end of a run that waits for nobody comes of.
use Rattle.std.proofs.Common.{◌≡◌, ◌⊎◌, ◌∙◌, inl, inr, ℕ, List, refl, sym, subst, arith}
use Rattle.std.specs.Prelude.{Option, Some, None, IfSome, Ok, Err}
use Rattle.cc_base.specs.Outside.{HasRisen}
use Rattle.cluster_json.specs.Faults.{Fault}
use Rattle.cluster_json.specs.File.{Meaning}
use Rattle.quiet_commands.specs.Commands.{Asked, AsksSession, apply, check, command, gen, plan, session, source_of, with_source}
use Rattle.quiet_commands.specs.Edges.{Edge, IsSilent}
use Rattle.quiet_commands.specs.Ends.{status_of}
use Rattle.quiet_commands.specs.Input.{IsRefused, Means}
use Rattle.quiet_commands.specs.Runs.{AsksFile, Did, IsMade, LoadsAll, LoadsFile, LoadsSome, Logs, Ran, Runs, with_files}
use Rattle.quiet_commands.specs.declared.ends.End.{End}
use Rattle.quiet_commands.specs.declared.ends.End.TheVariants as end
use Rattle.quiet_commands.proofs.Complete.{read_failed, write_failed}
use Rattle.quiet_commands.proofs.Streams.{if_told}

module _ (words : List (List ℕ)) (e : Edge) where
  pub usage : (way : End) → Runs words e way → status_of way ≡ 2 → command words ≡ None
  usage end.Usage h n = h.0
  usage _ h n = absurd (omega (arith, n))

  pub files : (way : End) → Runs words e way → status_of way ≡ 5 → AsksFile words × HasRisen e.files_before e.files_now
  files end.FileFault h n = (h.0, h.1)
  files _ h n = absurd (omega (arith, n))

  pub input : (way : End) → Runs words e way → status_of way ≡ 6 → HasRisen e.io.in_before e.io.in_now
  input end.ReadFault h n = read_failed e h.file h.asked h.answered
  input _ h n = absurd (omega (arith, n))

  pub output : (way : End) → Runs words e way → status_of way ≡ 7 → HasRisen e.io.out_before e.io.out_now
  output end.WriteFault h n = write_failed e h.file h.asked h.answered
  output _ h n = absurd (omega (arith, n))

  pub silent : (way : End) → Runs words e way → (status_of way ≡ 2) ⊎ (status_of way ≡ 3) ⊎ (status_of way ≡ 5) → IsSilent e.io
  silent end.Usage h n = h.1
  silent (end.Refused line) h n = h.1
  silent end.FileFault h n = h.2
  silent _ h (inl n) = absurd (omega (arith, n))
  silent _ h (inr (inl n)) = absurd (omega (arith, n))
  silent _ h (inr (inr n)) = absurd (omega (arith, n))

  -- of a command that makes a text, nothing is out where memory ran out
  of_session : (a : Asked) (m : Meaning) → command words ≡ Some a → Did a m e end.Memory → AsksSession words
  of_session (plan file trace ask) m is h = absurd h.1
  of_session (check file trace ask) m is h = absurd h.1
  of_session (apply file ask) m is h = absurd h.1
  of_session (gen seed brokers partitions file ask) m is h = absurd h.1
  of_session (session file review) m is h = (file, review, is)

  pub memory : (way : End) → Runs words e way → status_of way ≡ 9 → IsSilent e.io ⊎ AsksSession words
  memory end.Memory (inl h) n = inl h
  memory end.Memory (inr h) n = inr (of_session h.asked h.file h.means h.answered)
  memory _ h n = absurd (omega (arith, n))

  -- a command was asked
  commanded : (a : Asked) → command words ≡ Some a → command words ≡ None → ⊥
  commanded a is none = (let i : Some a ≡ None = sym is ∙ none in cc)

  pub unasked : (way : End) → Runs words e way → command words ≡ None → (status_of way ≡ 2) ⊎ (status_of way ≡ 9)
  unasked end.Usage h none = inl refl
  unasked end.Memory h none = inr refl
  unasked (end.Refused line) h none = absurd (commanded h.0.asked h.0.means none)
  unasked end.FileFault h none = absurd (commanded h.0.asked h.0.means none)
  unasked end.NotDrained h none = absurd h
  unasked end.ListenerFault h none = absurd h
  unasked end.Done h none = absurd (commanded h.asked h.means none)
  unasked (end.GoalFailed line) h none = absurd (commanded h.asked h.means none)
  unasked end.ReadFault h none = absurd (commanded h.asked h.means none)
  unasked end.WriteFault h none = absurd (commanded h.asked h.means none)
  unasked end.InputCut h none = absurd (commanded h.asked h.means none)
  unasked end.TraceRefused h none = absurd (commanded h.asked h.means none)

  -- a text that is refused
  module _ (asked : Asked) (bytes : List ℕ) (fault : Fault) (means : command words ≡ Some asked) (told : source_of e.told asked ≡ Some bytes) (refused : IsRefused bytes fault) where
    same : (a : Asked) → command words ≡ Some a → a ≡ asked
    same a h = (let i : Some a ≡ Some asked = sym h ∙ means in cc)

    -- has no meaning
    meaningless : (a : Asked) (m : Meaning) → command words ≡ Some a → IfSome (source_of e.told a) (λ b. Means b m) → ⊥
    meaningless a m is h =
        let meant : IfSome (source_of e.told asked) (λ b. Means b m) = subst (λ (x : Asked). IfSome (source_of e.told x) (λ b. Means b m)) (same a is) h in
        let means_it : Means bytes m = if_told (source_of e.told asked) (λ b. Means b m) bytes told meant in
        (let i : Ok m ≡ Err fault = sym means_it ∙ refused in cc)

    not_ran : (way : End) → Ran words e way → ⊥
    not_ran way h = meaningless h.asked h.file h.means h.meant

    pub refuses : (way : End) → Runs words e way → (status_of way ≡ 3) ⊎ (status_of way ≡ 5) ⊎ (status_of way ≡ 9)
    refuses (end.Refused line) h = inl refl
    refuses end.FileFault h = inr (inl refl)
    refuses end.Memory h = inr (inr refl)
    refuses end.Usage h = absurd (commanded asked means h.0)
    refuses end.NotDrained h = absurd h
    refuses end.ListenerFault h = absurd h
    refuses end.Done h = absurd (not_ran end.Done h)
    refuses (end.GoalFailed line) h = absurd (not_ran (end.GoalFailed line) h)
    refuses end.ReadFault h = absurd (not_ran end.ReadFault h)
    refuses end.WriteFault h = absurd (not_ran end.WriteFault h)
    refuses end.InputCut h = absurd (not_ran end.InputCut h)
    refuses end.TraceRefused h = absurd (not_ran end.TraceRefused h)

    -- and no other file is loaded
    module _ (old new : Option (List (List ℕ))) where
      abbrev Alone : Type 0
      Alone = (new ≡ old) ⊎ (new ≡ with_source old asked)

      first : (a : Asked) → command words ≡ Some a → new ≡ with_source old a → Alone
      first a is h = inr (subst (λ (x : Asked). new ≡ with_source old x) (same a is) h)

      by : (a : Asked) → command words ≡ Some a → (new ≡ with_source old a) ⊎ ((new ≡ with_files old a) × ((m : Meaning) × IfSome (source_of e.told a) (λ b. Means b m))) → Alone
      by a is (inl k) = first a is k
      by a is (inr k) = absurd (meaningless a k.1.0 is k.1.1)

      some : (new ≡ old) ⊎ LoadsSome words e.told old new → Alone
      some (inl h) = inl h
      some (inr h) = by h.asked h.means h.log

      pub alone : (way : End) → Runs words e way → Logs words e.told old new way → Alone
      alone end.Usage h l = inl l
      alone (end.Refused line) h l = first l.asked l.means l.log
      alone end.FileFault h l = some l
      alone end.Memory h l = some l
      alone end.NotDrained h l = absurd h
      alone end.ListenerFault h l = absurd h
      alone end.Done h l = absurd (not_ran end.Done h)
      alone (end.GoalFailed line) h l = absurd (not_ran (end.GoalFailed line) h)
      alone end.ReadFault h l = absurd (not_ran end.ReadFault h)
      alone end.WriteFault h l = absurd (not_ran end.WriteFault h)
      alone end.InputCut h l = absurd (not_ran end.InputCut h)
      alone end.TraceRefused h l = absurd (not_ran end.TraceRefused h)
