-- What an end says once what a command made is written.
use Rattle.std.proofs.Common.{◌≡◌, ◌⊎◌, ◌∙◌, ◌≤◌, ap, inl, inr, Bool, ℕ, List, refl, arith}
use Rattle.std.specs.Prelude.{Option, Some, IfSome, IfOk, Result, Ok, Err, ◌≢◌}
use Rattle.cc_base.specs.Outside.{HasRisen, IsPrefixOut, appended}
use Rattle.cluster_json.specs.File.{Meaning}
use Rattle.quiet_commands.specs.Commands.{Asked, apply, check, command, gen, plan, session, source_of, with_source}
use Rattle.quiet_commands.specs.Edges.{Edge, IsSilent, Writes}
use Rattle.quiet_commands.specs.Sessions.{DidSession, ended_by}
use Rattle.mover_rounds.specs.declared.drains.DrainEnd.{DrainEnd}
use Rattle.mover_rounds.specs.declared.drains.DrainEnd.TheVariants as drain
use Rattle.rest_session.specs.declared.session.LinkEnd.{LinkEnd}
use Rattle.rest_session.specs.declared.session.LinkEnd.TheVariants as link
use Rattle.quiet_commands.specs.Input.{Means}
use Rattle.quiet_commands.specs.Runs.{Did, IsMade, LoadsAll, LoadsSome, Logs, PerformLogs, Performs, Ran, Runs, with_files, with_more}
use Rattle.quiet_commands.specs.declared.answers.Answer.{Answer}
use Rattle.quiet_commands.specs.declared.ends.End.{End}
use Rattle.quiet_commands.specs.declared.ends.End.TheVariants as end

-- a text that a command made is out
done : (asked : Asked) (m : Meaning) (e : Edge) (text : List ℕ) (way : End) → IsMade e.told asked m text way → e.io.written_now ≡ appended e.io.written_before text → Performs asked m e way
done (plan file trace ask) m e text end.Done h w = (text, h, w)
done (plan file trace ask) m e text (end.GoalFailed line) h w = (text, h, w)
done (plan file trace ask) m e text _ h w = absurd h
done (check file trace ask) m e text end.Done h w = (text, h, w)
done (check file trace ask) m e text end.TraceRefused h w = (text, h, w)
done (check file trace ask) m e text _ h w = absurd h
done (apply file ask) m e text end.Done h w = (text, h, w)
done (apply file ask) m e text (end.GoalFailed line) h w = (text, h, w)
done (apply file ask) m e text _ h w = absurd h
done (gen seed brokers partitions file ask) m e text end.Done h w = (text, h, w)
done (gen seed brokers partitions file ask) m e text (end.GoalFailed line) h w = (text, h, w)
done (gen seed brokers partitions file ask) m e text _ h w = absurd h
done (session file review) m e text _ h w = absurd h

-- a prefix of it is out
cut : (asked : Asked) (m : Meaning) (e : Edge) (text : List ℕ) (way : End) → IsMade e.told asked m text way → HasRisen e.io.out_before e.io.out_now → IsPrefixOut e.io.written_before e.io.written_now text
    → Performs asked m e end.WriteFault
cut (plan file trace ask) m e text way h r p = (text, way, h, r, p)
cut (check file trace ask) m e text way h r p = (text, way, h, r, p)
cut (apply file ask) m e text way h r p = (text, way, h, r, p)
cut (gen seed brokers partitions file ask) m e text way h r p = (text, way, h, r, p)
cut (session file review) m e text way h r p = absurd h

-- what was made is written
pub performed : {E : Type 0} (asked : Asked) (m : Meaning) (e : Edge) (made : Result Answer E) (way : End) → IfOk made (λ a. IsMade e.told asked m a.text.items a.end)
    → Writes e.io made way → Performs asked m e way
performed asked m e (Ok a) way h (inl w) = rw w.0 (done asked m e a.text.items a.end h w.1)
performed asked m e (Ok a) way h (inr w) = rw w.0 (cut asked m e a.text.items a.end h w.1 w.2)
performed asked m e (Err f) way h w = rw w.0 (inl w.1)

-- a session was served
module _ (file : List ℕ) (review : Bool) (m : Meaning) (e : Edge) where
  served_by : (l : LinkEnd) (d : DrainEnd) → ended_by l d ≢ end.NotDrained → DidSession m review e.io (ended_by l d) → Performs (session file review) m e (ended_by l d)
  served_by link.Ended drain.Drained n h = h
  served_by link.Ended (drain.AdminFault k) n h = absurd (n refl)
  served_by link.Ended drain.Memory n h = inr h
  served_by link.Closed drain.Drained n h = h
  served_by link.Closed (drain.AdminFault k) n h = absurd (n refl)
  served_by link.Closed drain.Memory n h = inr h
  served_by link.ShutDown drain.Drained n h = h
  served_by link.ShutDown (drain.AdminFault k) n h = absurd (n refl)
  served_by link.ShutDown drain.Memory n h = inr h
  served_by link.Cut d n h = h
  served_by link.Unframed d n h = h
  served_by link.ReadFault d n h = h
  served_by link.WriteFault d n h = h
  served_by link.Memory d n h = inr h

  pub served : (way : End) → way ≢ end.NotDrained → ((way ≡ end.Memory) × IsSilent e.io) ⊎ DidSession m review e.io way → Performs (session file review) m e way
  served way n (inl h) = rw h.0 (inl h.1)
  served way n (inr h) = rw h.1 (served_by h.0.link h.0.drain (rw h.1 at n) (h.0, refl, h.2))

-- ---- a whole run

module _ (words : List (List ℕ)) (asked : Asked) (means : command words ≡ Some asked) where
  -- the files' count before a command began is none of what it did
  did_same : (a : Asked) (e : Edge) (m : Meaning) (mid : ℕ) (way : End) → Did a m (record e { files_before = mid }) way → Did a m e way
  did_same (plan file trace ask) e m mid way h = h
  did_same (check file trace ask) e m mid way h = h
  did_same (apply file ask) e m mid way h = h
  did_same (gen seed brokers partitions file ask) e m mid way h = h
  did_same (session file review) e m mid way h = h

  module _ (e : Edge) (m : Meaning) (meant : IfSome (source_of e.told asked) (λ bytes. Means bytes m)) (mid : ℕ) (later : e.files_before ≤ mid) where
    answer : (way : End) → Did asked m (record e { files_before = mid }) way → Ran words e way
    answer way h = record { asked = asked; means = means; file = m; meant = meant; answered = did_same asked e m mid way h }

    pub ran : (way : End) → Performs asked m (record e { files_before = mid }) way → Runs words e way
    ran end.Done h = answer end.Done h
    ran end.Usage h = absurd h
    ran (end.Refused line) h = absurd h
    ran (end.GoalFailed line) h = answer (end.GoalFailed line) h
    ran end.FileFault h = (record { asked = asked; means = means; has_file = h.0 }, omega (arith, h.1, later), h.2)
    ran end.ReadFault h = answer end.ReadFault h
    ran end.WriteFault h = answer end.WriteFault h
    ran end.NotDrained h = absurd h
    ran end.Memory (inl h) = inl h
    ran end.Memory (inr h) = inr (answer end.Memory h)
    ran end.InputCut h = answer end.InputCut h
    ran end.TraceRefused h = answer end.TraceRefused h
    ran end.ListenerFault h = absurd h

  -- the files that were loaded
  all_files : (a : Asked) (old : Option (List (List ℕ))) → with_more (with_source old a) a ≡ with_files old a
  all_files (plan file trace ask) old = refl
  all_files (check file trace ask) old = refl
  all_files (apply file ask) old = refl
  all_files (gen seed brokers partitions file ask) old = refl
  all_files (session file review) old = refl

  pub first_loaded : (told : List ℕ → Option (List ℕ)) (old new : Option (List (List ℕ))) → (new ≡ old) ⊎ (new ≡ with_source old asked) → (new ≡ old) ⊎ LoadsSome words told old new
  first_loaded told old new (inl h) = inl h
  first_loaded told old new (inr h) = inr (record { asked = asked; means = means; log = inl h })

  module _ (told : List ℕ → Option (List ℕ)) (m : Meaning) (meant : IfSome (source_of told asked) (λ bytes. Means bytes m)) (old mid new : Option (List (List ℕ))) (first : mid ≡ with_source old asked) where
    all_loaded : new ≡ with_more mid asked → new ≡ with_files old asked
    all_loaded h = h ∙ (ap (λ log. with_more log asked) first ∙ all_files asked old)

    all : new ≡ with_more mid asked → LoadsAll words old new
    all h = record { asked = asked; means = means; log = all_loaded h }

    some : (new ≡ mid) ⊎ (new ≡ with_more mid asked) → LoadsSome words told old new
    some (inl h) = record { asked = asked; means = means; log = inl (h ∙ first) }
    some (inr h) = record { asked = asked; means = means; log = inr (all_loaded h, (m, meant)) }

    pub logged : (way : End) → PerformLogs asked mid new way → Logs words told old new way
    logged end.Usage h = absurd h
    logged (end.Refused line) h = absurd h
    logged end.FileFault h = inr (some h)
    logged end.Memory h = inr (some h)
    logged _ h = all h
