-- A book after a step.
use Rattle.std.proofs.Common.{◌≡◌, ◌∙◌, ℕ, ◌+◌, ◌<◌, ◌≤◌, ◌^◌, Bool, true, false, cond, List, [], ◌∷◌, ◌++◌, length, refl, sym, ap, arith}
use Rattle.std.specs.Prelude.{Option, Some, None, IfSome, Result, Ok, Err, OnOk, is_err, fold}
use Rattle.std.proofs.lemmas.Bool.{true≢false}
use Rattle.std.proofs.lemmas.List.{length-append}
use Rattle.plan_terms.specs.Cluster.{Lists}
use Rattle.plan_terms.specs.declared.settings.Sample.{Sample}
use Rattle.cluster_json.specs.File.{Meaning}
use Rattle.metric_windows.specs.StandsFor.{StandsFor}
use Rattle.exec_terms.specs.Leases.{test_lease}
use Rattle.exec_terms.specs.Machine.{State, lists_now, next_work, task_at}
use Rattle.exec_terms.specs.Words.{union_of}
use Rattle.exec_terms.specs.declared.replies.Given.{Given}
use Rattle.exec_terms.specs.declared.replies.Idle.{Idle}
use Rattle.exec_terms.specs.declared.replies.LeaseFault.{LeaseFault}
use Rattle.exec_terms.specs.declared.task.Task.{Task}
use Rattle.exec_terms.specs.declared.work.WorkKind.TheVariants.{Commit as ForCommit, Cancel as ForCancel}
use Rattle.cluster_gate.specs.Lists.{with_list}
use Rattle.core_terms.specs.Input.{IsInput}
use Rattle.core_terms.specs.State.{Core, Desk, opening_of}
use Rattle.core_terms.specs.Step.{next}
use Rattle.core_terms.specs.History.{AreLegal, IsLegal, is_sure, kept_for, state_after}
use Rattle.core_terms.specs.Sound.{IsSound}
use Rattle.core_terms.specs.Writes.{begun, told_after, written}
use Rattle.core_terms.specs.declared.events.Event.{Event}
use Rattle.core_terms.specs.declared.events.Event.TheVariants as event
use Rattle.core_laws.proofs.Follows.{admin_follows}
use Rattle.core_laws.proofs.Given.{entries_give_one_each}
use Rattle.core_laws.proofs.Histories.{histories_are_sound}
use Rattle.core_laws.proofs.Room.{room_is_kept}
use Rattle.control_core.specs.Books.{IsBook}
use Rattle.control_core.specs.Machines.{AreWindows, IsReady, core_of}
use Rattle.control_core.specs.declared.machine.Machine.{Machine}

-- what an Ok tells
pub where_ok : {T E : Type 0} (P : Type 0) (r : Result T E) → is_err r ≡ false → OnOk r P → P
where_ok P (Ok x) e h = h
where_ok P (Err x) e h = absurd (true≢false e)

fold_more : (f : Core → Event → Core) (s : Core) (es : List Event) (e : Event) → fold f s (es ++ e ∷ []) ≡ f (fold f s es) e
fold_more f s [] e = refl
fold_more f s (x ∷ xs) e = fold_more f (f s x) xs e

-- the state after one event more
pub one_more_state : (file : Meaning) (es : List Event) (e : Event) → state_after file (es ++ e ∷ []) ≡ next file (state_after file es) e
unfolding state_after
one_more_state file es e = fold_more (next file) (opening_of file) es e

legal_more : (es : List Event) (e : Event) → AreLegal es → IsLegal e → AreLegal (es ++ e ∷ [])
legal_more [] e h l = (l, tt)
legal_more (x ∷ xs) e h l = (h.0, legal_more xs e h.1 l)

-- an admin that tells nothing tells nothing afterwards
begun_none : (s : State) (r : Result Given Idle) → begun s None r ≡ None
begun_none s (Err why) = refl
begun_none s (Ok g) = by g.starts where
  by : (b : Bool) → cond b (with_list None g.part (union_of (task_at s.tasks g.task))) None ≡ None
  by true = refl
  by false = refl

written_none : (f : Task → List ℕ) (s : State) (r : Result ℕ LeaseFault) → written f s None r ≡ None
written_none f s (Err fault) = refl
written_none f s (Ok i) = refl

told_none : (s : State) (e : Event) → told_after s e None ≡ None
told_none s event.Take = begun_none s (next_work s)
told_none s (event.Commit lease) = written_none (λ t. t.after) s (test_lease s lease ForCommit)
told_none s (event.Cancel lease) = written_none (λ t. t.before) s (test_lease s lease ForCancel)
told_none s _ = refl

told_follows : (file : Meaning) (s : Core) (e : Event) → IsInput file → IsLegal e → IsSound file s.desk → (told : Option Lists) → IfSome told (λ lists. lists ≡ lists_now s.desk.exec)
    → IfSome (told_after s.desk.exec e told) (λ lists. lists ≡ lists_now (next file s e).desk.exec)
told_follows file s e input legal sound None h = rw (told_none s.desk.exec e) tt
told_follows file s e input legal sound (Some lists) h = rw (h, admin_follows file s e input legal sound) refl

module _ (told : Option Lists) (parts faults : ℕ) (m : Machine) (journal : List Event) (room failures late : ℕ) (inv : IsBook told parts faults m journal room failures late) where
  abbrev pub now : Core
  now = state_after m.file journal

  -- the state of the machine is the journal's
  pub is_now : core_of m now.samples ≡ now
  is_now =
      ap (λ (d : Desk). let s : Core = record { desk = d; samples = now.samples; since = m.since.items } in s) inv.desk_is
      ∙ ap (λ (l : List (ℕ × ℕ)). let s : Core = record { desk = now.desk; samples = now.samples; since = l } in s) inv.since_is

  pub sound : IsSound m.file now.desk
  sound = histories_are_sound m.file journal inv.input inv.legal

  -- so it may answer
  pub ready : IsReady m
  ready =
      let given = entries_give_one_each m.file journal inv.input inv.legal in
      record {
        input = inv.input;
        windows = inv.windows;
        stands = (now.samples, inv.stands);
        sound = rw inv.desk_is sound;
        leases = rw inv.desk_is (omega (arith, given.leases, inv.short));
        tickets = rw inv.desk_is (omega (arith, given.tickets, inv.short));
      }

  -- the admin has a list for each partition of the executor
  pub installed_is : parts ≡ length m.desk.exec.base
  installed_is = inv.lists.parts_are ∙ sym ready.sound.exec.base.one_each

  -- there is room for one entry
  pub room_for_one : (e : Event) (room' : ℕ) → IsLegal e → length journal + cond (is_sure m.desk e) (kept_for m.desk) (kept_for m.desk + 2) ≤ room' → length journal < room'
  room_for_one e room' legal h =
      let kept = room_is_kept m.file now e inv.input legal sound in
      let room_now : length journal + cond (is_sure now.desk e) (kept_for now.desk) (kept_for now.desk + 2) ≤ room' = rw inv.desk_is at h in
      omega (arith, kept, room_now)

  pub stepped : (m' : Machine) (e : Event) (room' parts' faults' : ℕ) (told' : Option Lists)
      → IsLegal e → m'.file ≡ m.file → AreWindows m'
      → ((samples : List Sample) → StandsFor m.windows samples → m'.desk ≡ (next m.file (core_of m samples) e).desk)
      → ((samples : List Sample) → StandsFor m.windows samples → StandsFor m'.windows (next m.file (core_of m samples) e).samples)
      → ((samples : List Sample) → StandsFor m.windows samples → m'.since.items ≡ (next m.file (core_of m samples) e).since)
      → told' ≡ told_after m.desk.exec e told → parts' ≡ parts → faults ≤ faults'
      → length journal + cond (is_sure m.desk e) (kept_for m.desk) (kept_for m.desk + 2) ≤ room' → length (journal ++ e ∷ []) < 2 ^ 63
      → IsBook told' parts' faults' m' (journal ++ e ∷ []) room' failures late
  stepped m' e room' parts' faults' told' legal file windows desk stands since tells same later room_for short =
      let after : state_after m'.file (journal ++ e ∷ []) ≡ next m.file now e = rw file (one_more_state m.file journal e) in
      let new_desk : m'.desk ≡ (next m.file now e).desk = desk now.samples inv.stands ∙ ap (λ (s : Core). (next m.file s e).desk) is_now in
      let kept = room_is_kept m.file now e inv.input legal sound in
      let room_now : length journal + cond (is_sure now.desk e) (kept_for now.desk) (kept_for now.desk + 2) ≤ room' = rw inv.desk_is at room_for in
      record {
        input = rw file inv.input;
        windows = windows;
        legal = legal_more journal e inv.legal legal;
        desk_is = new_desk ∙ ap (λ (s : Core). s.desk) (sym after);
        stands = rw after (rw is_now at (stands now.samples inv.stands));
        since_is = since now.samples inv.stands ∙ ap (λ (s : Core). (next m.file s e).since) is_now ∙ ap (λ (s : Core). s.since) (sym after);
        short = short;
        room_is = rw (new_desk, length-append journal (e ∷ [])) (omega (arith, kept, room_now));
        lists = record {
          told_are = rw (tells, after, inv.desk_is) (told_follows m.file now e inv.input legal sound told inv.lists.told_are);
          parts_are = same ∙ inv.lists.parts_are ∙ ap (λ (f : Meaning). length f.cluster.parts) (sym file);
        };
        few = omega (arith, inv.few, later);
        late_few = inv.late_few;
      }
