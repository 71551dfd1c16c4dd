-- What a step of an owned book tells of its owner.
use Rattle.std.proofs.Common.{◌≡◌, ℕ, Bool, true, List, [], ◌∷◌, ◌++◌, ap, sym, ◌∙◌, append_assoc, append-nil, arith}
use Rattle.std.specs.Prelude.{Option, Some, None, Result, Ok, Err, OnOk, OnErr, IfOk, IfErr}
use Rattle.std.specs.List.{list_any}
use Rattle.cluster_json.specs.File.{Meaning}
use Rattle.exec_terms.specs.Machine.{next_work}
use Rattle.exec_terms.specs.declared.replies.Given.{Given}
use Rattle.exec_terms.specs.declared.replies.Idle.{Idle}
use Rattle.core_terms.specs.Jobs.{plans_execution}
use Rattle.core_terms.specs.Plans.{first_waiting, reply_take_job}
use Rattle.core_terms.specs.State.{Core, Desk, Moment, moment_of}
use Rattle.core_terms.specs.Works.{take_told}
use Rattle.core_terms.specs.Step.{reply_of}
use Rattle.core_terms.specs.declared.events.Event.{Event}
use Rattle.core_terms.specs.declared.events.Event.TheVariants as event
use Rattle.core_terms.specs.declared.faults.StepFault.{StepFault}
use Rattle.core_terms.specs.declared.faults.StepFault.TheVariants.{AdminFault, Memory}
use Rattle.core_terms.specs.declared.replies.Reply.{Reply}
use Rattle.control_core.specs.Books.{BookView, IsStepFault, state_of}
use Rattle.mover_rounds.specs.Asked.{Entry, HasAsked, IsUnasked, IsAskFault, StaysUnfinished, core_rules, entries_from, gives_back}
use Rattle.mover_rounds.specs.Jobs.{Fits, FitsJob, FitsWork}
use Rattle.mover_rounds.specs.Owned.{known_by_owner}
use Rattle.mover_rounds.proofs.GivingBack.{stays_unfinished}

-- the entries of a journal that grew
pub entries_append : (front h t : List Event) → entries_from front (h ++ t) ≡ entries_from front h ++ entries_from (front ++ h) t
entries_append front [] t = ap (λ (y : List Event). entries_from y t) (sym (append-nil front))
entries_append front (x ∷ h) t =
    let first : List Entry → List Entry = λ y. record { before = front; event = x } ∷ y in
    ap first (entries_append (front ++ x ∷ []) h t ∙ ap (λ (y : List Event). entries_from (front ++ x ∷ []) h ++ entries_from y t) (append_assoc front (x ∷ []) h))

-- the replies have their forms
fits_job : (now : Moment) (d : Desk) (o : Option ℕ) → FitsJob (reply_take_job now d o)
fits_job now d None = tt
fits_job now d (Some i) = tt

fits_work : (p b : Bool) (r : Result Given Idle) → FitsWork (take_told p b r)
fits_work p b (Ok g) = tt
fits_work p b (Err why) = tt

replies_fit : (file : Meaning) (s : Core) (e : Event) → Fits e (reply_of file s e)
replies_fit file s event.PlanTake = fits_job (moment_of file s) s.desk (first_waiting s.desk)
replies_fit file s event.Take = fits_work (list_any plans_execution s.desk.tasks) s.desk.closing (next_work s.desk.exec)
replies_fit file s _ = tt

module _ {A : Type 0} (faults : A → ℕ) (b c : BookView A) (e : Event) where
  pub owner_asked : (r : Reply) → c.file ≡ b.file → c.journal ≡ b.journal ++ e ∷ [] → r ≡ reply_of b.file (state_of b) e → c.failures ≡ b.failures → HasAsked (known_by_owner b) (known_by_owner c) e r
  owner_asked r file grew is kept = record {
    between = [];
    rules = ap core_rules file;
    seen = grew ∙ ap (λ z. z ++ e ∷ []) (sym (append-nil b.journal));
    own = ap (λ z. entries_from [] z) grew ∙ (entries_append [] b.journal (e ∷ []) ∙ ap (λ (z : List Event). entries_from [] b.journal ++ record { before = z; event = e } ∷ []) (sym (append-nil b.journal)));
    replied = is ∙ ap (λ z. (core_rules b.file).reply z e) (sym (append-nil b.journal));
    blamed = kept;
  }

  told : (f : StepFault) → c.file ≡ b.file → c.journal ≡ b.journal → IsStepFault faults b e c f → IsAskFault (known_by_owner b) (known_by_owner c) e f
  told (AdminFault n) file same h = (h.0.0, h.2, omega (arith, h.3), rw (file, same) h.0.1)
  told Memory file same h = (rw (file, same) h.0, h.1)

  pub owner_unasked : (f : StepFault) → c.file ≡ b.file → c.journal ≡ b.journal → IsStepFault faults b e c f → IsUnasked (known_by_owner b) (known_by_owner c) e f
  owner_unasked f file same h = record {
    rules = ap core_rules file;
    longer = ([], append-nil b.journal ∙ sym same);
    own = ap (λ z. entries_from [] z) same;
    told = told f file same h;
  }

  pub asked_step : (r : Result Reply (StepFault × Event)) → c.file ≡ b.file → OnOk r (c.journal ≡ b.journal ++ e ∷ []) → IfOk r (λ y. y ≡ reply_of b.file (state_of b) e) → OnOk r ((c.failures ≡ b.failures) × (c.late ≡ b.late))
      → IfOk r (HasAsked (known_by_owner b) (known_by_owner c) e)
  asked_step (Ok y) file grew is k = owner_asked y file grew is k.0
  asked_step (Err y) file grew is k = tt

  pub unasked_step : (r : Result Reply (StepFault × Event)) → c.file ≡ b.file → OnErr r (c.journal ≡ b.journal) → IfErr r (λ x. IsStepFault faults b e c x.0)
      → IfErr r (λ x. IsUnasked (known_by_owner b) (known_by_owner c) e x.0)
  unasked_step (Ok y) file same x = tt
  unasked_step (Err y) file same x = owner_unasked y.0 file same x

  pub fits_step : (r : Result Reply (StepFault × Event)) → IfOk r (λ y. y ≡ reply_of b.file (state_of b) e) → IfOk r (Fits e)
  fits_step (Ok y) is = rw is (replies_fit b.file (state_of b) e)
  fits_step (Err y) is = tt

  pub stays_step : (r : Result Reply (StepFault × Event)) → c.file ≡ b.file → OnOk r (c.journal ≡ b.journal ++ e ∷ []) → OnErr r (c.journal ≡ b.journal) → gives_back e ≡ true → StaysUnfinished (known_by_owner b) (known_by_owner c)
  stays_step (Ok y) file grew same gives = λ h. rw (file, grew) (stays_unfinished b.file b.journal e gives h)
  stays_step (Err y) file grew same gives = λ h. rw (file, same) h
