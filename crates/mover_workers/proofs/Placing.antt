-- What a call of a turn tells of its caller.
use Rattle.std.proofs.Common.{◌≡◌, ℕ, zero, suc, ◌<◌, Bool, List, [], ◌∷◌, ◌++◌, length, take, refl, ap, sym, ◌∙◌, subst, append_assoc, append-nil, arith, length-append}
use Rattle.std.specs.Prelude.{Option, Some, None, Result, Ok, Err, IfOk, IfErr}
use Rattle.std.specs.List.{list_any}
use Rattle.std.proofs.lemmas.Option.{slice_get_within}
use Rattle.std.proofs.lemmas.List.{take-append-le, map-append}
use Rattle.std.proofs.Math.Seq.{take-append_seam}
use mathlib.Core.List.{IsPrefix}
use Rattle.cluster_json.specs.File.{Meaning}
use Rattle.exec_terms.specs.Machine.{next_work}
use Rattle.exec_terms.specs.declared.replies.Given.{Given}
use Rattle.exec_terms.specs.declared.replies.Idle.{Idle}
use Rattle.core_terms.specs.Faults.{IsWant, blame_of}
use Rattle.core_terms.specs.History.{is_outward, is_sure_after, reply_after, state_after}
use Rattle.core_terms.specs.Jobs.{plans_execution}
use Rattle.core_terms.specs.Plans.{first_waiting, reply_take_job}
use Rattle.core_terms.specs.State.{Core, Desk, Moment, moment_of}
use Rattle.core_terms.specs.Step.{reply_of}
use Rattle.core_terms.specs.Works.{take_told}
use Rattle.core_terms.specs.declared.events.Event.{Event}
use Rattle.core_terms.specs.declared.events.Event.TheVariants as event
use Rattle.core_terms.specs.declared.faults.StepFault.{StepFault}
use Rattle.core_terms.specs.declared.faults.StepFault.TheVariants.{AdminFault, Memory}
use Rattle.core_terms.specs.declared.replies.Reply.{Reply}
use Rattle.mover_rounds.specs.Asked.{Entry, Known, HasAsked, IsUnasked, IsAskFault, entries_of}
use Rattle.mover_rounds.specs.Jobs.{Fits, FitsJob, FitsWork}
use Rattle.turn_book.specs.Known.{Made, Known as PassView, HasActed, HasLooked, IsRefused}
use Rattle.turn_book.specs.Rule.{ArePlaced}
use Rattle.control_core.specs.Books.{BookView}
use Rattle.mover_workers.specs.Callers.{Belongs, CallerView, HasGrown, IsSince, known_by_caller, known_by_pass}
use Rattle.mover_workers.specs.Steps.{HasRested}

-- the replies have their forms
fits_job : (now : Moment) (d : Desk) (o : Option ℕ) → FitsJob (reply_take_job now d o)
fits_job now d None = tt
fits_job now d (Some i) = tt

fits_work : (p b : Bool) (r : Result Given Idle) → FitsWork (take_told p b r)
fits_work p b (Ok g) = tt
fits_work p b (Err why) = tt

replies_fit : (file : Meaning) (s : Core) (e : Event) → Fits e (reply_of file s e)
replies_fit file s event.PlanTake = fits_job (moment_of file s) s.desk (first_waiting s.desk)
replies_fit file s event.Take = fits_work (list_any plans_execution s.desk.tasks) s.desk.closing (next_work s.desk.exec)
replies_fit file s _ = tt

placed_behind : (h : List Event) (x : ℕ × Event) (xs : List (ℕ × Event)) → ArePlaced h (x ∷ xs) → ArePlaced h xs
placed_behind h x xs p k y e = p (suc k) y e

-- own entries stay as they are when more is seen
stable : (h t g : List Event) (mine : List (ℕ × Event)) → h ++ t ≡ g → ArePlaced h mine → entries_of g mine ≡ entries_of h mine
stable h t g [] e p = refl
stable h t g (x ∷ xs) e p =
    let same : take x.0 g ≡ take x.0 h = ap (λ y. take x.0 y) (sym e) ∙ take-append-le x.0 h t (let within = slice_get_within h x.0 x.1 (p 0 x refl) in omega (arith, within)) in
    let first : Entry → List Entry = λ y. y ∷ entries_of g xs in
    ap (λ (y : List Event). first (record { before = y; event = x.1 })) same ∙ ap (λ (y : List Entry). record { before = take x.0 h; event = x.1 } ∷ y) (stable h t g xs e (placed_behind h x xs p))

-- nothing was added, and more may have been seen
grown_by : {O E : Type 0} (v w : PassView O E) → IsPrefix v.seen w.seen → w.mine ≡ v.mine → w.parts ≡ v.parts → HasGrown v w
grown_by v w longer mine parts = record {
  seen = longer;
  parts = parts;
  added = [];
  mine = mine ∙ sym (append-nil v.mine);
  rise = omega (arith, sym (ap length longer.1) ∙ length-append v.seen longer.0);
}

-- an event was taken, or refused
module _ {O E R F : Type 0} (reply_of : O → List E → E → R) (blame : F → ℕ) (want : F → Type 0) (sure : O → List E → E → Bool) (outward : E → Bool) (o : O) (v w : PassView O E) (e : E) where
  grown_acted : (r : R) → HasActed reply_of o v w e r → HasGrown v w
  grown_acted r a = record {
    seen = (a.between ++ e ∷ [], sym (append_assoc v.seen a.between (e ∷ [])) ∙ sym a.seen);
    parts = a.parts;
    added = (length (v.seen ++ a.between), e) ∷ [];
    mine = a.mine;
    rise = (
      omega (arith, length-append v.seen a.between),
      omega (arith, ap length a.seen, length-append (v.seen ++ a.between) (e ∷ [])),
    );
  }

  pub grown_step : (r : Result R (F × E)) → IfOk r (HasActed reply_of o v w e) → IfErr r (IsRefused blame want sure outward o v w e) → HasGrown v w
  grown_step (Ok y) a b = grown_acted y a
  grown_step (Err y) a b = grown_by v w b.longer b.mine b.parts

module _ (file : Meaning) (v w : PassView Meaning Event) (e : Event) (placed : ArePlaced v.seen v.mine) where
  pub has_asked : (r : Reply) → HasActed reply_after file v w e r → HasAsked (known_by_pass file v) (known_by_pass file w) e r
  has_asked r a =
      let f : ℕ × Event → Entry = λ x. record { before = take x.0 w.seen; event = x.1 } in
      let n : ℕ = length (v.seen ++ a.between) in
      let whole : v.seen ++ (a.between ++ e ∷ []) ≡ w.seen = sym (append_assoc v.seen a.between (e ∷ [])) ∙ sym a.seen in
      let seam : take n w.seen ≡ v.seen ++ a.between = ap (λ y. take n y) a.seen ∙ take-append_seam (v.seen ++ a.between) (e ∷ []) in
      record {
        between = a.between;
        rules = refl;
        seen = a.seen;
        own = ap (λ m. entries_of w.seen m) a.mine ∙ (map-append f v.mine ((n, e) ∷ []) ∙ (ap (λ (y : List Entry). y ++ record { before = take n w.seen; event = e } ∷ []) (stable v.seen (a.between ++ e ∷ []) w.seen v.mine whole placed)
            ∙ ap (λ (y : List Event). entries_of v.seen v.mine ++ record { before = y; event = e } ∷ []) seam));
        replied = a.replied;
        blamed = a.last;
      }

  pub fits_acted : (r : Reply) → HasActed reply_after file v w e r → Fits e r
  fits_acted r a = rw a.replied (replies_fit file (state_after file (v.seen ++ a.between)) e)

  -- the fault, in the words of an actor
  told : (f : StepFault) (back : Event) → IsRefused blame_of IsWant is_sure_after is_outward file v w e (f, back) → IsAskFault (known_by_pass file v) (known_by_pass file w) e f
  told Memory back r = (r.unsure refl, r.kept refl)
  told (AdminFault zero) back r = absurd (r.want.0 refl)
  told (AdminFault (suc n)) back r = let pos : 0 < suc n = omega arith in (r.outward_is pos, sym (r.last pos), r.rose pos, refl)

  pub has_unasked : (f : StepFault) (back : Event) → IsRefused blame_of IsWant is_sure_after is_outward file v w e (f, back) → IsUnasked (known_by_pass file v) (known_by_pass file w) e f
  has_unasked f back r = record {
    rules = refl;
    longer = r.longer;
    own = ap (λ m. entries_of w.seen m) r.mine ∙ stable v.seen r.longer.0 w.seen v.mine r.longer.1 placed;
    told = told f back r;
  }

  -- the same of what the call answered
  pub asked_act : (r : Result Reply (StepFault × Event)) → IfOk r (HasActed reply_after file v w e) → IfOk r (HasAsked (known_by_pass file v) (known_by_pass file w) e)
  asked_act (Ok y) a = has_asked y a
  asked_act (Err y) a = tt

  pub fits_act : (r : Result Reply (StepFault × Event)) → IfOk r (HasActed reply_after file v w e) → IfOk r (Fits e)
  fits_act (Ok y) a = fits_acted y a
  fits_act (Err y) a = tt

  pub unasked_act : (r : Result Reply (StepFault × Event)) → IfErr r (IsRefused blame_of IsWant is_sure_after is_outward file v w e) → IfErr r (λ x. IsUnasked (known_by_pass file v) (known_by_pass file w) e x.0)
  unasked_act (Ok y) a = tt
  unasked_act (Err y) a = has_unasked y.0 y.1 a

  pub back_act : (r : Result Reply (StepFault × Event)) → IfErr r (IsRefused blame_of IsWant is_sure_after is_outward file v w e) → IfErr r (λ x. x.1 ≡ e)
  back_act (Ok y) a = tt
  back_act (Err y) a = a.returned

  pub grown_act : (r : Result Reply (StepFault × Event)) → IfOk r (HasActed reply_after file v w e) → IfErr r (IsRefused blame_of IsWant is_sure_after is_outward file v w e) → HasGrown v w
  grown_act = grown_step reply_after blame_of IsWant is_sure_after is_outward file v w e

-- a rest
pub grown_looked : {O E : Type 0} (v w : PassView O E) → HasLooked v w → HasGrown v w
grown_looked v w h = grown_by v w h.longer h.mine h.parts

pub rested_looked : (file : Meaning) (v w : PassView Meaning Event) → ArePlaced v.seen v.mine → HasLooked v w → HasRested (known_by_pass file v) (known_by_pass file w)
rested_looked file v w placed h = record {
  rules = refl;
  longer = h.longer;
  own = ap (λ m. entries_of w.seen m) h.mine ∙ stable v.seen h.longer.0 w.seen v.mine h.longer.1 placed;
  blamed = h.last;
}

-- what holds of a caller before and after a while holds of its pass
pub by_pass : {A : Type 0} (P : Known → Known → Type 0) (turn : Made (BookView A)) (b c : CallerView A) (pass after : PassView Meaning Event) → b.turn ≡ turn → b.pass ≡ pass → IsSince b c → after ≡ c.pass → P (known_by_caller b) (known_by_caller c)
    → P (known_by_pass turn.start.file pass) (known_by_pass turn.start.file after)
by_pass {A} P turn b c pass after t p s a h =
    let u : c.turn ≡ turn = s.turn ∙ t in
    subst (λ z. P (known_by_pass turn.start.file pass) (known_by_pass turn.start.file z)) (sym a)
    (subst (λ (z : Made (BookView A)). P (known_by_pass turn.start.file pass) (known_by_pass z.start.file c.pass)) u
    (subst (λ z. P (known_by_pass turn.start.file z) (known_by_caller c)) p
    (subst (λ (z : Made (BookView A)). P (known_by_pass z.start.file b.pass) (known_by_caller c)) t h)))

pub grown_by_pass : {A : Type 0} (b c : CallerView A) (pass after : PassView Meaning Event) → b.pass ≡ pass → IsSince b c → after ≡ c.pass → HasGrown pass after
grown_by_pass b c pass after p s a = subst (λ z. HasGrown z after) p (subst (λ z. HasGrown b.pass z) (sym a) s.grown)

pub own_by_pass : {A : Type 0} (turn : Made (BookView A)) (b c : CallerView A) (after : PassView Meaning Event) → b.turn ≡ turn → IsSince b c → Belongs c.turn after → Belongs turn after
own_by_pass turn b c after t s o = subst (λ z. Belongs z after) (s.turn ∙ t) o
