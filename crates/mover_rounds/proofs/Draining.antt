-- What a round leaves to the owner of a book.
use Rattle.std.proofs.Common.{◌≡◌, ℕ, Bool, true, List, [], ◌∷◌, ◌++◌, arith, refl, ap, sym, ◌∙◌, Ok}
use Rattle.cluster_json.specs.File.{Meaning}
use Rattle.exec_terms.specs.declared.replies.Given.{Given}
use Rattle.core_terms.specs.Ends.{Ends, Works}
use Rattle.core_terms.specs.Input.{IsInput}
use Rattle.core_terms.specs.Problem.{ProblemView}
use Rattle.core_terms.specs.State.{Core, Desk}
use Rattle.core_terms.specs.Step.{reply_of, next}
use Rattle.core_terms.specs.History.{AreLegal, is_refusal, state_after}
use Rattle.core_terms.specs.Sound.{IsSound}
use Rattle.core_terms.specs.declared.events.Event.{Event}
use Rattle.core_terms.specs.declared.events.Event.TheVariants as event
use Rattle.core_terms.specs.declared.replies.Reason.{Reason}
use Rattle.core_terms.specs.declared.replies.Reply.{Reply}
use Rattle.core_terms.specs.declared.replies.Reply.TheVariants as reply
use Rattle.core_laws.specs.Alone.{IdleIsDone, IsDone, IsLess, IsPlanned, IsQuiet, PlannedIsLess, WorkedIsLess, is_idle, is_no_job}
use Rattle.core_laws.specs.Events.{RefusalsKeepState}
use Rattle.core_laws.specs.Laws.{HistoriesAreSound}
use Rattle.control_core.specs.Books.{BookView, state_of}
use Rattle.mover_rounds.specs.Asked.{Entry, core_rules, entries_from}
use Rattle.mover_rounds.specs.Rounds.{IsIdle, IsJob, IsLookedRound, IsNoJob, IsPlanRound, IsWork, done, idle}
use Rattle.mover_rounds.specs.Made.{Copies, HasRound}
use Rattle.mover_rounds.specs.Owned.{known_by_owner}
use Rattle.mover_rounds.specs.declared.round.Found.TheVariants.{Planned, Worked, Idle}
use Rattle.mover_rounds.proofs.GivingBack.{after_all}
use Rattle.mover_rounds.proofs.Owning.{entries_append}

pub cancel : {X : Type 0} (xs ys zs : List X) → xs ++ ys ≡ xs ++ zs → ys ≡ zs
cancel [] ys zs e = e
cancel (x ∷ xs) ys zs e = cancel xs ys zs cc

-- the entries that were added are those of the events that were
pub made_is : (j k t : List Event) (made : List Entry) → j ++ t ≡ k → entries_from [] k ≡ entries_from [] j ++ made → made ≡ entries_from j t
made_is j k t made grew own = cancel (entries_from [] j) made (entries_from j t) (sym own ∙ (ap (λ z. entries_from [] z) (sym grew) ∙ entries_append [] j t))

no_job_refuses : (r : Reply) → IsNoJob r → (is_refusal r ≡ true) × (is_no_job r ≡ true)
no_job_refuses (reply.NoJob closing) h = (refl, refl)
no_job_refuses _ h = absurd h

idle_refuses : (r : Reply) → IsIdle r → (is_refusal r ≡ true) × (is_idle r ≡ true)
idle_refuses (reply.Idle why closing) h = (refl, refl)
idle_refuses _ h = absurd h

work_of : (r : Reply) → IsWork r → (g : Given) × (r ≡ reply.Work g)
work_of (reply.Work g) h = (g, refl)
work_of _ h = absurd h

job_of : (r : Reply) → IsJob r → (t : ℕ) × ((p : ProblemView) × (r ≡ reply.Job t p))
job_of (reply.Job t p) h = (t, (p, refl))
job_of _ h = absurd h

module _ (file : Meaning) (input : IsInput file) (refusals : RefusalsKeepState) where
  -- a look leaves the state as it was
  looked : (s : Core) (e : Event) → e ≡ event.PlanTake → IsNoJob (reply_of file s e) → (next file s e ≡ s) × (is_no_job (reply_of file s event.PlanTake) ≡ true)
  looked s e is n = (refusals file s e (no_job_refuses (reply_of file s e) n).0, rw is at (no_job_refuses (reply_of file s e) n).1)

  module _ (s : Core) (sound : IsSound file s.desk) where
    worked_by : WorkedIsLess → (u : Core) (e d : Event) → u ≡ s → e ≡ event.Take → IsWork (reply_of file u e) → Ends (reply_of file u e) d → IsLess s.desk (next file (next file u e) d).desk
    worked_by law u e d same is w ends =
        let g = work_of (reply_of file s event.Take) (rw (same, is) at w) in
        let ends_too : Works g.0 d = rw (same, is, g.1) at ends in
        rw (same, is) (law file s g.0 d input sound g.1 ends_too)

    planned_by : PlannedIsLess → (e d : Event) → e ≡ event.PlanTake → IsJob (reply_of file s e) → Ends (reply_of file s e) d → IsPlanned s.desk (next file (next file s e) d).desk
    planned_by law e d is w ends =
        let p = job_of (reply_of file s event.PlanTake) (rw is at w) in
        let ends_too : Ends (reply.Job p.0 p.1.0) d = rw (is, p.1.1) at ends in
        rw is (law file s p.0 p.1.0 d input sound p.1.1 ends_too)

  module _ (j : List Event) (sound : IsSound file (state_after file j).desk) where
    one : (e : Event) → state_after file (j ++ e ∷ []) ≡ next file (state_after file j) e
    one e = after_all file j (e ∷ [])

    worked : WorkedIsLess → (seen t : List Event) → IsLookedRound (core_rules file) seen done (entries_from j t) → IsLess (state_after file j).desk (state_after file (j ++ t)).desk
    worked law seen [] h = absurd h
    worked law seen (e ∷ []) h = absurd h.1
    worked law seen (e ∷ d ∷ []) h = absurd h.1.2
    worked law seen (e ∷ d ∷ f ∷ []) h =
        let same : state_after file (j ++ e ∷ []) ≡ state_after file j = one e ∙ (looked (state_after file j) e h.0.0 h.0.1).0 in
        rw (after_all file j (e ∷ d ∷ f ∷ []), ← one e) (worked_by (state_after file j) sound law (state_after file (j ++ e ∷ [])) d f same h.1.0 h.1.1 h.1.2)
    worked law seen (e ∷ d ∷ f ∷ c ∷ es) h = absurd h.1.2

    planned : PlannedIsLess → (seen t : List Event) → IsPlanRound (core_rules file) seen done (entries_from j t) → IsPlanned (state_after file j).desk (state_after file (j ++ t)).desk
    planned law seen [] h = absurd h
    planned law seen (e ∷ []) h = absurd h.2
    planned law seen (e ∷ d ∷ []) h = rw (after_all file j (e ∷ d ∷ [])) (planned_by (state_after file j) sound law e d h.0 h.1 h.2)
    planned law seen (e ∷ d ∷ f ∷ es) h = absurd h.2

    idled : IdleIsDone → (seen t : List Event) → IsQuiet (state_after file j).desk → IsLookedRound (core_rules file) seen idle (entries_from j t) → IsDone (state_after file (j ++ t)).desk
    idled law seen [] q h = absurd h
    idled law seen (e ∷ []) q h = absurd h.1
    idled law seen (e ∷ d ∷ []) q h =
        let look = looked (state_after file j) e h.0.0 h.0.1 in
        let same : state_after file (j ++ e ∷ []) ≡ state_after file j = one e ∙ look.0 in
        let rest = idle_refuses (reply_of file (state_after file j) event.Take) (rw (same, h.1.0) at h.1.1) in
        let still : next file (state_after file j) event.Take ≡ state_after file j = refusals file (state_after file j) event.Take rest.0 in
        let stays : state_after file (j ++ e ∷ d ∷ []) ≡ state_after file j = after_all file j (e ∷ d ∷ []) ∙ (ap (λ u. next file u d) look.0 ∙ (ap (λ x. next file (state_after file j) x) h.1.0 ∙ still)) in
        rw stays (law file (state_after file j) sound q look.1 rest.1)
    idled law seen (e ∷ d ∷ f ∷ es) q h = absurd h.1.2

-- nothing is out behind a round, where nothing was before it
pub quiet_worked : (d u : Desk) → IsLess d u → IsQuiet d → IsQuiet u
quiet_worked d u h q = record { leases = omega (arith, h.leases, q.leases); tickets = omega (arith, h.tickets, q.tickets) }

pub quiet_planned : (d u : Desk) → IsPlanned d u → IsQuiet d → IsQuiet u
quiet_planned d u h q = record { leases = omega (arith, h.leases, q.leases); tickets = omega (arith, h.tickets, q.tickets) }

-- so in the words of a book
module _ {A : Type 0} (b c : BookView A) (k l : Copies) (input : IsInput b.file) (legal : AreLegal b.journal) (same : c.file ≡ b.file) (histories : HistoriesAreSound) (refusals : RefusalsKeepState) where
  sound : IsSound b.file (state_of b).desk
  sound = histories b.file b.journal input legal

  pub round_worked : WorkedIsLess → HasRound (known_by_owner b) (known_by_owner c) k l (Ok Worked) → IsLess (state_of b).desk (state_of c).desk
  round_worked law h =
      let made = made_is b.journal c.journal h.longer.0 h.made h.longer.1 h.own in
      rw (same, ← h.longer.1) (worked b.file input refusals b.journal sound law c.journal h.longer.0 (rw made at h.is.0))

  pub round_planned : PlannedIsLess → HasRound (known_by_owner b) (known_by_owner c) k l (Ok Planned) → IsPlanned (state_of b).desk (state_of c).desk
  round_planned law h =
      let made = made_is b.journal c.journal h.longer.0 h.made h.longer.1 h.own in
      rw (same, ← h.longer.1) (planned b.file input refusals b.journal sound law c.journal h.longer.0 (rw made at h.is.0))

  pub round_idle : IdleIsDone → (why : Reason) (closing : Bool) → IsQuiet (state_of b).desk → HasRound (known_by_owner b) (known_by_owner c) k l (Ok (Idle why closing)) → IsDone (state_of c).desk
  round_idle law why closing quiet h =
      let made = made_is b.journal c.journal h.longer.0 h.made h.longer.1 h.own in
      rw (same, ← h.longer.1) (idled b.file input refusals b.journal sound law c.journal h.longer.0 quiet (rw made at h.is.0))
