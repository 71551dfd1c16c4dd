-- Steps, from their parts.
use Rattle.std.proofs.Common.{◌≡◌, ℕ, ◌+◌, Bool, true, false, List, [], ◌∷◌, ◌++◌, Result, Ok, Err, refl, ap, sym, ◌∙◌, subst, append-nil, append_assoc, zero-add, arith, inl, inr, ◌⊎◌}
use mathlib.Core.List.{IsPrefix}
use Rattle.cluster_gate.specs.declared.copier.ChunkCopy.{ChunkCopy}
use Rattle.core_terms.specs.Problem.{ProblemView}
use Rattle.core_terms.specs.declared.events.Event.{Event}
use Rattle.core_terms.specs.declared.events.Event.TheVariants as event
use Rattle.core_terms.specs.declared.faults.StepFault.{StepFault}
use Rattle.core_terms.specs.declared.replies.Reason.{Reason}
use Rattle.core_terms.specs.declared.replies.Reason.TheVariants as why
use Rattle.core_terms.specs.declared.replies.Reply.{Reply}
use Rattle.core_terms.specs.declared.replies.Reply.TheVariants as reply
use Rattle.exec_terms.specs.declared.replies.Given.{Given}
use Rattle.mover_rounds.specs.Asked.{Rules, Entry, Known, HasAsked, IsUnasked, reply_to}
use Rattle.mover_rounds.specs.Made.{Copies, HasEnded, HasMade, HasRisenBy, HasWorked, IsBroken, IsRoundMade, copies_of, copy_of, failed_in, failures_of}
use Rattle.mover_rounds.specs.Rounds.{IsEnd, IsJob, IsNoJob, IsPlanRound, IsWorkRound, done, look, undone}
use Rattle.mover_rounds.proofs.Rounding.{nothing_taken, work_done, work_undone}
use Rattle.mover_rounds.proofs.Working.{no_copies, risen_none}
use Rattle.mover_workers.specs.Since.{begins_itself, begins_on}
use Rattle.mover_workers.specs.Steps.{HasBehind, HasMoveStep, HasPlanStep, IsBehindIdle, IsIdleFor, IsLook, IsPlanStep, MoveStep, PlanStep, look_of}
use Rattle.mover_workers.specs.declared.steps.Step.{Step}
use Rattle.mover_workers.specs.declared.steps.Step.TheVariants.{Done, Idle, Closed}

-- what holds of what was made, weaker
pub made_weaker : (P Q : List Entry → List ChunkCopy → Type 0) (v w : Known) (k l : Copies) → ((m : List Entry) (c : List ChunkCopy) → P m c → Q m c) → HasMade P v w k l → HasMade Q v w k l
made_weaker P Q v w k l f h = record { made = h.made; copies = h.copies; own = h.own; copied = h.copied; is = f h.made h.copies h.is; failed = h.failed; rules = h.rules; longer = h.longer }

-- nothing was made
pub made_none : (P : List Entry → List ChunkCopy → Type 0) (v w : Known) (k : Copies) → w.own ≡ v.own → w.rules ≡ v.rules → IsPrefix v.seen w.seen → P [] [] → HasMade P v w k k
made_none P v w k own rules longer p = record {
  made = [];
  copies = [];
  own = own ∙ sym (append-nil v.own);
  copied = no_copies k.made;
  is = p;
  failed = risen_none k.faults k.faults (omega arith);
  rules = rules;
  longer = longer;
}

-- the entry of an event, behind what was seen and what others added
abbrev entry_of : (v : Known) (between : List Event) (e : Event) → Entry
entry_of v between e = record { before = v.seen ++ between; event = e }

seen_on : (v u : Known) (e : Event) (r : Reply) → HasAsked v u e r → IsPrefix v.seen u.seen
seen_on v u e r a = (a.between ++ e ∷ [], sym (append_assoc v.seen a.between (e ∷ [])) ∙ sym a.seen)

-- an entry, and behind it entries that name no copy
pub made_behind : (P : List Entry → List ChunkCopy → Type 0) (v u w : Known) (e : Event) (r : Reply) (k : Copies) (a : HasAsked v u e r) (m : List Entry) → failed_in e ≡ 0 → w.own ≡ u.own ++ m → failures_of m ≡ 0 → w.rules ≡ u.rules → IsPrefix u.seen w.seen
    → P (entry_of v a.between e ∷ m) [] → HasMade P v w k k
made_behind P v u w e r k a m plain own quiet rules longer p = record {
  made = entry_of v a.between e ∷ m;
  copies = [];
  own = own ∙ (ap (λ xs. xs ++ m) a.own ∙ append_assoc v.own (entry_of v a.between e ∷ []) m);
  copied = no_copies k.made;
  is = p;
  failed = subst (λ n. HasRisenBy n k.faults k.faults) (sym (ap (λ n. n + failures_of m) plain ∙ (zero-add (failures_of m) ∙ quiet))) (risen_none k.faults k.faults (omega arith));
  rules = rules ∙ a.rules;
  longer = begins_on v.seen u.seen w.seen (seen_on v u e r a) longer;
}

-- a planner that was refused, that gave back a job, and that looked
pub plan_refused : (v w : Known) (f g : StepFault) (k : Copies) → IsUnasked v w event.PlanTake f → HasPlanStep v w k (Err g)
plan_refused v w f g k u = made_none (PlanStep v.rules w.seen (Err g)) v w k u.own u.rules u.longer (inl refl, refl)

back_quiet : (r : Rules) (seen after : List Event) (t : ℕ) (p : ProblemView) (m : List Entry) → IsEnd r seen undone (reply.Job t p) after m → (copies_of m ≡ []) × (failures_of m ≡ 0)
back_quiet r seen after t p [] h = (refl, refl)
back_quiet r seen after t p (y ∷ []) h = (ap (λ x. copy_of x ++ []) h, ap (λ x. failed_in x + 0) h)
back_quiet r seen after t p (y ∷ z ∷ zs) h = absurd h

pub plan_back : (v u w : Known) (t : ℕ) (p : ProblemView) (f : StepFault) (k : Copies) → HasAsked v u event.PlanTake (reply.Job t p) → HasEnded u w (reply.Job t p) undone → HasPlanStep v w k (Err f)
plan_back v u w t p f k a e =
    let q = back_quiet u.rules w.seen u.seen t p e.made e.is in
    let after : List Event = (v.seen ++ a.between) ++ event.PlanTake ∷ [] in
    let what : Reply = v.rules.reply (v.seen ++ a.between) event.PlanTake in
    let ended : IsEnd v.rules w.seen undone what after e.made
    = subst (λ z. IsEnd z w.seen undone what after e.made) a.rules (subst (λ z. IsEnd u.rules w.seen undone z after e.made) a.replied (subst (λ z. IsEnd u.rules w.seen undone (reply.Job t p) z e.made) a.seen e.is)) in
    made_behind (PlanStep v.rules w.seen (Err f)) v u w event.PlanTake (reply.Job t p) k a e.made refl e.own q.1 e.rules e.longer
    (inr (refl, subst IsJob a.replied tt, ended), sym q.0)

look_step : (r : Rules) (seen : List Event) (x : Entry) (b : Bool) → x.event ≡ event.PlanTake → reply_to r x ≡ reply.NoJob b → IsPlanStep r seen (Ok (look_of b)) (x ∷ [])
look_step r seen x true e n = (e, n)
look_step r seen x false e n = (e, n)

pub plan_looked : (v w : Known) (b : Bool) (k : Copies) → HasAsked v w event.PlanTake (reply.NoJob b) → HasPlanStep v w k (Ok (look_of b))
plan_looked v w b k a = made_behind (PlanStep v.rules w.seen (Ok (look_of b))) v w w event.PlanTake (reply.NoJob b) k a [] refl (sym (append-nil w.own)) refl refl (begins_itself w.seen)
    (look_step v.rules w.seen (entry_of v a.between event.PlanTake) b refl (sym a.replied), refl)

-- a planner's step behind a Take that told of planning
look_round : (r : Rules) (seen : List Event) (b : Bool) (m : List Entry) → IsLook r b m → IsPlanRound r seen look m
look_round r seen b [] h = h
look_round r seen b (x ∷ []) h = (h.0, subst IsNoJob (sym h.1) tt)
look_round r seen b (x ∷ y ∷ ys) h = absurd h

pub meanwhile_done : (v w : Known) (k : Copies) (b : Bool) → HasPlanStep v w k (Ok Done) → HasBehind v w k why.Planning b (Ok Done)
meanwhile_done v w k b h = h

meanwhile_idle : (v w : Known) (k : Copies) (b : Bool) → HasPlanStep v w k (Ok Idle) → HasBehind v w k why.Planning b (Ok Idle)
meanwhile_idle v w k b h = made_weaker (PlanStep v.rules w.seen (Ok Idle)) (λ m c. IsBehindIdle v.rules w.seen why.Planning b (Ok Idle) m × (c ≡ copies_of m)) v w k k (λ m c p. (look_round v.rules w.seen false m p.0, p.1)) h

meanwhile_closed : (v w : Known) (k : Copies) (b : Bool) → HasPlanStep v w k (Ok Closed) → HasBehind v w k why.Planning b (Ok Idle)
meanwhile_closed v w k b h = made_weaker (PlanStep v.rules w.seen (Ok Closed)) (λ m c. IsBehindIdle v.rules w.seen why.Planning b (Ok Idle) m × (c ≡ copies_of m)) v w k k (λ m c p. (look_round v.rules w.seen true m p.0, p.1)) h

pub meanwhile_rests : (v w : Known) (k : Copies) (b : Bool) (step : Step) → (step ≡ Idle) ⊎ (step ≡ Closed) → HasPlanStep v w k (Ok step) → HasBehind v w k why.Planning b (Ok Idle)
meanwhile_rests v w k b step (inl is) h = meanwhile_idle v w k b (rw is at h)
meanwhile_rests v w k b step (inr is) h = meanwhile_closed v w k b (rw is at h)

pub meanwhile_broken : (v w : Known) (k : Copies) (b : Bool) (f : StepFault) → HasPlanStep v w k (Err f) → HasBehind v w k why.Planning b (Err f)
meanwhile_broken v w k b f h = h

-- nothing is behind a Take at which a mover rests or ends
pub rests_full : (v : Known) (k : Copies) (b : Bool) → HasBehind v v k why.CapsFull b (Ok Idle)
rests_full v k b = made_none (λ m c. IsBehindIdle v.rules v.seen why.CapsFull b (Ok Idle) m × (c ≡ copies_of m)) v v k refl refl (begins_itself v.seen) (refl, refl)

pub rests_leased : (v : Known) (k : Copies) (b : Bool) → HasBehind v v k why.AllLeased b (Ok Idle)
rests_leased v k b = made_none (λ m c. IsBehindIdle v.rules v.seen why.AllLeased b (Ok Idle) m × (c ≡ copies_of m)) v v k refl refl (begins_itself v.seen) (refl, refl)

pub rests_or_ends : (v : Known) (k : Copies) (b : Bool) → HasBehind v v k why.NoExecution b (Ok (look_of b))
rests_or_ends v k true = made_none (λ m c. IsBehindIdle v.rules v.seen why.NoExecution true (Ok Closed) m × (c ≡ copies_of m)) v v k refl refl (begins_itself v.seen) (refl, refl)
rests_or_ends v k false = made_none (λ m c. IsBehindIdle v.rules v.seen why.NoExecution false (Ok Idle) m × (c ≡ copies_of m)) v v k refl refl (begins_itself v.seen) (refl, refl)

-- a mover's step: work that is done, that was given back, or was refused; or none
pub move_done : (v u w : Known) (g : Given) (k l : Copies) → HasAsked v u event.Take (reply.Work g) → HasWorked u w (reply.Work g) k l done → HasMoveStep v w k l (Ok Done)
move_done v u w g k l a e = made_weaker (IsRoundMade (IsWorkRound v.rules w.seen) v.rules w.seen done) (MoveStep v.rules w.seen (Ok Done)) v w k l (λ m c p. inl p) (work_done v u w g k l a e)

pub move_back : (v u w : Known) (g : Given) (f : StepFault) (k l : Copies) → HasAsked v u event.Take (reply.Work g) → HasWorked u w (reply.Work g) k l undone → HasMoveStep v w k l (Err f)
move_back v u w g f k l a e = made_weaker (IsBroken (IsWorkRound v.rules w.seen) v.rules w.seen) (MoveStep v.rules w.seen (Err f)) v w k l (λ m c p. inl p) (work_undone v u w g k l a e)

pub move_refused : (v w : Known) (f g : StepFault) (k : Copies) → IsUnasked v w event.Take f → HasMoveStep v w k k (Err g)
move_refused v w f g k u = made_weaker (IsBroken (IsWorkRound v.rules w.seen) v.rules w.seen) (MoveStep v.rules w.seen (Err g)) v w k k (λ m c p. inl p) (nothing_taken v w event.Take f k u)

pub move_idle : (v u w : Known) (reason : Reason) (b : Bool) (k : Copies) (o : Result Step StepFault) → HasAsked v u event.Take (reply.Idle reason b) → HasBehind u w k reason b o → HasMoveStep v w k k o
move_idle v u w reason b k o a h =
    let x : Entry = entry_of v a.between event.Take in
    let p : IsIdleFor v.rules w.seen (v.rules.reply (v.seen ++ a.between) event.Take) o h.made
    = subst (λ z. IsIdleFor z w.seen (v.rules.reply (v.seen ++ a.between) event.Take) o h.made) a.rules (subst (λ z. IsIdleFor u.rules w.seen z o h.made) a.replied h.is.0) in
    record {
      made = x ∷ h.made;
      copies = h.copies;
      own = h.own ∙ (ap (λ xs. xs ++ h.made) a.own ∙ append_assoc v.own (x ∷ []) h.made);
      copied = h.copied;
      is = inr ((refl, p), h.is.1);
      failed = subst (λ n. HasRisenBy n k.faults k.faults) (sym (zero-add (failures_of h.made))) h.failed;
      rules = h.rules ∙ a.rules;
      longer = begins_on v.seen u.seen w.seen (seen_on v u event.Take (reply.Idle reason b) a) h.longer;
    }
