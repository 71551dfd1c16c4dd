-- Rounds, from their parts.
use Rattle.std.proofs.Common.{◌≡◌, ℕ, ◌+◌, Bool, List, [], ◌∷◌, ◌++◌, Result, Ok, Err, refl, ap, sym, ◌∙◌, subst, append-nil, append_assoc, zero-add, arith, inl, inr, ◌⊎◌}
use Rattle.core_terms.specs.Problem.{ProblemView}
use Rattle.exec_terms.specs.declared.replies.Given.{Given}
use Rattle.cluster_gate.specs.declared.copier.ChunkCopy.{ChunkCopy}
use Rattle.core_terms.specs.declared.events.Event.{Event}
use Rattle.core_terms.specs.declared.events.Event.TheVariants as event
use Rattle.core_terms.specs.declared.replies.Reply.{Reply}
use Rattle.core_terms.specs.declared.replies.Reply.TheVariants as reply
use Rattle.mover_rounds.specs.Asked.{Rules, Entry, Known, HasAsked, IsUnasked, reply_to}
use Rattle.mover_rounds.specs.Rounds.{Standing, done, undone, idle, look, IsEnd, IsWork, IsJob, IsNoJob, IsWorkRound, IsPlanRound, IsRound}
use Rattle.core_terms.specs.Ends.{Ends}
use Rattle.mover_rounds.specs.Made.{Copies, copy_of, copies_of, failed_in, failures_of, HasRisenBy, HasEnded, HasWorked, IsLostCopy, LostIn, HasMade, IsRoundMade, IsBroken, IsTaken, IsMade, HasTaken, HasRound, until}
use Rattle.core_terms.specs.declared.faults.StepFault.{StepFault}
use Rattle.mover_rounds.specs.declared.round.Found.{Found}
use Rattle.mover_rounds.specs.declared.round.Found.TheVariants.{Planned, Worked, Idle}
use Rattle.mover_rounds.proofs.Prefixes.{prefix_trans, prefix_twice}
use Rattle.mover_rounds.proofs.Working.{no_copies, risen_none}

own_cons : (a b c : List Entry) (x : Entry) (m : List Entry) → b ≡ a ++ x ∷ [] → c ≡ b ++ m → c ≡ a ++ x ∷ m
own_cons a b c x m p q = q ∙ (ap (λ ys. ys ++ m) p ∙ append_assoc a (x ∷ []) m)

end_moved : (r q : Rules) (seen from to : List Event) (s : Standing) (x y : Reply) (m : List Entry) → r ≡ q → from ≡ to → x ≡ y → IsEnd r seen s x from m → IsEnd q seen s y to m
end_moved r q seen from to s x y m e f g h = subst (λ z. IsEnd z seen s y to m) e (subst (λ z. IsEnd r seen s z to m) g (subst (λ z. IsEnd r seen s x z m) f h))

lost_moved : (r q : Rules) (seen from to : List Event) (x y : Reply) (c : List ChunkCopy) → r ≡ q → from ≡ to → x ≡ y → IsLostCopy r seen from x c → IsLostCopy q seen to y c
lost_moved r q seen from to x y c e f g h = subst (λ z. IsLostCopy z seen to y c) e (subst (λ z. IsLostCopy r seen to z c) g (subst (λ z. IsLostCopy r seen z x c) f h))

-- nothing was made
pub nothing_made : (R : Standing → List Entry → Type 0) (v w : Known) (e : Event) (f : StepFault) (k : Copies) → IsUnasked v w e f → HasMade (IsBroken R v.rules w.seen) v w k k
nothing_made R v w e f k u = record {
  made = [];
  copies = [];
  own = u.own ∙ sym (append-nil v.own);
  copied = no_copies k.made;
  is = inl (refl, refl);
  failed = risen_none k.faults k.faults (omega arith);
  rules = u.rules;
  longer = u.longer;
}

-- where work was given back, its copy may be lost
lost_in : (v u w : Known) (g : Given) (a : HasAsked v u event.Take (reply.Work g)) (m : List Entry) (c : List ChunkCopy) → ((c ≡ copies_of m) ⊎ IsLostCopy u.rules (until m w.seen) u.seen (reply.Work g) c)
    → let x : Entry = record { before = v.seen ++ a.between; event = event.Take } in (c ≡ copies_of m) ⊎ LostIn v.rules w.seen (x ∷ m) c
lost_in v u w g a m c (inl h) = inl h
lost_in v u w g a m c (inr h) = inr (record {
  entry = record { before = v.seen ++ a.between; event = event.Take };
  front = [];
  back = m;
  among = refl;
  took = refl;
  lost = lost_moved u.rules v.rules (until m w.seen) u.seen ((v.seen ++ a.between) ++ event.Take ∷ []) (reply.Work g) (v.rules.reply (v.seen ++ a.between) event.Take) c a.rules a.seen a.replied h;
})

pub work_undone : (v u w : Known) (g : Given) (k l : Copies) → HasAsked v u event.Take (reply.Work g) → HasWorked u w (reply.Work g) k l undone → HasMade (IsBroken (IsWorkRound v.rules w.seen) v.rules w.seen) v w k l
work_undone v u w g k l a e = record {
  made = record { before = v.seen ++ a.between; event = event.Take } ∷ e.ended.made;
  copies = e.copies;
  own = own_cons v.own u.own w.own (record { before = v.seen ++ a.between; event = event.Take }) e.ended.made a.own e.ended.own;
  copied = e.copied;
  is = inr (inr (
    (refl, subst IsWork a.replied tt, end_moved u.rules v.rules w.seen u.seen ((v.seen ++ a.between) ++ event.Take ∷ []) undone (reply.Work g) (v.rules.reply (v.seen ++ a.between) event.Take) e.ended.made a.rules a.seen a.replied e.ended.is),
    lost_in v u w g a e.ended.made e.copies e.named,
  ));
  failed = subst (λ n. HasRisenBy n k.faults l.faults) (sym (zero-add (failures_of e.ended.made))) e.failed;
  rules = e.ended.rules ∙ a.rules;
  longer = prefix_trans v.seen u.seen w.seen (prefix_twice v.seen a.between (event.Take ∷ []) u.seen a.seen) e.ended.longer;
}

pub work_done : (v u w : Known) (g : Given) (k l : Copies) → HasAsked v u event.Take (reply.Work g) → HasWorked u w (reply.Work g) k l done → HasMade (IsRoundMade (IsWorkRound v.rules w.seen) v.rules w.seen done) v w k l
work_done v u w g k l a e = record {
  made = record { before = v.seen ++ a.between; event = event.Take } ∷ e.ended.made;
  copies = e.copies;
  own = own_cons v.own u.own w.own (record { before = v.seen ++ a.between; event = event.Take }) e.ended.made a.own e.ended.own;
  copied = e.copied;
  is = ((refl, subst IsWork a.replied tt, end_moved u.rules v.rules w.seen u.seen ((v.seen ++ a.between) ++ event.Take ∷ []) done (reply.Work g) (v.rules.reply (v.seen ++ a.between) event.Take) e.ended.made a.rules a.seen a.replied e.ended.is), e.named);
  failed = subst (λ n. HasRisenBy n k.faults l.faults) (sym (zero-add (failures_of e.ended.made))) e.failed;
  rules = e.ended.rules ∙ a.rules;
  longer = prefix_trans v.seen u.seen w.seen (prefix_twice v.seen a.between (event.Take ∷ []) u.seen a.seen) e.ended.longer;
}

-- the entries of a job name no copy, and tell of no failure
quiet_plan : (t : ℕ) (p : ProblemView) (e : Event) → Ends (reply.Job t p) e → (copy_of e ≡ []) × (failed_in e ≡ 0)
quiet_plan t p (event.Copied r) h = absurd h
quiet_plan t p (event.CopyFailed r) h = absurd h
quiet_plan t p _ h = (refl, refl)

quiet_job : (r : Rules) (seen after : List Event) (s : Standing) (t : ℕ) (p : ProblemView) (m : List Entry) → IsEnd r seen s (reply.Job t p) after m → (copies_of m ≡ []) × (failures_of m ≡ 0)
quiet_job r seen after done t p [] h = absurd h
quiet_job r seen after done t p (y ∷ []) h = let q = quiet_plan t p y.event h in (ap (λ x. x ++ []) q.0, ap (λ x. x + 0) q.1)
quiet_job r seen after done t p (y ∷ z ∷ zs) h = absurd h
quiet_job r seen after undone t p [] h = (refl, refl)
quiet_job r seen after undone t p (y ∷ []) h = (ap (λ x. copy_of x ++ []) h, ap (λ x. failed_in x + 0) h)
quiet_job r seen after undone t p (y ∷ z ∷ zs) h = absurd h
quiet_job r seen after idle t p m h = absurd h
quiet_job r seen after look t p m h = absurd h

pub job_done : (v u w : Known) (t : ℕ) (p : ProblemView) (k : Copies) → HasAsked v u event.PlanTake (reply.Job t p) → HasEnded u w (reply.Job t p) done → HasMade (IsRoundMade (IsPlanRound v.rules w.seen) v.rules w.seen done) v w k k
job_done v u w t p k a e =
    let q = quiet_job u.rules w.seen u.seen done t p e.made e.is in
    record {
      made = record { before = v.seen ++ a.between; event = event.PlanTake } ∷ e.made;
      copies = [];
      own = own_cons v.own u.own w.own (record { before = v.seen ++ a.between; event = event.PlanTake }) e.made a.own e.own;
      copied = no_copies k.made;
      is = ((refl, subst IsJob a.replied tt, end_moved u.rules v.rules w.seen u.seen ((v.seen ++ a.between) ++ event.PlanTake ∷ []) done (reply.Job t p) (v.rules.reply (v.seen ++ a.between) event.PlanTake) e.made a.rules a.seen a.replied e.is), sym q.0);
      failed = subst (λ n. HasRisenBy n k.faults k.faults) (sym (zero-add (failures_of e.made) ∙ q.1)) (risen_none k.faults k.faults (omega arith));
      rules = e.rules ∙ a.rules;
      longer = prefix_trans v.seen u.seen w.seen (prefix_twice v.seen a.between (event.PlanTake ∷ []) u.seen a.seen) e.longer;
    }

pub job_undone : (v u w : Known) (t : ℕ) (p : ProblemView) (k : Copies) → HasAsked v u event.PlanTake (reply.Job t p) → HasEnded u w (reply.Job t p) undone → HasMade (IsBroken (IsRound v.rules w.seen) v.rules w.seen) v w k k
job_undone v u w t p k a e =
    let q = quiet_job u.rules w.seen u.seen undone t p e.made e.is in
    record {
      made = record { before = v.seen ++ a.between; event = event.PlanTake } ∷ e.made;
      copies = [];
      own = own_cons v.own u.own w.own (record { before = v.seen ++ a.between; event = event.PlanTake }) e.made a.own e.own;
      copied = no_copies k.made;
      is = inr (inr (inl (refl, subst IsJob a.replied tt, end_moved u.rules v.rules w.seen u.seen ((v.seen ++ a.between) ++ event.PlanTake ∷ []) undone (reply.Job t p) (v.rules.reply (v.seen ++ a.between) event.PlanTake) e.made a.rules a.seen a.replied e.is), inl (sym q.0)));
      failed = subst (λ n. HasRisenBy n k.faults k.faults) (sym (zero-add (failures_of e.made) ∙ q.1)) (risen_none k.faults k.faults (omega arith));
      rules = e.rules ∙ a.rules;
      longer = prefix_trans v.seen u.seen w.seen (prefix_twice v.seen a.between (event.PlanTake ∷ []) u.seen a.seen) e.longer;
    }

-- a mover's round behind a look
lost_behind : (r : Rules) (seen : List Event) (x : Entry) (m : List Entry) (c : List ChunkCopy) → copy_of x.event ≡ [] → ((c ≡ copies_of m) ⊎ LostIn r seen m c) → (c ≡ copies_of (x ∷ m)) ⊎ LostIn r seen (x ∷ m) c
lost_behind r seen x m c none (inl h) = inl (h ∙ sym (ap (λ y. y ++ copies_of m) none))
lost_behind r seen x m c none (inr h) = inr (record { entry = h.entry; front = x ∷ h.front; back = h.back; among = ap (λ y. x ∷ y) h.among; took = h.took; lost = h.lost })

no_mover_look : (r : Rules) (seen : List Event) (m : List Entry) → IsWorkRound r seen look m → ⊥
no_mover_look r seen [] h = h
no_mover_look r seen (x ∷ xs) h = h.2

behind : (r : Rules) (seen : List Event) (x : Entry) → x.event ≡ event.PlanTake → IsNoJob (reply_to r x) → (o : Result Found StepFault) (m : List Entry) (c : List ChunkCopy) → IsTaken r seen o m c → IsMade r seen o (x ∷ m) c
behind r seen x e n (Ok Planned) m c h = absurd h
behind r seen x e n (Ok Worked) m c h = (((e, n), h.0), h.1 ∙ sym (ap (λ y. copy_of y ++ copies_of m) e))
behind r seen x e n (Ok (Idle why closing)) m c h = (((e, n), h.0), h.1 ∙ sym (ap (λ y. copy_of y ++ copies_of m) e))
behind r seen x e n (Err f) m c (inl h) = inr (inl (subst (λ y. IsRound r seen look (x ∷ y)) (sym h.0) (inl (e, n)), h.1 ∙ (sym (ap (λ y. copy_of y ++ []) e) ∙ ap (λ y. copy_of x.event ++ copies_of y) (sym h.0))))
behind r seen x e n (Err f) m c (inr (inl h)) = absurd (no_mover_look r seen m h.0)
behind r seen x e n (Err f) m c (inr (inr h)) = inr (inr (inr ((e, n), h.0), lost_behind r seen x m c (ap copy_of e) h.1))

pub round_behind : (v u w : Known) (b : Bool) (k l : Copies) (o : Result Found StepFault) → HasAsked v u event.PlanTake (reply.NoJob b) → HasTaken u w k l o → HasRound v w k l o
round_behind v u w b k l o a t = record {
  made = record { before = v.seen ++ a.between; event = event.PlanTake } ∷ t.made;
  copies = t.copies;
  own = own_cons v.own u.own w.own (record { before = v.seen ++ a.between; event = event.PlanTake }) t.made a.own t.own;
  copied = t.copied;
  is = behind v.rules w.seen (record { before = v.seen ++ a.between; event = event.PlanTake }) refl (subst IsNoJob a.replied tt) o t.made t.copies (subst (λ r. IsTaken r w.seen o t.made t.copies) a.rules t.is);
  failed = subst (λ n. HasRisenBy n k.faults l.faults) (sym (zero-add (failures_of t.made))) t.failed;
  rules = t.rules ∙ a.rules;
  longer = prefix_trans v.seen u.seen w.seen (prefix_twice v.seen a.between (event.PlanTake ∷ []) u.seen a.seen) t.longer;
}

pub nothing_taken : (v w : Known) (e : Event) (f : StepFault) (k : Copies) → IsUnasked v w e f → HasMade (IsBroken (IsWorkRound v.rules w.seen) v.rules w.seen) v w k k
nothing_taken v w e f k u = nothing_made (IsWorkRound v.rules w.seen) v w e f k u

pub nothing_round : (v w : Known) (e : Event) (f : StepFault) (k : Copies) → IsUnasked v w e f → HasMade (IsBroken (IsRound v.rules w.seen) v.rules w.seen) v w k k
nothing_round v w e f k u = nothing_made (IsRound v.rules w.seen) v w e f k u
