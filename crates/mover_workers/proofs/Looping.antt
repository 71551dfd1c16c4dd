-- Steps of a loop, one after another.
use Rattle.std.proofs.Common.{◌≡◌, Bool, true, false, List, [], ◌∷◌, ◌++◌, Result, Ok, refl, ap, sym, ◌∙◌, subst, append-nil, append_assoc, inl, inr}
use Rattle.std.specs.List.{AllByRecursion}
use Rattle.cluster_gate.specs.declared.copier.ChunkCopy.{ChunkCopy}
use Rattle.core_terms.specs.declared.events.Event.{Event}
use Rattle.core_terms.specs.declared.faults.StepFault.{StepFault}
use Rattle.core_terms.specs.declared.replies.Reason.{Reason}
use Rattle.core_terms.specs.declared.replies.Reason.TheVariants as why
use Rattle.core_terms.specs.declared.replies.Reply.{Reply}
use Rattle.core_terms.specs.declared.replies.Reply.TheVariants as reply
use Rattle.mover_rounds.specs.Asked.{Rules, Entry, Known, reply_to, through}
use Rattle.mover_rounds.specs.Made.{Copies, HasMade, copies_of, joined}
use Rattle.mover_rounds.specs.Rounds.{IsEnd, IsPlanRound, IsWorkRound, done, look}
use Rattle.mover_rounds.proofs.Pumping.{copies_append, made_both}
use Rattle.mover_workers.specs.Loops.{AreUnits, AreUnitsThen, IsMoveUnit, IsPlanUnit}
use Rattle.mover_workers.specs.Since.{begins_itself, begins_on}
use Rattle.mover_workers.specs.Steps.{HasMoveStep, HasPlanStep, HasRested, IsBehindIdle, IsIdleFor, IsIdleStep, MoveStep, PlanStep}
use Rattle.mover_workers.specs.declared.steps.Step.{Step}
use Rattle.mover_workers.specs.declared.steps.Step.TheVariants.{Done, Idle}
use Rattle.mover_workers.proofs.Stepping.{made_none}

-- of what is done it doesn't matter how far the actor has seen
end_later : (r : Rules) (s t : List Event) (what : Reply) (after : List Event) (m : List Entry) → IsEnd r s done what after m → IsEnd r t done what after m
end_later r s t what after [] h = h
end_later r s t what after (y ∷ []) h = h
end_later r s t what after (y ∷ z ∷ zs) h = h

plan_later : (r : Rules) (s t : List Event) (m : List Entry) → IsPlanRound r s done m → IsPlanRound r t done m
plan_later r s t [] h = h
plan_later r s t (x ∷ xs) h = (h.0, h.1, end_later r s t (reply_to r x) (through x) xs h.2)

work_later : (r : Rules) (s t : List Event) (m : List Entry) → IsWorkRound r s done m → IsWorkRound r t done m
work_later r s t [] h = h
work_later r s t (x ∷ xs) h = (h.0, h.1, end_later r s t (reply_to r x) (through x) xs h.2)

look_later : (r : Rules) (s t : List Event) (m : List Entry) → IsPlanRound r s look m → IsPlanRound r t look m
look_later r s t [] h = h
look_later r s t (x ∷ []) h = h
look_later r s t (x ∷ y ∷ xs) h = absurd h.2

pub plan_unit_later : (r : Rules) (s t : List Event) (m : List Entry) → IsPlanUnit r s m → IsPlanUnit r t m
plan_unit_later r s t m (inl h) = inl (plan_later r s t m h)
plan_unit_later r s t m (inr h) = inr h

behind_done : (r : Rules) (s t : List Event) (reason : Reason) (b : Bool) (m : List Entry) → IsBehindIdle r s reason b (Ok Done) m → IsBehindIdle r t reason b (Ok Done) m
behind_done r s t why.Planning b m h = plan_later r s t m h
behind_done r s t why.NoExecution true m h = h
behind_done r s t why.NoExecution false m h = h
behind_done r s t why.CapsFull b m h = h
behind_done r s t why.AllLeased b m h = h

behind_idle : (r : Rules) (s t : List Event) (reason : Reason) (b : Bool) (m : List Entry) → IsBehindIdle r s reason b (Ok Idle) m → IsBehindIdle r t reason b (Ok Idle) m
behind_idle r s t why.Planning b m h = look_later r s t m h
behind_idle r s t why.NoExecution true m h = h
behind_idle r s t why.NoExecution false m h = h
behind_idle r s t why.CapsFull b m h = h
behind_idle r s t why.AllLeased b m h = h

idle_for : (r : Rules) (s t : List Event) (o : Result Step StepFault) → ((reason : Reason) (b : Bool) (m : List Entry) → IsBehindIdle r s reason b o m → IsBehindIdle r t reason b o m) → (y : Reply) (m : List Entry) → IsIdleFor r s y o m → IsIdleFor r t y o m
idle_for r s t o f (reply.Idle reason b) m h = f reason b m h
idle_for r s t o f _ m h = absurd h

idle_later : (r : Rules) (s t : List Event) (o : Result Step StepFault) → ((reason : Reason) (b : Bool) (m : List Entry) → IsBehindIdle r s reason b o m → IsBehindIdle r t reason b o m) → (m : List Entry) → IsIdleStep r s o m → IsIdleStep r t o m
idle_later r s t o f [] h = h
idle_later r s t o f (x ∷ xs) h = (h.0, idle_for r s t o f (reply_to r x) xs h.1)

pub move_unit_later : (r : Rules) (s t : List Event) (m : List Entry) → IsMoveUnit r s m → IsMoveUnit r t m
move_unit_later r s t m (inl h) = inl (work_later r s t m h)
move_unit_later r s t m (inr (inl h)) = inr (inl (idle_later r s t (Ok Done) (behind_done r s t) m h))
move_unit_later r s t m (inr (inr h)) = inr (inr (idle_later r s t (Ok Idle) (behind_idle r s t) m h))

module _ (U V : List Entry → Type 0) (later : (m : List Entry) → U m → V m) where
  all_later : (ms : List (List Entry)) → AllByRecursion U ms → AllByRecursion V ms
  all_later [] h = h
  all_later (m ∷ ms) h = (later m h.0, all_later ms h.1)

  units_later : (m : List Entry) (c : List ChunkCopy) → AreUnits U m c → AreUnits V m c
  units_later m c h = record { units = h.units; made_is = h.made_is; did = all_later h.units h.did; copies_are = h.copies_are }

all_last : (U : List Entry → Type 0) (ms : List (List Entry)) (m : List Entry) → AllByRecursion U ms → U m → AllByRecursion U (ms ++ m ∷ [])
all_last U [] m h p = (p, tt)
all_last U (x ∷ ms) m h p = (h.0, all_last U ms m h.1 p)

joined_last : (ms : List (List Entry)) (m : List Entry) → joined (ms ++ m ∷ []) ≡ joined ms ++ m
joined_last [] m = append-nil m
joined_last (x ∷ ms) m = ap (λ y. x ++ y) (joined_last ms m) ∙ sym (append_assoc x (joined ms) m)

one_more : (U : List Entry → Type 0) (a : List Entry) (ca : List ChunkCopy) (b : List Entry) (cb : List ChunkCopy) → AreUnits U a ca → U b → cb ≡ copies_of b → AreUnits U (a ++ b) (ca ++ cb)
one_more U a ca b cb h u c = record {
  units = h.units ++ b ∷ [];
  made_is = ap (λ y. y ++ b) h.made_is ∙ sym (joined_last h.units b);
  did = all_last U h.units b h.did u;
  copies_are = ap (λ y. y ++ cb) h.copies_are ∙ (ap (λ y. copies_of a ++ y) c ∙ sym (copies_append a b));
}

module _ (U : Rules → List Event → List Entry → Type 0) (later : (r : Rules) (s t : List Event) (m : List Entry) → U r s m → U r t m) where
  pub units_none : (v : Known) (k : Copies) → HasMade (AreUnits (U v.rules v.seen)) v v k k
  units_none v k = made_none (AreUnits (U v.rules v.seen)) v v k refl refl (begins_itself v.seen) (record { units = []; made_is = refl; did = tt; copies_are = refl })

  -- one step more, which doesn't end the loop
  pub units_more : (Q : Rules → List Entry → List ChunkCopy → Type 0) (v u w : Known) (k j l : Copies) → ((r : Rules) (m : List Entry) (c : List ChunkCopy) → Q r m c → U r w.seen m × (c ≡ copies_of m))
      → HasMade (AreUnits (U v.rules u.seen)) v u k j → HasMade (Q u.rules) u w j l → HasMade (AreUnits (U v.rules w.seen)) v w k l
  units_more Q v u w k j l f d h = made_both (AreUnits (U v.rules u.seen)) (Q u.rules) (AreUnits (U v.rules w.seen)) v u w k j l
      (λ a ca b cb p q. let z = f u.rules b cb q in one_more (U v.rules w.seen) a ca b cb (units_later (U v.rules u.seen) (U v.rules w.seen) (later v.rules u.seen w.seen) a ca p) (subst (λ r. U r w.seen b) d.rules z.0) z.1) d h

  -- the last step
  pub units_then : (Q : Rules → List Entry → List ChunkCopy → Type 0) (v u w : Known) (k j l : Copies) → HasMade (AreUnits (U v.rules u.seen)) v u k j → HasMade (Q u.rules) u w j l → HasMade (AreUnitsThen (U v.rules w.seen) (Q v.rules)) v w k l
  units_then Q v u w k j l d h = made_both (AreUnits (U v.rules u.seen)) (Q u.rules) (AreUnitsThen (U v.rules w.seen) (Q v.rules)) v u w k j l
      (λ a ca b cb p q. record {
        front = a;
        last = b;
        front_copies = ca;
        last_copies = cb;
        parts = (refl, refl);
        did = units_later (U v.rules u.seen) (U v.rules w.seen) (later v.rules u.seen w.seen) a ca p;
        last_is = subst (λ r. Q r b cb) d.rules q;
      }) d h

  -- a rest
  pub units_rested : (v u w : Known) (k j : Copies) → HasMade (AreUnits (U v.rules u.seen)) v u k j → HasRested u w → HasMade (AreUnits (U v.rules w.seen)) v w k j
  units_rested v u w k j d h = record {
    made = d.made;
    copies = d.copies;
    own = h.own ∙ d.own;
    copied = d.copied;
    is = units_later (U v.rules u.seen) (U v.rules w.seen) (later v.rules u.seen w.seen) d.made d.copies d.is;
    failed = d.failed;
    rules = h.rules ∙ d.rules;
    longer = begins_on v.seen u.seen w.seen d.longer h.longer;
  }

-- a planner's steps
pub plans_done : (v u w : Known) (k j : Copies) → HasMade (AreUnits (IsPlanUnit v.rules u.seen)) v u k j → HasPlanStep u w j (Ok Done) → HasMade (AreUnits (IsPlanUnit v.rules w.seen)) v w k j
plans_done v u w k j d h = units_more IsPlanUnit plan_unit_later (λ r. PlanStep r w.seen (Ok Done)) v u w k j j (λ r m c q. (inl q.0, q.1)) d h

pub plans_idle : (v u w : Known) (k j : Copies) → HasMade (AreUnits (IsPlanUnit v.rules u.seen)) v u k j → HasPlanStep u w j (Ok Idle) → HasMade (AreUnits (IsPlanUnit v.rules w.seen)) v w k j
plans_idle v u w k j d h = units_more IsPlanUnit plan_unit_later (λ r. PlanStep r w.seen (Ok Idle)) v u w k j j (λ r m c q. (inr q.0, q.1)) d h

pub plans_end : (v u w : Known) (k j : Copies) (o : Result Step StepFault) → HasMade (AreUnits (IsPlanUnit v.rules u.seen)) v u k j → HasPlanStep u w j o → HasMade (AreUnitsThen (IsPlanUnit v.rules w.seen) (PlanStep v.rules w.seen o)) v w k j
plans_end v u w k j o d h = units_then IsPlanUnit plan_unit_later (λ r. PlanStep r w.seen o) v u w k j j d h

-- a mover's
moved_done : (t : List Event) (r : Rules) (m : List Entry) (c : List ChunkCopy) → MoveStep r t (Ok Done) m c → IsMoveUnit r t m × (c ≡ copies_of m)
moved_done t r m c (inl q) = (inl q.0, q.1)
moved_done t r m c (inr q) = (inr (inl q.0), q.1)

moved_idle : (t : List Event) (r : Rules) (m : List Entry) (c : List ChunkCopy) → MoveStep r t (Ok Idle) m c → IsMoveUnit r t m × (c ≡ copies_of m)
moved_idle t r m c (inl q) = absurd q
moved_idle t r m c (inr q) = (inr (inr q.0), q.1)

pub moves_done : (v u w : Known) (k j l : Copies) → HasMade (AreUnits (IsMoveUnit v.rules u.seen)) v u k j → HasMoveStep u w j l (Ok Done) → HasMade (AreUnits (IsMoveUnit v.rules w.seen)) v w k l
moves_done v u w k j l d h = units_more IsMoveUnit move_unit_later (λ r. MoveStep r w.seen (Ok Done)) v u w k j l (moved_done w.seen) d h

pub moves_idle : (v u w : Known) (k j l : Copies) → HasMade (AreUnits (IsMoveUnit v.rules u.seen)) v u k j → HasMoveStep u w j l (Ok Idle) → HasMade (AreUnits (IsMoveUnit v.rules w.seen)) v w k l
moves_idle v u w k j l d h = units_more IsMoveUnit move_unit_later (λ r. MoveStep r w.seen (Ok Idle)) v u w k j l (moved_idle w.seen) d h

pub moves_end : (v u w : Known) (k j l : Copies) (o : Result Step StepFault) → HasMade (AreUnits (IsMoveUnit v.rules u.seen)) v u k j → HasMoveStep u w j l o → HasMade (AreUnitsThen (IsMoveUnit v.rules w.seen) (MoveStep v.rules w.seen o)) v w k l
moves_end v u w k j l o d h = units_then IsMoveUnit move_unit_later (λ r. MoveStep r w.seen o) v u w k j l d h
