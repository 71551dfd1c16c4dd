-- Rounds, one after another.
use Rattle.std.proofs.Common.{◌≡◌, ℕ, ◌+◌, ◌<◌, Bool, true, List, [], ◌∷◌, ◌++◌, Option, Some, None, Ok, Err, refl, ap, sym, ◌∙◌, subst, append-nil, append_assoc, zero-add, add_assoc, arith, inl, inr, length-append}
use Rattle.std.specs.List.{AllByRecursion}
use Rattle.cluster_gate.specs.declared.copier.ChunkCopy.{ChunkCopy}
use Rattle.core_terms.specs.declared.events.Event.{Event}
use Rattle.core_terms.specs.declared.replies.Reply.{Reply}
use Rattle.core_terms.specs.declared.replies.Reason.{Reason}
use Rattle.mover_rounds.specs.Asked.{Rules, Entry, Known, reply_to, through}
use Rattle.mover_rounds.specs.Rounds.{done, idle, IsEnd, IsWorkRound, IsPlanRound, IsLookedRound, IsRound}
use Rattle.mover_rounds.specs.Made.{Copies, copy_of, copies_of, failed_in, failures_of, with_copies, HasRisenBy, HasMade, IsRoundMade, IsBroken, IsMade, HasRound, joined, AreDone, AreRounds, IsPumped, HasPumped, HasDone}
use Rattle.core_terms.specs.declared.faults.StepFault.{StepFault}
use Rattle.mover_rounds.specs.declared.round.Found.TheVariants.{Planned, Worked, Idle}
use Rattle.core_terms.specs.declared.pumps.PumpEnd.TheVariants as pump
use Rattle.mover_rounds.proofs.Prefixes.{prefix_trans}

-- of a round that is done it doesn't matter how far the actor has seen
end_later : (r : Rules) (s t : List Event) (what : Reply) (after : List Event) (m : List Entry) → IsEnd r s done what after m → IsEnd r t done what after m
end_later r s t what after [] h = h
end_later r s t what after (y ∷ []) h = h
end_later r s t what after (y ∷ z ∷ zs) h = h

plan_later : (r : Rules) (s t : List Event) (m : List Entry) → IsPlanRound r s done m → IsPlanRound r t done m
plan_later r s t [] h = h
plan_later r s t (x ∷ xs) h = (h.0, h.1, end_later r s t (reply_to r x) (through x) xs h.2)

work_later : (r : Rules) (s t : List Event) (m : List Entry) → IsWorkRound r s done m → IsWorkRound r t done m
work_later r s t [] h = h
work_later r s t (x ∷ xs) h = (h.0, h.1, end_later r s t (reply_to r x) (through x) xs h.2)

looked_later : (r : Rules) (s t : List Event) (m : List Entry) → IsLookedRound r s done m → IsLookedRound r t done m
looked_later r s t [] h = h
looked_later r s t (x ∷ xs) h = (h.0, work_later r s t xs h.1)

round_later : (r : Rules) (s t : List Event) (m : List Entry) → IsRound r s done m → IsRound r t done m
round_later r s t m (inl h) = inl (plan_later r s t m h)
round_later r s t m (inr h) = inr (looked_later r s t m h)

pub rounds_later : (r : Rules) (s t : List Event) (ms : List (List Entry)) → AllByRecursion (IsRound r s done) ms → AllByRecursion (IsRound r t done) ms
rounds_later r s t [] h = h
rounds_later r s t (m ∷ ms) h = (round_later r s t m h.0, rounds_later r s t ms h.1)

all_snoc : (P : List Entry → Type 0) (ms : List (List Entry)) (m : List Entry) → AllByRecursion P ms → P m → AllByRecursion P (ms ++ m ∷ [])
all_snoc P [] m h p = (p, tt)
all_snoc P (x ∷ ms) m h p = (h.0, all_snoc P ms m h.1 p)

joined_snoc : (ms : List (List Entry)) (m : List Entry) → joined (ms ++ m ∷ []) ≡ joined ms ++ m
joined_snoc [] m = append-nil m
joined_snoc (x ∷ ms) m = ap (λ y. x ++ y) (joined_snoc ms m) ∙ sym (append_assoc x (joined ms) m)

pub copies_append : (a b : List Entry) → copies_of (a ++ b) ≡ copies_of a ++ copies_of b
copies_append [] b = refl
copies_append (x ∷ a) b = ap (λ y. copy_of x.event ++ y) (copies_append a b) ∙ sym (append_assoc (copy_of x.event) (copies_of a) (copies_of b))

pub failures_append : (a b : List Entry) → failures_of (a ++ b) ≡ failures_of a + failures_of b
failures_append [] b = sym (zero-add (failures_of b))
failures_append (x ∷ a) b = ap (λ y. failed_in x.event + y) (failures_append a b) ∙ sym (add_assoc (failed_in x.event) (failures_of a) (failures_of b))

with_both : (t : Option (List ChunkCopy)) (a b : List ChunkCopy) → with_copies (with_copies t a) b ≡ with_copies t (a ++ b)
with_both None a b = refl
with_both (Some m) a b = ap Some (append_assoc m a b)

risen_both : (m n k j l : ℕ) → HasRisenBy m k j → HasRisenBy n j l → HasRisenBy (m + n) k l
risen_both m n k j l h i = omega arith

-- what was made, and what was made behind it
pub made_both : (P Q S : List Entry → List ChunkCopy → Type 0) (v u w : Known) (k j l : Copies) → ((a : List Entry) (ca : List ChunkCopy) (b : List Entry) (cb : List ChunkCopy) → P a ca → Q b cb → S (a ++ b) (ca ++ cb))
    → HasMade P v u k j → HasMade Q u w j l → HasMade S v w k l
made_both P Q S v u w k j l f p q = record {
  made = p.made ++ q.made;
  copies = p.copies ++ q.copies;
  own = q.own ∙ (ap (λ y. y ++ q.made) p.own ∙ append_assoc v.own p.made q.made);
  copied = q.copied ∙ (ap (λ y. with_copies y q.copies) p.copied ∙ with_both k.made p.copies q.copies);
  is = f p.made p.copies q.made q.copies p.is q.is;
  failed = subst (λ n. HasRisenBy n k.faults l.faults) (sym (failures_append p.made q.made)) (risen_both (failures_of p.made) (failures_of q.made) k.faults j.faults l.faults p.failed q.failed);
  rules = q.rules ∙ p.rules;
  longer = prefix_trans v.seen u.seen w.seen p.longer q.longer;
}

pub done_later : (r : Rules) (s t : List Event) (n : ℕ) (m : List Entry) (c : List ChunkCopy) → AreDone r s n m c → AreDone r t n m c
done_later r s t n m c d = record { rounds = d.rounds; made_is = d.made_is; did = rounds_later r s t d.rounds d.did; count_is = d.count_is; copies_are = d.copies_are }

one_done : (r q : Rules) (s t : List Event) (n : ℕ) → q ≡ r → (a : List Entry) (ca : List ChunkCopy) (b : List Entry) (cb : List ChunkCopy) → AreDone r s n a ca → IsRoundMade (IsRound q t) q t done b cb → AreDone r t (n + 1) (a ++ b) (ca ++ cb)
one_done r q s t n e a ca b cb d h = record {
  rounds = d.rounds ++ b ∷ [];
  made_is = ap (λ y. y ++ b) d.made_is ∙ sym (joined_snoc d.rounds b);
  did = all_snoc (IsRound r t done) d.rounds b (rounds_later r s t d.rounds d.did) (subst (λ y. IsRound y t done b) e h.0);
  count_is = length-append d.rounds (b ∷ []) ∙ ap (λ y. y + 1) d.count_is;
  copies_are = ap (λ y. y ++ cb) d.copies_are ∙ (ap (λ y. copies_of a ++ y) h.1 ∙ sym (copies_append a b));
}

-- a round more, which a planner made, and one which a mover made
pub planned_more : (v u w : Known) (k j l : Copies) (n : ℕ) → HasDone v u k j n → HasRound u w j l (Ok Planned) → HasDone v w k l (n + 1)
planned_more v u w k j l n d h = made_both (AreDone v.rules u.seen n) (IsMade u.rules w.seen (Ok Planned)) (AreDone v.rules w.seen (n + 1)) v u w k j l (λ a ca b cb p q. one_done v.rules u.rules u.seen w.seen n d.rules a ca b cb p (inl q.0, q.1)) d h

pub worked_more : (v u w : Known) (k j l : Copies) (n : ℕ) → HasDone v u k j n → HasRound u w j l (Ok Worked) → HasDone v w k l (n + 1)
worked_more v u w k j l n d h = made_both (AreDone v.rules u.seen n) (IsMade u.rules w.seen (Ok Worked)) (AreDone v.rules w.seen (n + 1)) v u w k j l (λ a ca b cb p q. one_done v.rules u.rules u.seen w.seen n d.rules a ca b cb p (inr q.0, q.1)) d h

pub rounds_end : (r : Rules) (s t : List Event) (n : ℕ) (L : List Entry → List ChunkCopy → Type 0) (a : List Entry) (ca : List ChunkCopy) (b : List Entry) (cb : List ChunkCopy) → AreDone r s n a ca → L b cb → AreRounds r t n L (a ++ b) (ca ++ cb)
rounds_end r s t n L a ca b cb d h = record { front = a; last = b; front_copies = ca; last_copies = cb; parts = (refl, refl); did = done_later r s t n a ca d; last_is = h }

pub pumped_idle : (v u w : Known) (k j l : Copies) (n steps : ℕ) (why : Reason) (closing : Bool) → n < steps → HasDone v u k j n → HasRound u w j l (Ok (Idle why closing)) → HasPumped v w k l steps (pump.Done n true)
pumped_idle v u w k j l n steps why closing lt d h = made_both (AreDone v.rules u.seen n) (IsRoundMade (IsLookedRound u.rules w.seen) u.rules w.seen idle) (IsPumped v.rules w.seen steps (pump.Done n true)) v u w k j l
    (λ a ca b cb p q. (lt, rounds_end v.rules u.seen w.seen n (IsRoundMade (IsLookedRound v.rules w.seen) v.rules w.seen idle) a ca b cb p (subst (λ r. IsRoundMade (IsLookedRound r w.seen) r w.seen idle b cb) d.rules q))) d h

broken_end : (v u w : Known) (n steps : ℕ) → n < steps → u.rules ≡ v.rules → (a : List Entry) (ca : List ChunkCopy) (b : List Entry) (cb : List ChunkCopy) → AreDone v.rules u.seen n a ca → IsBroken (IsRound u.rules w.seen) u.rules w.seen b cb
    → (m : ℕ) × (m < steps) × AreRounds v.rules w.seen m (IsBroken (IsRound v.rules w.seen) v.rules w.seen) (a ++ b) (ca ++ cb)
broken_end v u w n steps lt e a ca b cb p q = (n, lt, rounds_end v.rules u.seen w.seen n (IsBroken (IsRound v.rules w.seen) v.rules w.seen) a ca b cb p (subst (λ r. IsBroken (IsRound r w.seen) r w.seen b cb) e q))

pub pumped_fault : (v u w : Known) (k j l : Copies) (n steps number : ℕ) (f : StepFault) → n < steps → HasDone v u k j n → HasRound u w j l (Err f) → HasPumped v w k l steps (pump.AdminFault number)
pumped_fault v u w k j l n steps number f lt d h = made_both (AreDone v.rules u.seen n) (IsBroken (IsRound u.rules w.seen) u.rules w.seen) (IsPumped v.rules w.seen steps (pump.AdminFault number)) v u w k j l (broken_end v u w n steps lt d.rules) d h

pub pumped_memory : (v u w : Known) (k j l : Copies) (n steps : ℕ) (f : StepFault) → n < steps → HasDone v u k j n → HasRound u w j l (Err f) → HasPumped v w k l steps pump.Memory
pumped_memory v u w k j l n steps f lt d h = made_both (AreDone v.rules u.seen n) (IsBroken (IsRound u.rules w.seen) u.rules w.seen) (IsPumped v.rules w.seen steps pump.Memory) v u w k j l (broken_end v u w n steps lt d.rules) d h
