-- Rounds behind rounds.
use Rattle.std.proofs.Common.{◌≡◌, ℕ, ◌+◌, Bool, List, [], ◌∷◌, ◌++◌, length, Ok, Err, refl, ap, sym, ◌∙◌, subst, append_assoc, append-nil, arith, length-append, inl, inr, ◌⊎◌}
use Rattle.std.specs.List.{AllByRecursion}
use Rattle.cluster_gate.specs.declared.copier.ChunkCopy.{ChunkCopy}
use Rattle.core_terms.specs.declared.events.Event.{Event}
use Rattle.core_terms.specs.declared.faults.StepFault.{StepFault}
use Rattle.core_terms.specs.declared.replies.Reason.{Reason}
use Rattle.mover_rounds.specs.Asked.{Entry, Known, Rules}
use Rattle.mover_rounds.specs.Rounds.{IsLookedRound, IsRound, done, idle}
use Rattle.mover_rounds.specs.Made.{AreDone, AreRounds, Copies, HasDone, HasMade, HasRound, IsBroken, IsRoundMade, copies_of, joined}
use Rattle.mover_rounds.specs.Drained.{AreBroken, AreIdle, AreSome, HasFound}
use Rattle.mover_rounds.specs.declared.round.Found.{Found}
use Rattle.mover_rounds.specs.declared.round.Found.TheVariants.{Planned, Worked, Idle}
use Rattle.mover_rounds.proofs.Pumping.{copies_append, made_both, planned_more, rounds_end, rounds_later, worked_more}
use Rattle.mover_rounds.proofs.Prefixes.{prefix_self}
use Rattle.mover_rounds.proofs.Working.{no_copies, risen_none}

all_both : (P : List Entry → Type 0) (a b : List (List Entry)) → AllByRecursion P a → AllByRecursion P b → AllByRecursion P (a ++ b)
all_both P [] b h k = k
all_both P (x ∷ a) b h k = (h.0, all_both P a b h.1 k)

joined_both : (a b : List (List Entry)) → joined (a ++ b) ≡ joined a ++ joined b
joined_both [] b = refl
joined_both (x ∷ a) b = ap (λ y. x ++ y) (joined_both a b) ∙ sym (append_assoc x (joined a) (joined b))

done_both : (r : Rules) (s t : List Event) (m n : ℕ) (a : List Entry) (ca : List ChunkCopy) (b : List Entry) (cb : List ChunkCopy) → AreDone r s m a ca → AreDone r t n b cb → AreDone r t (m + n) (a ++ b) (ca ++ cb)
done_both r s t m n a ca b cb d e = record {
  rounds = d.rounds ++ e.rounds;
  made_is = ap (λ y. y ++ b) d.made_is ∙ (ap (λ y. joined d.rounds ++ y) e.made_is ∙ sym (joined_both d.rounds e.rounds));
  did = all_both (IsRound r t done) d.rounds e.rounds (rounds_later r s t d.rounds d.did) e.did;
  count_is = length-append d.rounds e.rounds ∙ (ap (λ y. y + length e.rounds) d.count_is ∙ ap (λ y. m + y) e.count_is);
  copies_are = ap (λ y. y ++ cb) d.copies_are ∙ (ap (λ y. copies_of a ++ y) e.copies_are ∙ sym (copies_append a b));
}

rounds_both : (r : Rules) (s t : List Event) (m n : ℕ) (L : List Entry → List ChunkCopy → Type 0) (a : List Entry) (ca : List ChunkCopy) (b : List Entry) (cb : List ChunkCopy) → AreDone r s m a ca → AreRounds r t n L b cb → AreRounds r t (m + n) L (a ++ b) (ca ++ cb)
rounds_both r s t m n L a ca b cb d h = record {
  front = a ++ h.front;
  last = h.last;
  front_copies = ca ++ h.front_copies;
  last_copies = h.last_copies;
  parts = (ap (λ y. a ++ y) h.parts.0 ∙ sym (append_assoc a h.front h.last), ap (λ y. ca ++ y) h.parts.1 ∙ sym (append_assoc ca h.front_copies h.last_copies));
  did = done_both r s t m n a ca h.front h.front_copies d h.did;
  last_is = h.last_is;
}

-- so many rounds, and some rounds
counted : (v u : Known) (k j : Copies) (h : HasMade (AreSome v.rules u.seen) v u k j) → HasDone v u k j h.is.0
counted v u k j h = record { made = h.made; copies = h.copies; own = h.own; copied = h.copied; is = h.is.1; failed = h.failed; rules = h.rules; longer = h.longer }

some : (v u : Known) (k j : Copies) (n : ℕ) → HasDone v u k j n → HasMade (AreSome v.rules u.seen) v u k j
some v u k j n h = record { made = h.made; copies = h.copies; own = h.own; copied = h.copied; is = (n, h.is); failed = h.failed; rules = h.rules; longer = h.longer }

-- what ends the rounds of a drain for a while: a job that was planned, or neither a job nor work
abbrev pub Stops : Found → Type 0
Stops found = (found ≡ Planned) ⊎ ((why : Reason) × (closing : Bool) × (found ≡ Idle why closing))

pub each_stop : (P : Found → Type 0) (found : Found) → Stops found → P Planned → ((why : Reason) (closing : Bool) → P (Idle why closing)) → P found
each_stop P Planned is job none = job
each_stop P Worked (inl e) job none = absurd cc
each_stop P Worked (inr e) job none = absurd (let is = e.2 in cc)
each_stop P (Idle why closing) is job none = none why closing

module _ (v u w : Known) (k j l : Copies) (so_far : HasMade (AreSome v.rules u.seen) v u k j) where
  pub some_worked : HasRound u w j l (Ok Worked) → HasMade (AreSome v.rules w.seen) v w k l
  some_worked h = some v w k l (so_far.is.0 + 1) (worked_more v u w k j l so_far.is.0 (counted v u k j so_far) h)

  pub some_planned : HasRound u w j l (Ok Planned) → HasMade (AreSome v.rules w.seen) v w k l
  some_planned h = some v w k l (so_far.is.0 + 1) (planned_more v u w k j l so_far.is.0 (counted v u k j so_far) h)

  pub some_idle : (why : Reason) (closing : Bool) → HasRound u w j l (Ok (Idle why closing)) → HasMade (AreIdle v.rules w.seen) v w k l
  some_idle why closing h = made_both (AreSome v.rules u.seen) (IsRoundMade (IsLookedRound u.rules w.seen) u.rules w.seen idle) (AreIdle v.rules w.seen) v u w k j l
      (λ a ca b cb p q. (p.0, rounds_end v.rules u.seen w.seen p.0 (IsRoundMade (IsLookedRound v.rules w.seen) v.rules w.seen idle) a ca b cb p.1 (subst (λ r. IsRoundMade (IsLookedRound r w.seen) r w.seen idle b cb) so_far.rules q))) so_far h

  pub some_found : (found : Found) → Stops found → HasRound u w j l (Ok found) → HasFound v w k l (Ok found)
  some_found found is = each_stop (λ x. HasRound u w j l (Ok x) → HasFound v w k l (Ok x)) found is some_planned some_idle

  pub some_broken : (f : StepFault) → HasRound u w j l (Err f) → HasMade (AreBroken v.rules w.seen) v w k l
  some_broken f h = made_both (AreSome v.rules u.seen) (IsBroken (IsRound u.rules w.seen) u.rules w.seen) (AreBroken v.rules w.seen) v u w k j l
      (λ a ca b cb p q. (p.0, rounds_end v.rules u.seen w.seen p.0 (IsBroken (IsRound v.rules w.seen) v.rules w.seen) a ca b cb p.1 (subst (λ r. IsBroken (IsRound r w.seen) r w.seen b cb) so_far.rules q))) so_far h

  pub then_some : HasFound u w j l (Ok Planned) → HasMade (AreSome v.rules w.seen) v w k l
  then_some h = made_both (AreSome v.rules u.seen) (AreSome u.rules w.seen) (AreSome v.rules w.seen) v u w k j l
      (λ a ca b cb p q. (p.0 + q.0, done_both v.rules u.seen w.seen p.0 q.0 a ca b cb p.1 (subst (λ r. AreDone r w.seen q.0 b cb) so_far.rules q.1))) so_far h

  pub then_idle : (why : Reason) (closing : Bool) → HasFound u w j l (Ok (Idle why closing)) → HasMade (AreIdle v.rules w.seen) v w k l
  then_idle why closing h = made_both (AreSome v.rules u.seen) (AreIdle u.rules w.seen) (AreIdle v.rules w.seen) v u w k j l
      (λ a ca b cb p q. let q' = subst (λ r. AreIdle r w.seen b cb) so_far.rules q in (p.0 + q'.0, rounds_both v.rules u.seen w.seen p.0 q'.0 (IsRoundMade (IsLookedRound v.rules w.seen) v.rules w.seen idle) a ca b cb p.1 q'.1)) so_far h

  pub then_broken : (f : StepFault) → HasFound u w j l (Err f) → HasMade (AreBroken v.rules w.seen) v w k l
  then_broken f h = made_both (AreSome v.rules u.seen) (AreBroken u.rules w.seen) (AreBroken v.rules w.seen) v u w k j l
      (λ a ca b cb p q. let q' = subst (λ r. AreBroken r w.seen b cb) so_far.rules q in (p.0 + q'.0, rounds_both v.rules u.seen w.seen p.0 q'.0 (IsBroken (IsRound v.rules w.seen) v.rules w.seen) a ca b cb p.1 q'.1)) so_far h

-- no round yet
pub none_done : (v : Known) (k : Copies) → HasDone v v k k 0
none_done v k = record {
  made = [];
  copies = [];
  own = sym (append-nil v.own);
  copied = no_copies k.made;
  is = record { rounds = []; made_is = refl; did = tt; count_is = refl; copies_are = refl };
  failed = risen_none k.faults k.faults (omega arith);
  rules = refl;
  longer = prefix_self v.seen;
}

pub no_round : (v : Known) (k : Copies) → HasMade (AreSome v.rules v.seen) v v k k
no_round v k = some v v k k 0 (none_done v k)
