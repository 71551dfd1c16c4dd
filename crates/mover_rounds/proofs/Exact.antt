-- No copy of the owner of a book is lost.
use Rattle.std.proofs.Common.{◌≡◌, ℕ, true, false, List, [], ◌∷◌, ◌++◌, refl, ap, sym, ◌∙◌, append_assoc, append-nil, inl, inr, ◌⊎◌}
use Rattle.std.proofs.lemmas.Bool.{true≢false}
use mathlib.Core.List.{IsPrefix}
use Rattle.cluster_json.specs.File.{Meaning}
use Rattle.cluster_gate.specs.declared.copier.ChunkCopy.{ChunkCopy}
use Rattle.exec_terms.specs.declared.replies.Given.{Given}
use Rattle.core_terms.specs.Ends.{Works}
use Rattle.core_terms.specs.Input.{IsInput}
use Rattle.core_terms.specs.History.{AreLegal, is_sure_after, reply_after, state_after}
use Rattle.core_terms.specs.declared.events.Event.{Event}
use Rattle.core_terms.specs.declared.events.Event.TheVariants as event
use Rattle.core_terms.specs.declared.pumps.PumpEnd.{PumpEnd}
use Rattle.core_terms.specs.declared.pumps.PumpEnd.TheVariants as pump
use Rattle.core_terms.specs.declared.replies.Reply.{Reply}
use Rattle.core_terms.specs.declared.replies.Reply.TheVariants as reply
use Rattle.core_laws.specs.Alone.{TakenWorkIsOut}
use Rattle.core_laws.specs.Laws.{HistoriesAreSound}
use Rattle.control_core.specs.Books.{BookView}
use Rattle.mover_rounds.specs.Asked.{Entry, core_rules, entries_from}
use Rattle.mover_rounds.specs.Rounds.{IsLookedRound, IsRound, idle}
use Rattle.mover_rounds.specs.Made.{AreRounds, Copies, HasPumped, IsBroken, IsLostCopy, IsPumped, IsRoundMade, LostIn, copies_of, until}
use Rattle.mover_rounds.specs.Drained.{HasDrained, IsDrained}
use Rattle.mover_rounds.specs.Exact.{HasDrainedAlone, HasPumpedAlone}
use Rattle.mover_rounds.specs.Owned.{known_by_owner}
use Rattle.mover_rounds.specs.declared.drains.DrainEnd.{DrainEnd}
use Rattle.mover_rounds.specs.declared.drains.DrainEnd.TheVariants as drain
use Rattle.mover_rounds.proofs.Draining.{cancel, made_is}
use Rattle.mover_rounds.proofs.GivingBack.{after_all}
use Rattle.mover_rounds.proofs.Pumping.{copies_append}

-- entries in two parts are those of events in two parts
record InParts (j t : List Event) (b : List Entry) : Type 0 where
  front : List Event
  back : List Event
  whole : t ≡ front ++ back
  back_is : b ≡ entries_from (j ++ front) back

one_more : (j t : List Event) (y : Event) (b : List Entry) → InParts (j ++ y ∷ []) t b → InParts j (y ∷ t) b
one_more j t y b r = record { front = y ∷ r.front; back = r.back; whole = ap (λ z. y ∷ z) r.whole; back_is = r.back_is ∙ ap (λ z. entries_from z r.back) (append_assoc j (y ∷ []) r.front) }

parts : (j t : List Event) (a b : List Entry) → entries_from j t ≡ a ++ b → InParts j t b
parts j t [] b e = record { front = []; back = t; whole = refl; back_is = sym e ∙ ap (λ z. entries_from z t) (sym (append-nil j)) }
parts j [] (x ∷ a) b e = absurd cc
parts j (y ∷ t) (x ∷ a) b e =
    let tail : entries_from (j ++ y ∷ []) t ≡ a ++ b = cc in
    one_more j t y b (parts (j ++ y ∷ []) t a b tail)

-- lists that are prefixes of one another are equal
none_left : (a b : List Event) → a ++ b ≡ [] → a ≡ []
none_left [] b e = refl
none_left (x ∷ a) b e = absurd cc

both_ways : (xs ys : List Event) → IsPrefix xs ys → IsPrefix ys xs → ys ≡ xs
both_ways xs ys p q =
    let none : p.0 ++ q.0 ≡ [] = cancel xs (p.0 ++ q.0) [] (sym (append_assoc xs p.0 q.0) ∙ (ap (λ z. z ++ q.0) p.1 ∙ (q.1 ∙ sym (append-nil xs)))) in
    sym p.1 ∙ (ap (λ z. xs ++ z) (none_left p.0 q.0 none) ∙ append-nil xs)

-- the first of legal events are legal
legal_front : (a b : List Event) → AreLegal (a ++ b) → AreLegal a
legal_front [] b h = tt
legal_front (x ∷ a) b h = (h.0, legal_front a b h.1)

-- nothing stands behind an entry but its owner's next
until_is : (h t seen : List Event) (e : Event) (back : List Entry) → seen ≡ (h ++ e ∷ []) ++ t → back ≡ entries_from (h ++ e ∷ []) t → until back seen ≡ h ++ e ∷ []
until_is h [] seen e back s b = ap (λ z. until z seen) b ∙ (s ∙ append-nil (h ++ e ∷ []))
until_is h (d ∷ t) seen e back s b = ap (λ z. until z seen) b

module _ (file : Meaning) (input : IsInput file) (histories : HistoriesAreSound) (law : TakenWorkIsOut) where
  -- work that was taken is sure to be reported at once
  sure_behind : (h : List Event) (e : Event) (g : Given) (d : Event) → AreLegal h → e ≡ event.Take → reply_after file h e ≡ reply.Work g → Works g d → is_sure_after file (h ++ e ∷ []) d ≡ true
  sure_behind h e g d legal is t w =
      let sure = (law file (state_after file h) g d input (histories file h input legal) (rw is at t) w).sure in
      rw (after_all file h (e ∷ []), is) sure

  lost_at : (h seen : List Event) (e : Event) (r : Reply) (c : List ChunkCopy) → AreLegal h → e ≡ event.Take → reply_after file h e ≡ r → IsPrefix seen (h ++ e ∷ []) → IsLostCopy (core_rules file) seen (h ++ e ∷ []) r c → ⊥
  lost_at h seen e (reply.Work g) c legal is t p l =
      let same : l.unsure.history ≡ h ++ e ∷ [] = both_ways (h ++ e ∷ []) l.unsure.history l.unsure.longer (prefix_on l.unsure.history seen (h ++ e ∷ []) l.unsure.saw p) in
      true≢false (sym (sure_behind h e g (event.Copied l.receipt) legal is t l.works) ∙ (ap (λ z. is_sure_after file z (event.Copied l.receipt)) (sym same) ∙ l.unsure.unsure))
    where
      prefix_on : (xs ys zs : List Event) → IsPrefix xs ys → IsPrefix ys zs → IsPrefix xs zs
      prefix_on xs ys zs a b = (a.0 ++ b.0, sym (append_assoc xs a.0 b.0) ∙ (ap (λ z. z ++ b.0) a.1 ∙ b.1))
  lost_at h seen e _ c legal is t p l = absurd l

  none_lost : (j t : List Event) (made : List Entry) (c : List ChunkCopy) → AreLegal (j ++ t) → made ≡ entries_from j t → LostIn (core_rules file) (j ++ t) made c → ⊥
  none_lost j t made c legal is l = by r.back r.whole r.back_is where
    r : InParts j t (l.entry ∷ l.back)
    r = parts j t l.front (l.entry ∷ l.back) (sym is ∙ l.among)

    by : (tail : List Event) → t ≡ r.front ++ tail → l.entry ∷ l.back ≡ entries_from (j ++ r.front) tail → ⊥
    by [] w b = absurd cc
    by (e ∷ tail) w b =
        let h : List Event = j ++ r.front in
        let entry : l.entry ≡ record { before = h; event = e } = cc in
        let back : l.back ≡ entries_from (h ++ e ∷ []) tail = cc in
        let whole : j ++ t ≡ (h ++ e ∷ []) ++ tail = ap (λ z. j ++ z) w ∙ (sym (append_assoc j r.front (e ∷ tail)) ∙ sym (append_assoc h (e ∷ []) tail)) in
        let until_it : until l.back (j ++ t) ≡ h ++ e ∷ [] = until_is h tail (j ++ t) e l.back whole back in
        let lost : IsLostCopy (core_rules file) (until l.back (j ++ t)) (h ++ e ∷ []) (reply_after file h e) c = rw entry at l.lost in
        let front : AreLegal h = legal_front h (e ∷ tail) (rw (whole ∙ append_assoc h (e ∷ []) tail) at legal) in
        lost_at h (until l.back (j ++ t)) e (reply_after file h e) c front (rw entry at l.took) refl ([], append-nil (until l.back (j ++ t)) ∙ until_it) lost

  exact_lost : (j t : List Event) (made : List Entry) (c : List ChunkCopy) → AreLegal (j ++ t) → made ≡ entries_from j t → (c ≡ copies_of made) ⊎ LostIn (core_rules file) (j ++ t) made c → c ≡ copies_of made
  exact_lost j t made c legal is (inl h) = h
  exact_lost j t made c legal is (inr h) = absurd (none_lost j t made c legal is h)

  exact_broken : (j t : List Event) (made : List Entry) (c : List ChunkCopy) → AreLegal (j ++ t) → made ≡ entries_from j t → IsBroken (IsRound (core_rules file) (j ++ t)) (core_rules file) (j ++ t) made c → c ≡ copies_of made
  exact_broken j t made c legal is (inl h) = h.1 ∙ ap copies_of (sym h.0)
  exact_broken j t made c legal is (inr (inl h)) = h.1
  exact_broken j t made c legal is (inr (inr h)) = exact_lost j t made c legal is h.1

  -- so of rounds, where what stands last is exact
  module _ (j t : List Event) (made : List Entry) (c : List ChunkCopy) (legal : AreLegal (j ++ t)) (is : made ≡ entries_from j t) where
    exact_rounds : (n : ℕ) (L : List Entry → List ChunkCopy → Type 0) → ((front back : List Event) (last : List Entry) (d : List ChunkCopy) → t ≡ front ++ back → last ≡ entries_from (j ++ front) back → L last d → d ≡ copies_of last)
        → AreRounds (core_rules file) (j ++ t) n L made c → c ≡ copies_of made
    exact_rounds n L exact h =
        let p = parts j t h.front h.last (sym is ∙ h.parts.0) in
        let last = exact p.front p.back h.last h.last_copies p.whole p.back_is h.last_is in
        h.parts.1 ∙ (ap (λ z. z ++ h.last_copies) h.did.copies_are ∙ (ap (λ z. copies_of h.front ++ z) last ∙ (sym (copies_append h.front h.last) ∙ ap copies_of (sym h.parts.0))))

    broken_last : (front back : List Event) (last : List Entry) (d : List ChunkCopy) → t ≡ front ++ back → last ≡ entries_from (j ++ front) back → IsBroken (IsRound (core_rules file) (j ++ t)) (core_rules file) (j ++ t) last d → d ≡ copies_of last
    broken_last front back last d w b h =
        let whole : j ++ t ≡ (j ++ front) ++ back = ap (λ z. j ++ z) w ∙ sym (append_assoc j front back) in
        exact_broken (j ++ front) back last d (rw whole at legal) b (rw whole at h)

    exact_idle : (n : ℕ) → AreRounds (core_rules file) (j ++ t) n (IsRoundMade (IsLookedRound (core_rules file) (j ++ t)) (core_rules file) (j ++ t) idle) made c → c ≡ copies_of made
    exact_idle n h = exact_rounds n (IsRoundMade (IsLookedRound (core_rules file) (j ++ t)) (core_rules file) (j ++ t) idle) (λ front back last d w b x. x.1) h

    exact_ends : (n : ℕ) → AreRounds (core_rules file) (j ++ t) n (IsBroken (IsRound (core_rules file) (j ++ t)) (core_rules file) (j ++ t)) made c → c ≡ copies_of made
    exact_ends n h = exact_rounds n (IsBroken (IsRound (core_rules file) (j ++ t)) (core_rules file) (j ++ t)) broken_last h

    exact_pumped : (steps : ℕ) (end : PumpEnd) → IsPumped (core_rules file) (j ++ t) steps end made c → c ≡ copies_of made
    exact_pumped steps (pump.Done n true) h = exact_idle n h.1
    exact_pumped steps (pump.Done n false) h = h.1.copies_are
    exact_pumped steps (pump.AdminFault number) h = exact_ends h.0 h.2
    exact_pumped steps pump.Memory h = exact_ends h.0 h.2

    exact_drained : (end : DrainEnd) → IsDrained (core_rules file) (j ++ t) end made c → c ≡ copies_of made
    exact_drained drain.Drained h = exact_idle h.0 h.1
    exact_drained (drain.AdminFault number) h = exact_ends h.0 h.1
    exact_drained drain.Memory h = exact_ends h.0 h.1

module _ {A : Type 0} (b c : BookView A) (k l : Copies) (input : IsInput b.file) (legal : AreLegal c.journal) (histories : HistoriesAreSound) (law : TakenWorkIsOut) where
  pub pumped_alone : (steps : ℕ) (end : PumpEnd) → HasPumped (known_by_owner b) (known_by_owner c) k l steps end → HasPumpedAlone (known_by_owner b) (known_by_owner c) k l steps end
  pumped_alone steps end h =
      let made = made_is b.journal c.journal h.longer.0 h.made h.longer.1 h.own in
      record {
        made = h.made;
        copies = h.copies;
        own = h.own;
        copied = h.copied;
        is = (h.is, exact_pumped b.file input histories law b.journal h.longer.0 h.made h.copies (rw h.longer.1 legal) made steps end (rw h.longer.1 h.is));
        failed = h.failed;
        rules = h.rules;
        longer = h.longer;
      }

  pub drained_alone : (end : DrainEnd) → HasDrained (known_by_owner b) (known_by_owner c) k l end → HasDrainedAlone (known_by_owner b) (known_by_owner c) k l end
  drained_alone end h =
      let made = made_is b.journal c.journal h.longer.0 h.made h.longer.1 h.own in
      record {
        made = h.made;
        copies = h.copies;
        own = h.own;
        copied = h.copied;
        is = (h.is, exact_drained b.file input histories law b.journal h.longer.0 h.made h.copies (rw h.longer.1 legal) made end (rw h.longer.1 h.is));
        failed = h.failed;
        rules = h.rules;
        longer = h.longer;
      }
