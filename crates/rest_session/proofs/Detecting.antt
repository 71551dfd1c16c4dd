-- What a look has made, and the fix behind it.
use Rattle.std.proofs.Common.{◌≡◌, ◌∙◌, ℕ, List, [], ◌∷◌, ◌++◌, refl, ap, sym, subst, inr, arith}
use Rattle.std.proofs.lemmas.List.{append_assoc}
use Rattle.anomaly_detector.specs.Decided.{decided}
use Rattle.anomaly_detector.specs.declared.decision.Decision.{Decision}
use Rattle.anomaly_detector.specs.declared.decision.Decision.TheVariants as decision
use Rattle.core_terms.specs.Looked.{LookedView}
use Rattle.core_terms.specs.declared.events.Event.{Event}
use Rattle.core_terms.specs.declared.events.Event.TheVariants as event
use Rattle.core_terms.specs.declared.faults.StepFault.TheVariants as step
use Rattle.core_terms.specs.declared.replies.Reply.{Reply}
use Rattle.core_terms.specs.declared.replies.Reply.TheVariants as reply
use Rattle.mover_rounds.specs.Asked.{Entry, HasAsked, Known, Rules, reply_to}
use Rattle.mover_rounds.specs.Made.{Copies}
use Rattle.mover_rounds.proofs.Prefixes.{prefix_trans, prefix_twice}
use Rattle.mover_rounds.proofs.Working.{no_copies, risen_none}
use Rattle.rest_replies.specs.declared.told.Told.{Told}
use Rattle.rest_replies.specs.declared.told.Told.TheVariants as told
use Rattle.rest_session.specs.Calls.{HasDone, HasHealed, IsDecided, IsDecidedBy, IsDone, IsLooked, IsToldAtOnce, is_told_of}
use Rattle.rest_session.specs.declared.calls.Asked.{Asked}
use Rattle.rest_session.specs.declared.calls.Asked.TheVariants as asked

module _ (now alert heal : ℕ) (k : Copies) where
  -- an event that was answered has its entry
  abbrev entry_of : Known → List Event → Event → Entry
  entry_of v between e = record { before = v.seen ++ between; event = e }

  -- the look alone, whatever was asked and is then told
  only_look : (v w : Known) (r : Reply) (a : Asked) (t : Told) (l : HasAsked v w (event.Look now) r)
      → ((made : List Entry) → made ≡ entry_of v l.between (event.Look now) ∷ [] → IsDone v.rules w.seen a t made []) → HasDone v w k k a t
  only_look v w r a t l is = record {
    made = entry_of v l.between (event.Look now) ∷ [];
    copies = [];
    own = l.own;
    copied = no_copies k.made;
    is = is (entry_of v l.between (event.Look now) ∷ []) refl;
    failed = risen_none k.faults k.faults (omega arith);
    rules = l.rules;
    longer = prefix_twice v.seen l.between (event.Look now ∷ []) w.seen l.seen;
  }

  -- of a look is told what it calls for
  pub look_shown : (v u : Known) (r : Reply) (d : Decision) → HasAsked v u (event.Look now) r → IsDecidedBy now alert heal r d → HasDone v u k k (asked.Looks now alert heal) (told.Decided d)
  look_shown v u (reply.Looked s) d l is = only_look v u (reply.Looked s) (asked.Looks now alert heal) (told.Decided d) l (λ made m. (
    record {
      look = entry_of v l.between (event.Look now);
      made_is = m;
      asks = refl;
      told_is = subst (λ y. told.Decided d ≡ is_told_of now alert heal y) l.replied (ap (λ (x : Decision). told.Decided x) is);
    },
    refl,
  ))
  look_shown v u r d l is = absurd is

  shown_other : (v u : Known) (r : Reply) → told.Core r ≡ is_told_of now alert heal r → HasAsked v u (event.Look now) r → HasDone v u k k (asked.Looks now alert heal) (told.Core r)
  shown_other v u r e l = only_look v u r (asked.Looks now alert heal) (told.Core r) l (λ made m. (
    record {
      look = entry_of v l.between (event.Look now);
      made_is = m;
      asks = refl;
      told_is = subst (λ y. told.Core r ≡ is_told_of now alert heal y) l.replied e;
    },
    refl,
  ))

  pub shown_once : (v u : Known) (r : Reply) (t : Told) → HasAsked v u (event.Look now) r → IsToldAtOnce r t → HasDone v u k k (asked.Looks now alert heal) t
  shown_once v u (reply.Looked s) t l e = subst (λ x. HasDone v u k k (asked.Looks now alert heal) x) (sym e)
      (only_look v u (reply.Looked s) (asked.Looks now alert heal) (told.Step step.Memory) l (λ made m. (refl, inr (entry_of v l.between (event.Look now), m, refl), refl)))
  shown_once v u r t l e = subst (λ x. HasDone v u k k (asked.Looks now alert heal) x) (sym e) (shown_other v u r refl l)

  -- a look that was answered otherwise than by what is lost
  look_told : (v w : Known) (r : Reply) → ((s : LookedView) → r ≡ reply.Looked s → ⊥) → HasAsked v w (event.Look now) r → HasDone v w k k (asked.Detects now alert heal) (told.Core r)
  look_told v w (reply.Looked s) other h = absurd (other s refl)
  look_told v w r other h = only_look v w r (asked.Detects now alert heal) (told.Core r) h (λ made e. (
    record {
      look = entry_of v h.between (event.Look now);
      rest = [];
      made_is = e;
      asks = refl;
      looked = subst (λ y. IsLooked v.rules now alert heal y (told.Core r) []) h.replied (refl, refl);
    },
    refl,
  ))

  -- no memory behind a look
  pub look_short : (v w : Known) (r : Reply) → HasAsked v w (event.Look now) r → HasDone v w k k (asked.Detects now alert heal) (told.Step step.Memory)
  look_short v w r h = only_look v w r (asked.Detects now alert heal) (told.Step step.Memory) h (λ made e. (refl, inr (entry_of v h.between (event.Look now), e, refl), refl))

  module _ (v u w : Known) (s : LookedView) (l : HasAsked v u (event.Look now) (reply.Looked s)) where
    -- another decision than a fix
    other_told : (d : Decision) (t : Told) → d ≡ decided now alert heal s.since s.case s.lists → IsDecided v.rules d (told.Decided d) [] → w ≡ u → t ≡ told.Decided d → HasDone v w k k (asked.Detects now alert heal) t
    other_told d t is other same e =
        subst (λ x. HasDone v x k k (asked.Detects now alert heal) t) (sym same) (subst (λ x. HasDone v u k k (asked.Detects now alert heal) x) (sym e)
        (only_look v u (reply.Looked s) (asked.Detects now alert heal) (told.Decided d) l (λ made m. (
          record {
            look = entry_of v l.between (event.Look now);
            rest = [];
            made_is = m;
            asks = refl;
            looked = subst (λ y. IsLooked v.rules now alert heal y (told.Decided d) []) l.replied (subst (λ x. IsDecided v.rules x (told.Decided d) []) is other);
          },
          refl,
        ))))

    -- what a look showed, and what followed
    pub look_healed : (d : Decision) (t : Told) → d ≡ decided now alert heal s.since s.case s.lists → HasHealed u w d t → HasDone v w k k (asked.Detects now alert heal) t
    look_healed (decision.Alert brokers) t is h = other_told (decision.Alert brokers) t is (refl, refl) h.0 h.1
    look_healed (decision.Waiting brokers) t is h = other_told (decision.Waiting brokers) t is (refl, refl) h.0 h.1
    look_healed decision.Fine t is h = other_told decision.Fine t is (refl, refl) h.0 h.1
    look_healed (decision.Fix why ask) (told.Core r) is h =
        let fix : Entry = entry_of u h.between (event.Heal why ask) in
        let replied : reply_to v.rules fix ≡ r = sym (h.replied ∙ ap (λ (x : Rules). x.reply (u.seen ++ h.between) (event.Heal why ask)) l.rules) in
        record {
          made = entry_of v l.between (event.Look now) ∷ fix ∷ [];
          copies = [];
          own = h.own ∙ ap (λ (xs : List Entry). xs ++ fix ∷ []) l.own ∙ append_assoc v.own (entry_of v l.between (event.Look now) ∷ []) (fix ∷ []);
          copied = no_copies k.made;
          is = (
            record {
              look = entry_of v l.between (event.Look now);
              rest = fix ∷ [];
              made_is = refl;
              asks = refl;
              looked = subst (λ y. IsLooked v.rules now alert heal y (told.Core r) (fix ∷ [])) l.replied
                  (subst (λ x. IsDecided v.rules x (told.Core r) (fix ∷ [])) is (fix, refl, refl, replied));
            },
            refl,
          );
          failed = risen_none k.faults k.faults (omega arith);
          rules = h.rules ∙ l.rules;
          longer = prefix_trans v.seen u.seen w.seen (prefix_twice v.seen l.between (event.Look now ∷ []) u.seen l.seen) (prefix_twice u.seen h.between (event.Heal why ask ∷ []) w.seen h.seen);
        }
    look_healed (decision.Fix why ask) (told.Step f) is h = record {
      made = entry_of v l.between (event.Look now) ∷ [];
      copies = [];
      own = h.1.own ∙ l.own;
      copied = no_copies k.made;
      is = (h.0, inr (entry_of v l.between (event.Look now), refl, refl), refl);
      failed = risen_none k.faults k.faults (omega arith);
      rules = h.1.rules ∙ l.rules;
      longer = prefix_trans v.seen u.seen w.seen (prefix_twice v.seen l.between (event.Look now ∷ []) u.seen l.seen) h.1.longer;
    }
    look_healed (decision.Fix why ask) _ is h = absurd h

  -- what a look calls for was done
  pub followed : (v u w : Known) (r : Reply) (d : Decision) (t : Told) → HasAsked v u (event.Look now) r → IsDecidedBy now alert heal r d → HasHealed u w d t → HasDone v w k k (asked.Detects now alert heal) t
  followed v u w (reply.Looked s) d t l is h = look_healed v u w s l d t is h
  followed v u w r d t l is h = absurd is

  -- or it was told at once
  pub told_once : (v u : Known) (r : Reply) (t : Told) → HasAsked v u (event.Look now) r → IsToldAtOnce r t → HasDone v u k k (asked.Detects now alert heal) t
  told_once v u (reply.Looked s) t l e = subst (λ x. HasDone v u k k (asked.Detects now alert heal) x) (sym e) (look_short v u (reply.Looked s) l)
  told_once v u r t l e = subst (λ x. HasDone v u k k (asked.Detects now alert heal) x) (sym e) (look_told v u r (λ s q. absurd cc) l)

-- nothing is asked where the decision is no fix
