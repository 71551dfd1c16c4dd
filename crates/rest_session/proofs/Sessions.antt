-- What a link, a Close and a drain make of a book that was just opened.
use Rattle.std.proofs.Common.{◌≡◌, ℕ, ◌+◌, false, List, [], ◌∷◌, ◌++◌, refl, ap, sym, ◌∙◌, subst, append_assoc, append-nil, arith, inl}
use Rattle.std.specs.Prelude.{Option, Some, None}
use Rattle.std.specs.List.{list_any}
use Rattle.cluster_gate.specs.declared.copier.ChunkCopy.{ChunkCopy}
use Rattle.core_terms.specs.declared.events.Event.{Event}
use Rattle.core_terms.specs.declared.events.Event.TheVariants as event
use Rattle.core_laws.specs.Events.{is_close}
use Rattle.control_core.specs.Books.{BookView}
use Rattle.mover_rounds.specs.Asked.{Known, core_rules, entries_from}
use Rattle.mover_rounds.specs.Drained.{IsDrainCause, IsDrained}
use Rattle.mover_rounds.specs.Exact.{HasDrainedAlone}
use Rattle.mover_rounds.specs.Made.{Copies, HasRisenBy, failures_of, with_copies}
use Rattle.mover_rounds.specs.Owned.{known_by_owner}
use Rattle.mover_rounds.specs.declared.drains.DrainEnd.{DrainEnd}
use Rattle.mover_rounds.specs.declared.drains.DrainEnd.TheVariants as drain
use Rattle.mover_rounds.proofs.Draining.{made_is}
use Rattle.mover_rounds.proofs.Owning.{entries_append}
use Rattle.mover_rounds.proofs.Prefixes.{prefix_self}
use Rattle.mover_rounds.proofs.Pumping.{failures_append}
use Rattle.mover_rounds.proofs.Working.{no_copies, risen_none}
use Rattle.review_board.specs.Asked.{BoardKnown}
use Rattle.rest_session.specs.Answered.{HasServed, IsBlamed, IsServed}
use Rattle.rest_session.specs.Sessions.{IsSession, drain_fault}
use Rattle.rest_session.specs.declared.session.LinkEnd.{LinkEnd}
use Rattle.rest_session.specs.Heals.{is_heal}
use Rattle.rest_session.specs.Heard.{offers, paged}
use Rattle.rest_session.proofs.Spared.{AreFree, both_free, drained_free, heal_spared, none_has, served_open}

-- no round was made
pub drained_none : {A : Type 0} (b : BookView A) (k : Copies) → HasDrainedAlone (known_by_owner b) (known_by_owner b) k k drain.Memory
drained_none b k = record {
  made = [];
  copies = [];
  own = sym (append-nil (entries_from [] b.journal));
  copied = no_copies k.made;
  is = (
    (
      0,
      record {
        front = [];
        last = [];
        front_copies = [];
        last_copies = [];
        parts = (refl, refl);
        did = record { rounds = []; made_is = refl; did = tt; count_is = refl; copies_are = refl };
        last_is = inl (refl, refl);
      },
    ),
    refl,
  );
  failed = risen_none k.faults k.faults (omega arith);
  rules = refl;
  longer = prefix_self b.journal;
}

-- copies and failures behind others
with_both : (t : Option (List ChunkCopy)) (a b : List ChunkCopy) → with_copies (with_copies t a) b ≡ with_copies t (a ++ b)
with_both None a b = refl
with_both (Some m) a b = ap Some (append_assoc m a b)

risen_both : (m n k j l : ℕ) → HasRisenBy m k j → HasRisenBy n j l → HasRisenBy (m + n) k l
risen_both m n k j l h i = omega arith

-- the fault that ended a drain is the last one
drained_by : (v w : Known) (e : DrainEnd) → IsDrainCause v w e → IsBlamed (drain_fault e) v.blamed w.blamed
drained_by v w drain.Drained h = h
drained_by v w (drain.AdminFault n) h = (h.0, h.1)
drained_by v w drain.Memory h = h

module _ {A : Type 0} (b m : BookView A) (x y : Option BoardKnown) (k j : Copies) (left old new : Option (List ℕ)) (e : LinkEnd) (opened : b.journal ≡ []) (served : HasServed (paged false) (known_by_owner b) (known_by_owner m) x y k j left old new e) where
  -- all entries are those of the link
  all_served : served.made.made ≡ entries_from [] m.journal
  all_served = sym (served.made.own ∙ ap (λ z. entries_from [] z ++ served.made.made) opened)

  pub link_open : list_any is_close m.journal ≡ false
  link_open = served_open (offers (paged false) x) left old new (core_rules b.file) m.journal b.failures m.failures e served.noted served.made.made served.made.copies served.made.is all_served

  module _ (n c : BookView A) (l : Copies) (end : DrainEnd) (same : n.file ≡ b.file) (closed : n.journal ≡ m.journal ++ event.Close ∷ []) (blameless : n.failures ≡ m.failures) (cause : IsDrainCause (known_by_owner n) (known_by_owner c) end) (drained : HasDrainedAlone (known_by_owner n) (known_by_owner c) j l end) where
    abbrev rest : List Event
    rest = drained.longer.0

    journal : c.journal ≡ (m.journal ++ event.Close ∷ []) ++ rest
    journal = sym drained.longer.1 ∙ ap (λ z. z ++ rest) closed

    drain_made : drained.made ≡ entries_from (m.journal ++ event.Close ∷ []) rest
    drain_made = made_is n.journal c.journal rest drained.made drained.longer.1 drained.own ∙ ap (λ z. entries_from z rest) closed

    failures : failures_of (entries_from [] c.journal) ≡ failures_of served.made.made + failures_of drained.made
    failures =
        let close : List Event = event.Close ∷ [] in
        let front = entries_from [] (m.journal ++ close) in
        let back = entries_from (m.journal ++ close) rest in
        let whole : failures_of (entries_from [] c.journal) ≡ failures_of front + failures_of back = ap (λ z. failures_of (entries_from [] z)) journal ∙ (ap failures_of (entries_append [] (m.journal ++ close) rest) ∙ failures_append front back) in
        let one : failures_of front ≡ failures_of (entries_from [] m.journal) + 0 = ap failures_of (entries_append [] m.journal close) ∙ failures_append (entries_from [] m.journal) (entries_from m.journal close) in
        let first : failures_of served.made.made ≡ failures_of (entries_from [] m.journal) = ap failures_of all_served in
        let last : failures_of drained.made ≡ failures_of back = ap failures_of drain_made in
        omega arith

    parts : c.journal ≡ m.journal ++ event.Close ∷ rest
    parts = journal ∙ append_assoc m.journal (event.Close ∷ []) rest

    -- no fix stands in the journal, where none stands in the link's part
    unhealed : AreFree is_heal served.made.made → list_any is_heal c.journal ≡ false
    unhealed free =
        let behind = event.Close ∷ rest in
        let front : AreFree is_heal (entries_from [] m.journal) = subst (AreFree is_heal) all_served free in
        let back : AreFree is_heal (entries_from (m.journal ++ event.Close ∷ []) rest) = subst (AreFree is_heal) drain_made (drained_free is_heal heal_spared (core_rules n.file) c.journal end drained.made drained.copies drained.is.0) in
        let both : AreFree is_heal (entries_from [] m.journal ++ entries_from m.journal behind) = both_free is_heal (entries_from [] m.journal) (entries_from m.journal behind) front (refl, back) in
        none_has is_heal [] c.journal (subst (λ z. AreFree is_heal (entries_from [] z)) (sym parts) (subst (AreFree is_heal) (sym (entries_append [] m.journal behind)) both))

    pub session : IsSession b c x y k l left old new (record { link = e; drain = end })
    session = record {
      served = m.journal;
      drained = rest;
      journal_is = parts;
      served_copies = served.made.copies;
      drained_copies = drained.copies;
      copied = drained.copied ∙ (ap (λ o. with_copies o drained.copies) served.made.copied ∙ with_both k.made served.made.copies drained.copies);
      failed = subst (λ o. HasRisenBy o k.faults l.faults) (sym failures) (risen_both (failures_of served.made.made) (failures_of drained.made) k.faults j.faults l.faults served.made.failed drained.failed);
      faults = m.failures;
      noted = served.noted;
      board = served.board;
      answered = subst (λ o. IsServed (offers (paged false) x) left old new (core_rules b.file) m.journal b.failures m.failures e served.noted o served.made.copies) all_served served.made.is;
      drain_blamed = subst (λ o. IsBlamed (drain_fault end) o c.failures) blameless (drained_by (known_by_owner n) (known_by_owner c) end cause);
      rounds = subst (λ o. IsDrained (core_rules b.file) c.journal end o drained.copies) drain_made (subst (λ f. IsDrained (core_rules f) c.journal end drained.made drained.copies) same drained.is.0);
      unhealed = λ reviewed. unhealed (served.made.is.given reviewed).no_fix;
    }
