-- Which events the entries of rounds, and of a link, never have.
use Rattle.std.proofs.Common.{◌≡◌, ℕ, Bool, true, false, List, [], ◌∷◌, ◌++◌, ◌⊎◌, refl, ap, sym, ◌∙◌, subst, inl, inr}
use Rattle.std.specs.Prelude.{Option, Some, None, Result, Ok, Err}
use Rattle.std.specs.List.{AllByRecursion, list_any}
use Rattle.cluster_gate.specs.declared.copier.ChunkCopy.{ChunkCopy}
use Rattle.core_terms.specs.Ends.{Ends, GivesBack}
use Rattle.core_terms.specs.declared.events.Event.{Event}
use Rattle.core_terms.specs.declared.events.Event.TheVariants as event
use Rattle.core_terms.specs.declared.pumps.PumpEnd.{PumpEnd}
use Rattle.core_terms.specs.declared.pumps.PumpEnd.TheVariants as pump
use Rattle.core_terms.specs.declared.replies.Reply.{Reply}
use Rattle.core_terms.specs.declared.replies.Reply.TheVariants as reply
use Rattle.anomaly_detector.specs.Decided.{decided}
use Rattle.anomaly_detector.specs.declared.decision.Decision.{Decision}
use Rattle.anomaly_detector.specs.declared.decision.Decision.TheVariants as decision
use Rattle.core_laws.specs.Events.{is_close}
use Rattle.mover_rounds.specs.Asked.{Entry, Rules, entries_from, reply_to, through}
use Rattle.mover_rounds.specs.Drained.{IsDrained}
use Rattle.mover_rounds.specs.Made.{AreDone, AreRounds, IsBroken, IsPumped, joined}
use Rattle.mover_rounds.specs.Rounds.{IsEnd, IsLookedRound, IsPlanRound, IsRound, IsWorkRound, Standing, done, idle, look, undone}
use Rattle.mover_rounds.specs.declared.drains.DrainEnd.{DrainEnd}
use Rattle.mover_rounds.specs.declared.drains.DrainEnd.TheVariants as drain
use Rattle.rest_parse.specs.Calls.{meaning}
use Rattle.rest_parse.specs.declared.calls.Call.{Call}
use Rattle.rest_parse.specs.declared.calls.Call.TheVariants as call
use Rattle.rest_parse.specs.declared.calls.HttpFault.{HttpFault}
use Rattle.rest_parse.specs.declared.sites.SiteCall.{SiteCall}
use Rattle.rest_parse.specs.Reviews.{reviewed_meaning}
use Rattle.rest_parse.specs.declared.reviews.ReviewCall.{ReviewCall}
use Rattle.rest_parse.specs.declared.reviews.ReviewCall.TheVariants as review
use Rattle.rest_replies.specs.declared.told.Told.{Told}
use Rattle.rest_replies.specs.declared.told.Told.TheVariants as told
use Rattle.review_board.specs.Asked.{BoardEntry, reply_to as board_reply}
use Rattle.review_board.specs.declared.events.BoardReply.{BoardReply}
use Rattle.review_board.specs.declared.events.BoardReply.TheVariants as answer
use Rattle.review_board.specs.declared.events.BoardEvent.{BoardEvent}
use Rattle.review_board.specs.declared.events.BoardEvent.TheVariants as board
use Rattle.rest_session.specs.Answered.{IsServed}
use Rattle.rest_session.specs.Pieces.{IsPiece, Piece, in_order}
use Rattle.rest_session.specs.Heals.{is_heal}
use Rattle.rest_session.specs.Heard.{IsHeardIf, Offers, SiteView, site_asked}
use Rattle.rest_session.specs.Calls.{IsCalled, IsCutShort, IsDecided, IsDetected, IsDone, IsLooked, asked_by, plainly_asked}
use Rattle.rest_session.specs.Reviewed.{HasFollowedReply, IsBegun, IsMeant, IsNoted, IsReviewed, IsStarted, given_request, starts}
use Rattle.rest_session.specs.declared.calls.Asked.{Asked}
use Rattle.rest_session.specs.declared.calls.Asked.TheVariants as asked
use Rattle.rest_session.specs.declared.session.LinkEnd.{LinkEnd}
use Rattle.rest_session.proofs.Calling.{once_is}

-- no entry is of a kind of events
abbrev pub IsFree : (Event → Bool) → Entry → Type 0
IsFree bad x = bad x.event ≡ false

abbrev pub AreFree : (Event → Bool) → List Entry → Type 0
AreFree bad made = AllByRecursion (IsFree bad) made

pub both_free : (bad : Event → Bool) (a b : List Entry) → AreFree bad a → AreFree bad b → AreFree bad (a ++ b)
both_free bad [] b h k = k
both_free bad (x ∷ a) b h k = (h.0, both_free bad a b h.1 k)

-- a kind of events that neither a round has, a take and what ends or gives back work or a job, nor a look
pub record IsSpared (bad : Event → Bool) : Type 0 where
  pub jobs : bad event.PlanTake ≡ false
  pub work : bad event.Take ≡ false
  pub looks : (now : ℕ) → bad (event.Look now) ≡ false
  pub ends : (what : Reply) (e : Event) → Ends what e → bad e ≡ false
  pub backs : (what : Reply) (e : Event) → GivesBack what e → bad e ≡ false

-- Close is such an event
no_end : (what : Reply) → Ends what event.Close → ⊥
no_end (reply.Job ticket problem) h = h
no_end (reply.Work g) h = h
no_end _ h = h

end_is_open : (what : Reply) (e : Event) → Ends what e → is_close e ≡ false
end_is_open what event.Close h = absurd (no_end what h)
end_is_open what _ h = refl

back_is_open : (what : Reply) (e : Event) → GivesBack what e → is_close e ≡ false
back_is_open (reply.Job ticket problem) e h = ap is_close h
back_is_open (reply.Work g) e h = ap is_close h
back_is_open _ e h = absurd h

pub close_spared : IsSpared is_close
close_spared = record { jobs = refl; work = refl; looks = λ now. refl; ends = end_is_open; backs = back_is_open }

-- and so is a fix
no_fix : (what : Reply) (why : _) (ask : _) → Ends what (event.Heal why ask) → ⊥
no_fix (reply.Job ticket problem) why ask h = h
no_fix (reply.Work g) why ask h = h
no_fix _ why ask h = h

end_is_no_fix : (what : Reply) (e : Event) → Ends what e → is_heal e ≡ false
end_is_no_fix what (event.Heal why ask) h = absurd (no_fix what why ask h)
end_is_no_fix what _ h = refl

back_is_no_fix : (what : Reply) (e : Event) → GivesBack what e → is_heal e ≡ false
back_is_no_fix (reply.Job ticket problem) e h = ap is_heal h
back_is_no_fix (reply.Work g) e h = ap is_heal h
back_is_no_fix _ e h = absurd h

pub heal_spared : IsSpared is_heal
heal_spared = record { jobs = refl; work = refl; looks = λ now. refl; ends = end_is_no_fix; backs = back_is_no_fix }

module _ (bad : Event → Bool) (spared : IsSpared bad) (r : Rules) (s : List Event) where
  end_free : (st : Standing) (what : Reply) (after : List Event) (m : List Entry) → IsEnd r s st what after m → AreFree bad m
  end_free done what after [] h = absurd h
  end_free done what after (y ∷ []) h = (spared.ends what y.event h, tt)
  end_free done what after (y ∷ z ∷ zs) h = absurd h
  end_free undone what after [] h = tt
  end_free undone what after (y ∷ []) h = (spared.backs what y.event h, tt)
  end_free undone what after (y ∷ z ∷ zs) h = absurd h
  end_free idle what after m h = absurd h
  end_free look what after m h = absurd h

  pub plan_free : (st : Standing) (m : List Entry) → IsPlanRound r s st m → AreFree bad m
  plan_free done [] h = absurd h
  plan_free done (x ∷ xs) h = (ap bad h.0 ∙ spared.jobs, end_free done (reply_to r x) (through x) xs h.2)
  plan_free undone [] h = absurd h
  plan_free undone (x ∷ xs) h = (ap bad h.0 ∙ spared.jobs, end_free undone (reply_to r x) (through x) xs h.2)
  plan_free idle [] h = absurd h
  plan_free idle (x ∷ xs) h = (ap bad h.0 ∙ spared.jobs, end_free idle (reply_to r x) (through x) xs h.2)
  plan_free look [] h = absurd h
  plan_free look (x ∷ []) h = (ap bad h.0 ∙ spared.jobs, tt)
  plan_free look (x ∷ y ∷ xs) h = (ap bad h.0 ∙ spared.jobs, end_free look (reply_to r x) (through x) (y ∷ xs) h.2)

  pub work_free : (st : Standing) (m : List Entry) → IsWorkRound r s st m → AreFree bad m
  work_free done [] h = absurd h
  work_free done (x ∷ xs) h = (ap bad h.0 ∙ spared.work, end_free done (reply_to r x) (through x) xs h.2)
  work_free undone [] h = absurd h
  work_free undone (x ∷ xs) h = (ap bad h.0 ∙ spared.work, end_free undone (reply_to r x) (through x) xs h.2)
  work_free look [] h = absurd h
  work_free look (x ∷ xs) h = (ap bad h.0 ∙ spared.work, end_free look (reply_to r x) (through x) xs h.2)
  work_free idle [] h = absurd h
  work_free idle (x ∷ []) h = (ap bad h.0 ∙ spared.work, tt)
  work_free idle (x ∷ y ∷ xs) h = (ap bad h.0 ∙ spared.work, end_free idle (reply_to r x) (through x) (y ∷ xs) h.2)

  looked_free : (st : Standing) (m : List Entry) → IsLookedRound r s st m → AreFree bad m
  looked_free st [] h = absurd h
  looked_free st (x ∷ xs) h = ((plan_free look (x ∷ []) h.0).0, work_free st xs h.1)

  pub round_free : (st : Standing) (m : List Entry) → IsRound r s st m → AreFree bad m
  round_free st m (inl h) = plan_free st m h
  round_free st m (inr h) = looked_free st m h

  joined_free : (ms : List (List Entry)) → AllByRecursion (IsRound r s done) ms → AreFree bad (joined ms)
  joined_free [] h = tt
  joined_free (m ∷ ms) h = both_free bad m (joined ms) (round_free done m h.0) (joined_free ms h.1)

  rounds_free : (n : ℕ) (m : List Entry) (c : List ChunkCopy) → AreDone r s n m c → AreFree bad m
  rounds_free n m c d = subst (AreFree bad) (sym d.made_is) (joined_free d.rounds d.did)

  broken_free : (m : List Entry) (c : List ChunkCopy) → IsBroken (IsRound r s) r s m c → AreFree bad m
  broken_free m c (inl h) = subst (AreFree bad) (sym h.0) tt
  broken_free m c (inr (inl h)) = round_free look m h.0
  broken_free m c (inr (inr h)) = round_free undone m h.0

  behind_free : (n : ℕ) (L : List Entry → List ChunkCopy → Type 0) (m : List Entry) (c : List ChunkCopy) → ((b : List Entry) (d : List ChunkCopy) → L b d → AreFree bad b) → AreRounds r s n L m c → AreFree bad m
  behind_free n L m c f h = subst (AreFree bad) (sym h.parts.0) (both_free bad h.front h.last (rounds_free n h.front h.front_copies h.did) (f h.last h.last_copies h.last_is))

  pumped_free : (steps : ℕ) (end : PumpEnd) (m : List Entry) (c : List ChunkCopy) → IsPumped r s steps end m c → AreFree bad m
  pumped_free steps (pump.Done n true) m c h = behind_free n _ m c (λ b d i. looked_free idle b i.0) h.1
  pumped_free steps (pump.Done n false) m c h = rounds_free n m c h.1
  pumped_free steps (pump.AdminFault number) m c h = behind_free h.0 _ m c broken_free h.2
  pumped_free steps pump.Memory m c h = behind_free h.0 _ m c broken_free h.2

  pub drained_free : (end : DrainEnd) (m : List Entry) (c : List ChunkCopy) → IsDrained r s end m c → AreFree bad m
  drained_free drain.Drained m c h = behind_free h.0 _ m c (λ b d i. looked_free idle b i.0) h.1
  drained_free (drain.AdminFault n) m c h = behind_free h.0 _ m c broken_free h.1
  drained_free drain.Memory m c h = behind_free h.0 _ m c broken_free h.1

  short_free : (now : ℕ) (m : List Entry) → IsCutShort now m → AreFree bad m
  short_free now m (inl h) = subst (AreFree bad) (sym h) tt
  short_free now m (inr h) = subst (AreFree bad) (sym h.1) (ap bad h.2 ∙ spared.looks now, tt)

  -- what is asked, where neither an event that is asked nor what follows a look is of the kind
  done_free : (a : Asked) (x : Told) (m : List Entry) (c : List ChunkCopy) → ((e : Event) → a ≡ asked.Once e → bad e ≡ false)
      → ((now alert heal : ℕ) → a ≡ asked.Detects now alert heal → IsDetected r now alert heal x m ⊎ IsCutShort now m → AreFree bad m) → IsDone r s a x m c → AreFree bad m
  done_free (asked.Once e) (told.Core y) m c other behind h = subst (AreFree bad) (sym h.0.1) (ap bad h.0.2 ∙ other e refl, tt)
  done_free (asked.Once e) (told.Step f) m c other behind h = subst (AreFree bad) (sym h.1.0) tt
  done_free (asked.Once e) _ m c other behind h = absurd h
  done_free (asked.Rounds n) (told.Pump end) m c other behind h = pumped_free n end m c h
  done_free (asked.Rounds n) _ m c other behind h = absurd h
  done_free (asked.Detects now alert heal) (told.Core y) m c other behind h = behind now alert heal refl (inl h.0)
  done_free (asked.Detects now alert heal) (told.Decided d) m c other behind h = behind now alert heal refl (inl h.0)
  done_free (asked.Detects now alert heal) (told.Step f) m c other behind h = behind now alert heal refl (inr h.1)
  done_free (asked.Detects now alert heal) _ m c other behind h = absurd h
  done_free (asked.Looks now alert heal) (told.Core y) m c other behind h = subst (AreFree bad) (sym h.0.made_is) (ap bad h.0.asks ∙ spared.looks now, tt)
  done_free (asked.Looks now alert heal) (told.Decided d) m c other behind h = subst (AreFree bad) (sym h.0.made_is) (ap bad h.0.asks ∙ spared.looks now, tt)
  done_free (asked.Looks now alert heal) (told.Step f) m c other behind h = short_free now m h.1
  done_free (asked.Looks now alert heal) _ m c other behind h = absurd h

  called_free : (means : Result Call HttpFault) (x : Told) (m : List Entry) (c : List ChunkCopy) → ((c : Call) (e : Event) → asked_by c ≡ asked.Once e → bad e ≡ false)
      → ((c : Call) (now alert heal : ℕ) → means ≡ Ok c → asked_by c ≡ asked.Detects now alert heal → IsDetected r now alert heal x m ⊎ IsCutShort now m → AreFree bad m) → IsCalled r s means x m c → AreFree bad m
  called_free means (told.Http f) m c other behind h = subst (AreFree bad) (sym h.1.0) tt
  called_free means (told.Core y) m c other behind h = done_free (asked_by h.0) (told.Core y) m c (other h.0) (λ now alert heal. behind h.0 now alert heal h.1) h.2
  called_free means (told.Step y) m c other behind h = done_free (asked_by h.0) (told.Step y) m c (other h.0) (λ now alert heal. behind h.0 now alert heal h.1) h.2
  called_free means (told.Decided y) m c other behind h = done_free (asked_by h.0) (told.Decided y) m c (other h.0) (λ now alert heal. behind h.0 now alert heal h.1) h.2
  called_free means (told.Pump y) m c other behind h = done_free (asked_by h.0) (told.Pump y) m c (other h.0) (λ now alert heal. behind h.0 now alert heal h.1) h.2
  called_free means (told.Stopped y) m c other behind h = done_free (asked_by h.0) (told.Stopped y) m c (other h.0) (λ now alert heal. behind h.0 now alert heal h.1) h.2
  called_free means (told.Board y) m c other behind h = done_free (asked_by h.0) (told.Board y) m c (other h.0) (λ now alert heal. behind h.0 now alert heal h.1) h.2
  called_free means told.Ending m c other behind h = done_free (asked_by h.0) told.Ending m c (other h.0) (λ now alert heal. behind h.0 now alert heal h.1) h.2
  called_free means told.Page m c other behind h = done_free (asked_by h.0) told.Page m c (other h.0) (λ now alert heal. behind h.0 now alert heal h.1) h.2

-- what starts something asks nothing of the detector, nor does what is plainly asked
started_looks : (c : Call) (now alert heal : ℕ) → starts c ≡ true → asked_by c ≡ asked.Detects now alert heal → ⊥
started_looks (call.Detect a b c) now alert heal s e = cc
started_looks _ now alert heal s e = cc

plainly_looks : (c : Call) (now alert heal : ℕ) → plainly_asked c ≡ asked.Detects now alert heal → ⊥
plainly_looks (call.Detect a b c) now alert heal e = cc
plainly_looks _ now alert heal e = cc

pub plainly_once : (c : Call) (e : Event) → plainly_asked c ≡ asked.Once e → asked_by c ≡ asked.Once e
plainly_once (call.Detect a b c) e h = absurd cc
plainly_once _ e h = h

module _ (bad : Event → Bool) (spared : IsSpared bad) (r : Rules) (s : List Event) (x : Told) (m : List Entry) (c : List ChunkCopy) where
  -- what is plainly asked, where no event that is asked is of the kind
  pub plainly_free : (a : Call) → ((e : Event) → plainly_asked a ≡ asked.Once e → bad e ≡ false) → IsDone r s (plainly_asked a) x m c → AreFree bad m
  plainly_free a other h = done_free bad spared r s (plainly_asked a) x m c other (λ now alert heal e k. absurd (plainly_looks a now alert heal e)) h

  begun_free : (a : Call) (b : Bool) → starts a ≡ b → ((e : Event) → asked_by a ≡ asked.Once e → bad e ≡ false) → IsBegun r s a b x m c → AreFree bad m
  begun_free a true same other h = done_free bad spared r s (asked_by a) x m c other (λ now alert heal e k. absurd (started_looks a now alert heal same e)) h
  begun_free a false same other h = subst (AreFree bad) (sym h.1.0) tt

  module _ (other : (a : Call) (e : Event) → asked_by a ≡ asked.Once e → bad e ≡ false) where
    started_free : (means : Result Call HttpFault) → IsStarted r s means x m c → AreFree bad m
    started_free (Ok a) h = begun_free a (starts a) refl (other a) h
    started_free (Err f) h = subst (AreFree bad) (sym h.1.0) tt

    followed_free : (y : BoardReply) → HasFollowedReply r s y x m c → AreFree bad m
    followed_free (answer.Given target) (inl h) = started_free (meaning (given_request target)) h
    followed_free (answer.Given target) (inr h) = subst (AreFree bad) (sym h.1.0) tt
    followed_free _ h = subst (AreFree bad) (sym h.1.0) tt

    noted_free : (e : BoardEvent) (n : List BoardEntry) → IsNoted r s e x m c n → AreFree bad m
    noted_free e n (inl h) = followed_free (board_reply h.entry) h.followed
    noted_free e n (inr h) = subst (AreFree bad) (sym h.1.0) tt

    meant_free : (means : Result ReviewCall HttpFault) (n : List BoardEntry) → IsMeant r s means x m c n → AreFree bad m
    meant_free (Ok (review.File path target)) n h = noted_free (board.File path target) n h
    meant_free (Ok (review.Take id path)) n h = noted_free (board.Take id path) n h
    meant_free (Ok (review.Review approve discard)) n h = noted_free (board.Review approve discard) n h
    meant_free (Ok review.List) n h = noted_free board.List n h
    meant_free (Ok (review.Plain a)) n h = plainly_free a (λ e is. other a e (plainly_once a e is)) h.0
    meant_free (Err f) n h = subst (AreFree bad) (sym h.1.0) tt

    -- a request with a board, where no event that a call asks is of the kind
    pub reviewed_free : (means : Result ReviewCall HttpFault) (n : List BoardEntry) → IsReviewed r s means x m c n → AreFree bad m
    reviewed_free means n (inl h) = meant_free means n h
    reviewed_free means n (inr h) = subst (AreFree bad) (sym h.0.1.0) tt

-- no event that a call asks is Close, or a fix
asked_open : (c : Call) (e : Event) → asked_by c ≡ asked.Once e → is_close e ≡ false
asked_open (call.Pump steps) e h = absurd cc
asked_open (call.Detect now alert heal) e h = absurd cc
asked_open _ e h = ap is_close (sym (once_is _ e h))

asked_no_fix : (c : Call) (e : Event) → asked_by c ≡ asked.Once e → is_heal e ≡ false
asked_no_fix (call.Pump steps) e h = absurd cc
asked_no_fix (call.Detect now alert heal) e h = absurd cc
asked_no_fix _ e h = ap is_heal (sym (once_is _ e h))

module _ (r : Rules) (s : List Event) where
  -- nor is a look, or what follows it, Close
  decided_open : (d : Decision) (x : Told) (m : List Entry) → IsDecided r d x m → AreFree is_close m
  decided_open (decision.Fix why ask) (told.Core y) m h = subst (AreFree is_close) (sym h.1) (ap is_close h.2, tt)
  decided_open (decision.Fix why ask) _ m h = absurd h
  decided_open _ x m h = subst (AreFree is_close) (sym h.1) tt

  looked_open : (now alert heal : ℕ) (y : Reply) (x : Told) (m : List Entry) → IsLooked r now alert heal y x m → AreFree is_close m
  looked_open now alert heal (reply.Looked v) x m h = decided_open (decided now alert heal v.since v.case v.lists) x m h
  looked_open now alert heal _ x m h = subst (AreFree is_close) (sym h.1) tt

  detected_open : (now alert heal : ℕ) (x : Told) (m : List Entry) → IsDetected r now alert heal x m ⊎ IsCutShort now m → AreFree is_close m
  detected_open now alert heal x m (inl h) = subst (AreFree is_close) (sym h.made_is) (ap is_close h.asks, looked_open now alert heal (reply_to r h.look) x h.rest h.looked)
  detected_open now alert heal x m (inr (inl h)) = subst (AreFree is_close) (sym h) tt
  detected_open now alert heal x m (inr (inr h)) = subst (AreFree is_close) (sym h.1) (ap is_close h.2, tt)

  by_open : (a : Option SiteCall) (b : Bool) (p : Piece) → IsHeardIf a b r s p.raw p.told_is p.made p.copies p.noted → AreFree is_close p.made
  by_open (Some call) b p h = subst (AreFree is_close) (sym h.1.0) tt
  by_open None false p h = called_free is_close close_spared r s (meaning p.raw) p.told_is p.made p.copies asked_open (λ c now alert heal e f. detected_open now alert heal p.told_is p.made) h.0
  by_open None true p h = reviewed_free is_close close_spared r s p.told_is p.made p.copies asked_open (reviewed_meaning p.raw) p.noted h

  piece_open : (o : Offers) (p : Piece) → IsPiece o r s p → AreFree is_close p.made
  piece_open o p h = by_open (site_asked o.site p.raw) o.reviews p h.0

  pub pieces_open : (b : Offers) (ps : List Piece) → AllByRecursion (IsPiece b r s) ps → AreFree is_close (in_order (λ p. p.made) ps)
  pieces_open b [] h = tt
  pieces_open b (p ∷ ps) h = both_free is_close p.made (in_order (λ x. x.made) ps) (piece_open b p h.0) (pieces_open b ps h.1)

  -- a piece of a request that isn't the detector's has no fix
  is_detect : (c : Call) (now alert heal : ℕ) → asked_by c ≡ asked.Detects now alert heal → c ≡ call.Detect now alert heal
  is_detect (call.Detect a b c) now alert heal e = cc
  is_detect _ now alert heal e = absurd cc

  by_no_fix : (a : Option SiteCall) (p : Piece) → IsHeardIf a false r s p.raw p.told_is p.made p.copies p.noted → ((now alert heal : ℕ) → meaning p.raw ≡ Ok (call.Detect now alert heal) → ⊥) → AreFree is_heal p.made
  by_no_fix (Some call) p h other = subst (AreFree is_heal) (sym h.1.0) tt
  by_no_fix None p h other = called_free is_heal heal_spared r s (meaning p.raw) p.told_is p.made p.copies asked_no_fix
      (λ c now alert heal e f k. absurd (other now alert heal (e ∙ ap (λ (x : Call). Ok x) (is_detect c now alert heal f)))) h.0

  pub piece_no_fix : (d : SiteView) (p : Piece) → IsPiece (record { reviews = false; site = d }) r s p → ((now alert heal : ℕ) → meaning p.raw ≡ Ok (call.Detect now alert heal) → ⊥) → AreFree is_heal p.made
  piece_no_fix d p h other = by_no_fix (site_asked d p.raw) p h.0 other

  -- nor has a piece of any request with a board
  board_no_fix : (a : Option SiteCall) (p : Piece) → IsHeardIf a true r s p.raw p.told_is p.made p.copies p.noted → AreFree is_heal p.made
  board_no_fix (Some call) p h = subst (AreFree is_heal) (sym h.1.0) tt
  board_no_fix None p h = reviewed_free is_heal heal_spared r s p.told_is p.made p.copies asked_no_fix (reviewed_meaning p.raw) p.noted h

  pub reviewed_no_fix : (d : SiteView) (ps : List Piece) → AllByRecursion (IsPiece (record { reviews = true; site = d }) r s) ps → AreFree is_heal (in_order (λ p. p.made) ps)
  reviewed_no_fix d [] h = tt
  reviewed_no_fix d (p ∷ ps) h = both_free is_heal p.made (in_order (λ x. x.made) ps) (board_no_fix (site_asked d p.raw) p h.0.0) (reviewed_no_fix d ps h.1)

-- nor has the journal whose entries are these
pub none_has : (bad : Event → Bool) (front events : List Event) → AreFree bad (entries_from front events) → list_any bad events ≡ false
none_has bad front [] h = refl
none_has bad front (e ∷ es) h = let first : bad e ≡ false = h.0 in rw first (none_has bad (front ++ e ∷ []) es h.1)

pub served_open : (b : Offers) (left old new : Option (List ℕ)) (r : Rules) (events : List Event) (before now : ℕ) (e : LinkEnd) (noted : List BoardEntry) (made : List Entry) (copies : List ChunkCopy) → IsServed b left old new r events before now e noted made copies → made ≡ entries_from [] events → list_any is_close events ≡ false
served_open b left old new r events before now e noted made copies h same = none_has is_close [] events (subst (AreFree is_close) (sym h.are.made_is ∙ same) (pieces_open r events b h.pieces h.are.are))
