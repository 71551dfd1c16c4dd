-- What is started was given out.
use Rattle.std.proofs.Common.{◌≡◌, ℕ, Bool, true, false, List, [], ◌∷◌, ◌++◌, cond, Ok, Err, refl, ap, sym, ◌∙◌, subst, append_assoc, append-nil, inl, inr}
use Rattle.std.specs.Prelude.{◌⊎◌, Option, Some, None, Result}
use Rattle.std.specs.List.{AllByRecursion}
use Rattle.cluster_gate.specs.declared.copier.ChunkCopy.{ChunkCopy}
use Rattle.core_terms.specs.Ends.{Ends, GivesBack}
use Rattle.core_terms.specs.declared.events.Event.{Event}
use Rattle.core_terms.specs.declared.events.Event.TheVariants as event
use Rattle.core_terms.specs.declared.faults.StepFault.{StepFault}
use Rattle.core_terms.specs.declared.replies.Reply.{Reply}
use Rattle.core_terms.specs.declared.replies.Reply.TheVariants as core
use Rattle.mover_rounds.specs.Asked.{Entry, Rules}
use Rattle.rest_parse.specs.Calls.{meaning}
use Rattle.rest_parse.specs.Reviews.{reviewed_meaning}
use Rattle.rest_parse.specs.declared.calls.Call.{Call}
use Rattle.rest_parse.specs.declared.sites.SiteCall.{SiteCall}
use Rattle.rest_parse.specs.declared.calls.Call.TheVariants as call
use Rattle.rest_parse.specs.declared.calls.HttpFault.{HttpFault}
use Rattle.rest_parse.specs.declared.reviews.ReviewCall.{ReviewCall}
use Rattle.rest_parse.specs.declared.reviews.ReviewCall.TheVariants as review
use Rattle.rest_stream.specs.declared.raw.RawRequest.{RawRequest}
use Rattle.rest_replies.specs.Answers.{reply_of}
use Rattle.rest_replies.specs.declared.told.Told.{Told}
use Rattle.rest_replies.specs.declared.told.Told.TheVariants as told
use Rattle.review_board.specs.Asked.{BoardEntry, reply_to}
use Rattle.review_board.specs.declared.events.BoardEvent.{BoardEvent}
use Rattle.review_board.specs.declared.events.BoardEvent.TheVariants as board
use Rattle.review_board.specs.declared.events.BoardReply.{BoardReply}
use Rattle.review_board.specs.declared.events.BoardReply.TheVariants as reply
use Rattle.rest_session.specs.Heard.{IsHeardIf, Offers, SiteView, site_asked}
use Rattle.rest_session.specs.Pieces.{ArePieces, IsPiece, IsReply, Piece, asks_head, in_order, memory_reply, sent}
use Rattle.rest_session.specs.Calls.{IsDone, plainly_asked}
use Rattle.rest_session.specs.Reviewed.{HasFollowedReply, IsMeant, IsNoted, IsReviewed, IsStarted, given_request}
use Rattle.rest_session.specs.Starts.{IsAmong, NoneWants, StartsAsGiven, given_event, given_events, is_started, started, started_by}
use Rattle.rest_session.specs.declared.calls.Asked.TheVariants as asked
use Rattle.rest_session.proofs.Meant.{asked_starts, call_starts, given_starts, plain_is_quiet}
use Rattle.rest_session.proofs.Spared.{AreFree, IsSpared, plainly_free, plainly_once, reviewed_no_fix}

-- no round starts anything, nor does a look
no_end : (what : Reply) (e : Event) → is_started e ≡ true → Ends what e → ⊥
no_end (core.Job ticket problem) (event.Submit ask id) s h = h
no_end (core.Job ticket problem) (event.Stop force) s h = h
no_end (core.Job ticket problem) (event.Caps caps) s h = h
no_end (core.Job ticket problem) (event.Planned t p) s h = cc
no_end (core.Job ticket problem) (event.Refused t f) s h = cc
no_end (core.Job ticket problem) _ s h = h
no_end (core.Work g) (event.Copied r) s h = cc
no_end (core.Work g) (event.CopyFailed lease) s h = cc
no_end (core.Work g) (event.Commit lease) s h = cc
no_end (core.Work g) (event.Cancel lease) s h = cc
no_end (core.Work g) _ s h = h
no_end _ e s h = h

false_unless : (b : Bool) → (b ≡ true → ⊥) → b ≡ false
false_unless true h = absurd (h refl)
false_unless false h = refl

back_is_still : (what : Reply) (e : Event) → GivesBack what e → is_started e ≡ false
back_is_still (core.Job ticket problem) e h = ap is_started h
back_is_still (core.Work g) e h = ap is_started h
back_is_still _ e h = absurd h

start_spared : IsSpared is_started
start_spared = record { jobs = refl; work = refl; looks = λ now. refl; ends = λ what e h. false_unless (is_started e) (λ s. no_end what e s h); backs = back_is_still }

-- ---- lists

push : (t : Bool) (e : Event) (m n k : List Event) → m ≡ n ++ k → cond t (e ∷ m) m ≡ cond t (e ∷ n) n ++ k
push true e m n k h = ap (λ y. e ∷ y) h
push false e m n k h = h

started_append : (a b : List Entry) → started (a ++ b) ≡ started a ++ started b
started_append [] b = refl
started_append (x ∷ a) b = push (is_started x.event) x.event (started (a ++ b)) (started a) (started b) (started_append a b)

given_append : (a b : List BoardEntry) → given_events (a ++ b) ≡ given_events a ++ given_events b
given_append [] b = refl
given_append (x ∷ a) b = ap (λ (y : List Event). given_event (reply_to x) ++ y) (given_append a b) ∙ sym (append_assoc (given_event (reply_to x)) (given_events a) (given_events b))

still_none : (m : List Entry) → AreFree is_started m → started m ≡ []
still_none [] h = refl
still_none (x ∷ m) h = let first : is_started x.event ≡ false = h.0 in rw first (still_none m h.1)

among_self : (xs : List Event) → IsAmong xs xs
among_self [] = tt
among_self (x ∷ xs) = inl (refl, among_self xs)

among_behind : (b c d : List Event) → IsAmong c d → IsAmong c (b ++ d)
among_behind [] c d h = h
among_behind (y ∷ b) [] d h = tt
among_behind (y ∷ b) (x ∷ c) d h = inr (among_behind b (x ∷ c) d h)

among_both : (a b c d : List Event) → IsAmong a b → IsAmong c d → IsAmong (a ++ c) (b ++ d)
among_both [] b c d h k = among_behind b c d k
among_both (x ∷ a) [] c d h k = absurd h
among_both (x ∷ a) (y ∷ b) c d (inl h) k = inl (h.0, among_both a b c d h.1 k)
among_both (x ∷ a) (y ∷ b) c d (inr h) k = inr (among_both (x ∷ a) b c d h k)

-- ---- one request

record IsOutcome (made : List Entry) (given : List Event) (t : Told) : Type 0 where
  either : (started made ≡ []) ⊎ (started made ≡ given)
  exact : (reply_of t ≡ memory_reply → ⊥) → started made ≡ given

none_out : (made : List Entry) (t : Told) → made ≡ [] → IsOutcome made [] t
none_out made t h = record { either = inl (ap started h); exact = λ n. ap started h }

want_out : (made : List Entry) (given : List Event) (t : Told) → made ≡ [] → reply_of t ≡ memory_reply → IsOutcome made given t
want_out made given t h w = record { either = inl (ap started h); exact = λ n. absurd (n w) }

module _ (rules : Rules) (seen : List Event) where
  once_out : (e : Event) (t : Told) (made : List Entry) (copies : List ChunkCopy) → is_started e ≡ true → IsDone rules seen (asked.Once e) t made copies → IsOutcome made (e ∷ []) t
  once_out e (told.Core r) made copies s h =
      let x : Entry = h.0.0 in
      let is : x.event ≡ e = h.0.2 in
      let yes : is_started x.event ≡ true = ap is_started is ∙ s in
      let one : started (x ∷ []) ≡ x.event ∷ [] = rw yes refl in
      let all : started made ≡ e ∷ [] = ap started h.0.1 ∙ (one ∙ ap (λ (y : Event). y ∷ []) is) in
      record { either = inr all; exact = λ n. all }
  once_out e (told.Step f) made copies s h = want_out made (e ∷ []) (told.Step f) h.1.0 (ap (λ (y : StepFault). reply_of (told.Step y)) h.0)
  once_out e _ made copies s h = absurd h

  started_out : (target : List ℕ) (m : Result Call HttpFault) → meaning (given_request target) ≡ m → (t : Told) (made : List Entry) (copies : List ChunkCopy) → IsStarted rules seen m t made copies → IsOutcome made (started_by m) t
  started_out target (Ok (call.Submit ask id)) e t made copies h = once_out (event.Submit ask id) t made copies (given_starts target (call.Submit ask id) refl e) h
  started_out target (Ok (call.Stop force)) e t made copies h = once_out (event.Stop force) t made copies refl h
  started_out target (Ok (call.Caps a b c)) e t made copies h = once_out (event.Caps (record { broker = a; cluster = b; leader = c })) t made copies refl h
  started_out target (Ok _) e t made copies h = none_out made t h.1.0
  started_out target (Err f) e t made copies h = none_out made t h.1.0

  behind_out : (r : BoardReply) (t : Told) (made : List Entry) (copies : List ChunkCopy) → HasFollowedReply rules seen r t made copies → IsOutcome made (given_event r) t
  behind_out (reply.Given target) t made copies (inl h) = started_out target (meaning (given_request target)) refl t made copies h
  behind_out (reply.Given target) t made copies (inr h) = want_out made (given_event (reply.Given target)) t h.1.0 (ap (λ (y : Told). reply_of y) h.0)
  behind_out _ t made copies h = none_out made t h.1.0

  nothing_out : (t : Told) (made : List Entry) (noted : List BoardEntry) → made ≡ [] → noted ≡ [] → IsOutcome made (given_events noted) t
  nothing_out t made noted h k = subst (λ (y : List BoardEntry). IsOutcome made (given_events y) t) (sym k) (none_out made t h)

  noted_out : (e : BoardEvent) (t : Told) (made : List Entry) (copies : List ChunkCopy) (noted : List BoardEntry) → IsNoted rules seen e t made copies noted → IsOutcome made (given_events noted) t
  noted_out e t made copies noted (inl h) =
      let one : given_event (reply_to h.entry) ≡ given_events noted = sym (append-nil (given_event (reply_to h.entry))) ∙ ap (λ (y : List BoardEntry). given_events y) (sym h.noted_is) in
      subst (λ (y : List Event). IsOutcome made y t) one (behind_out (reply_to h.entry) t made copies h.followed)
  noted_out e t made copies noted (inr h) = nothing_out t made noted h.1.0 h.2

  plain_out : (c : Call) (t : Told) (made : List Entry) (copies : List ChunkCopy) (noted : List BoardEntry) → call_starts c ≡ false → IsDone rules seen (plainly_asked c) t made copies → noted ≡ [] → IsOutcome made (given_events noted) t
  plain_out c t made copies noted q h k =
      let none : started made ≡ [] = still_none made (plainly_free is_started start_spared rules seen t made copies c (λ e is. asked_starts c e (plainly_once c e is) ∙ q) h) in
      subst (λ (y : List BoardEntry). IsOutcome made (given_events y) t) (sym k) (record { either = inl none; exact = λ n. none })

  meant_out : (raw : RawRequest) (m : Result ReviewCall HttpFault) → reviewed_meaning raw ≡ m → (t : Told) (made : List Entry) (copies : List ChunkCopy) (noted : List BoardEntry) → IsMeant rules seen m t made copies noted → IsOutcome made (given_events noted) t
  meant_out raw (Ok (review.File path target)) e t made copies noted h = noted_out (board.File path target) t made copies noted h
  meant_out raw (Ok (review.Take id path)) e t made copies noted h = noted_out (board.Take id path) t made copies noted h
  meant_out raw (Ok (review.Review approve discard)) e t made copies noted h = noted_out (board.Review approve discard) t made copies noted h
  meant_out raw (Ok review.List) e t made copies noted h = noted_out board.List t made copies noted h
  meant_out raw (Ok (review.Plain c)) e t made copies noted h = plain_out c t made copies noted (plain_is_quiet raw c e) h.0 h.1
  meant_out raw (Err f) e t made copies noted h = nothing_out t made noted h.1.0 h.2

  by_out : (a : Option SiteCall) (p : Piece) → IsHeardIf a true rules seen p.raw p.told_is p.made p.copies p.noted → IsOutcome p.made (given_events p.noted) p.told_is
  by_out (Some call) p h = nothing_out p.told_is p.made p.noted h.1.0 h.2
  by_out None p h = at h where
    at : IsReviewed rules seen (reviewed_meaning p.raw) p.told_is p.made p.copies p.noted → IsOutcome p.made (given_events p.noted) p.told_is
    at (inl m) = meant_out p.raw (reviewed_meaning p.raw) refl p.told_is p.made p.copies p.noted m
    at (inr u) = nothing_out p.told_is p.made p.noted u.0.1.0 u.1

  piece_out : (d : SiteView) (p : Piece) → IsPiece (record { reviews = true; site = d }) rules seen p → IsOutcome p.made (given_events p.noted) p.told_is
  piece_out d p h = by_out (site_asked d p.raw) p h.0

  wants : (alone : Bool) (t : Told) (reply : List ℕ) → IsReply alone t reply → (reply ≡ sent alone memory_reply → ⊥) → reply_of t ≡ memory_reply → ⊥
  wants alone t reply (inl is) n w = n (is ∙ ap (λ (y : List ℕ). sent alone y) w)
  wants alone t reply (inr is) n w = n is

  among_one : (p : Piece) → IsOutcome p.made (given_events p.noted) p.told_is → IsAmong (started p.made) (given_events p.noted)
  among_one p o = elim o.either [
    | inl none ↦ subst (λ (y : List Event). IsAmong y (given_events p.noted)) (sym none) tt
    | inr all ↦ subst (λ (y : List Event). IsAmong y (given_events p.noted)) (sym all) (among_self (given_events p.noted))
  ]

  all_among : (d : SiteView) (ps : List Piece) → AllByRecursion (IsPiece (record { reviews = true; site = d }) rules seen) ps → IsAmong (started (in_order (λ p. p.made) ps)) (given_events (in_order (λ p. p.noted) ps))
  all_among d [] h = tt
  all_among d (p ∷ ps) h =
      rw (started_append p.made (in_order (λ x. x.made) ps), given_append p.noted (in_order (λ x. x.noted) ps))
      (among_both (started p.made) (given_events p.noted) (started (in_order (λ x. x.made) ps)) (given_events (in_order (λ x. x.noted) ps)) (among_one p (piece_out d p h.0)) (all_among d ps h.1))

  all_exact : (d : SiteView) (ps : List Piece) → AllByRecursion (IsPiece (record { reviews = true; site = d }) rules seen) ps → NoneWants ps → started (in_order (λ p. p.made) ps) ≡ given_events (in_order (λ p. p.noted) ps)
  all_exact d [] h n = refl
  all_exact d (p ∷ ps) h n =
      let one : started p.made ≡ given_events p.noted = (piece_out d p h.0).exact (wants (asks_head p.raw) p.told_is p.reply h.0.1 n.0) in
      started_append p.made (in_order (λ x. x.made) ps)
      ∙ (ap (λ (y : List Event). y ++ started (in_order (λ x. x.made) ps)) one
      ∙ (ap (λ (y : List Event). given_events p.noted ++ y) (all_exact d ps h.1 n.1)
      ∙ sym (given_append p.noted (in_order (λ x. x.noted) ps))))

-- so do the pieces of a link
given_if : (b : Bool) (d : SiteView) (rules : Rules) (seen : List Event) (pieces : List Piece) (noted : List BoardEntry) (made : List Entry) (copies : List ChunkCopy) → ArePieces (record { reviews = b; site = d }) rules seen pieces noted made copies → b ≡ true → StartsAsGiven pieces noted made
given_if false d rules seen pieces noted made copies h e = absurd cc
given_if true d rules seen pieces noted made copies h e = record {
  among = rw (h.made_is, h.noted_is) (all_among rules seen d pieces h.are);
  all = λ n. ap (λ (y : List Entry). started y) h.made_is ∙ (all_exact rules seen d pieces h.are n ∙ ap (λ (y : List BoardEntry). given_events y) (sym h.noted_is));
  no_fix = rw h.made_is (reviewed_no_fix rules seen d pieces h.are);
}

pub given_only : (o : Offers) (rules : Rules) (seen : List Event) (pieces : List Piece) (noted : List BoardEntry) (made : List Entry) (copies : List ChunkCopy) → ArePieces o rules seen pieces noted made copies → o.reviews ≡ true → StartsAsGiven pieces noted made
given_only o rules seen pieces noted made copies h e = given_if o.reviews o.site rules seen pieces noted made copies h e
