-- What was made where a board was asked.
use Rattle.std.proofs.Common.{◌≡◌, ℕ, true, false, List, [], ◌∷◌, Ok, Err, refl, sym, ◌∙◌, subst, append-nil, inl, inr}
use Rattle.std.specs.Prelude.{Option, Some, None, IsSome, Result}
use Rattle.cluster_gate.specs.declared.copier.ChunkCopy.{ChunkCopy}
use Rattle.core_terms.specs.History.{is_outward}
use Rattle.core_terms.specs.declared.faults.StepFault.TheVariants as step
use Rattle.core_terms.specs.declared.events.Event.{Event}
use Rattle.mover_rounds.specs.Asked.{Entry, Known, Rules}
use Rattle.mover_rounds.specs.Made.{Copies, HasMade, failed_in}
use Rattle.rest_parse.specs.Calls.{UnlessMemory, meaning}
use Rattle.rest_parse.specs.Reviews.{reviewed_meaning}
use Rattle.rest_parse.specs.declared.calls.Call.{Call}
use Rattle.rest_parse.specs.declared.calls.HttpFault.{HttpFault}
use Rattle.rest_parse.specs.declared.calls.HttpFault.TheVariants as http
use Rattle.rest_parse.specs.declared.reviews.ReviewCall.{ReviewCall}
use Rattle.rest_parse.specs.declared.reviews.ReviewCall.TheVariants as review
use Rattle.rest_stream.specs.declared.raw.RawRequest.{RawRequest}
use Rattle.rest_replies.specs.declared.told.Told.{Told}
use Rattle.rest_replies.specs.declared.told.Told.TheVariants as told
use Rattle.review_board.specs.Asked.{BoardEntry, BoardKnown, HasNotedBy, IsUnnotedBy}
use Rattle.review_board.specs.declared.events.BoardEvent.{BoardEvent}
use Rattle.review_board.specs.declared.events.BoardEvent.TheVariants as board
use Rattle.review_board.specs.declared.events.BoardReply.{BoardReply}
use Rattle.review_board.specs.declared.events.BoardReply.TheVariants as reply
use Rattle.review_board.specs.declared.reviewer.NoteFault.TheVariants as fault
use Rattle.review_board.specs.Begins.{begins_on}
use Rattle.rest_session.specs.Calls.{HasDone, IsAskedOnce, IsDone, IsInward, asked_by, plainly_asked}
use Rattle.rest_session.specs.Reviewed.{HasAskedBoard, HasCalled, HasFollowedReply, HasStarted, IsCalledBy, IsMeant, IsNoted, IsReviewed, given_request, starts}
use Rattle.rest_session.specs.declared.calls.Asked.TheVariants as asked
use Rattle.rest_session.proofs.Calling.{inward, once_done}
use Rattle.rest_session.proofs.Making.{both_so, made_alone, made_so, nothing_made}

pub once_inward : (c : Call) (e : Event) → asked_by c ≡ asked.Once e → (is_outward e ≡ false) × (failed_in e ≡ 0)
once_inward c e h = subst IsInward h (inward c)

module _ (target : List ℕ) where
  -- a target that means a plan, a stop or other caps was asked
  pub given_done : (v w : Known) (k : Copies) (c : Call) (e : Event) (t : Told) → meaning (given_request target) ≡ Ok c → starts c ≡ true → asked_by c ≡ asked.Once e → IsAskedOnce v w e t → HasStarted v w k k target t
  given_done v w k c e t m s o h =
      made_so (IsDone v.rules w.seen (asked.Once e) t) (HasFollowedReply v.rules w.seen (reply.Given target) t) v w k k
      (λ made x d. inl (rw (m, s, o) d)) (once_done v w k e t (once_inward c e o).1 h)

  -- one that means another call is told as not found
  pub given_other : (v : Known) (k : Copies) (c : Call) → meaning (given_request target) ≡ Ok c → starts c ≡ false → HasStarted v v k k target (told.Http http.NotFound)
  given_other v k c m s = nothing_made (HasFollowedReply v.rules v.seen (reply.Given target) (told.Http http.NotFound)) v k (inl (rw (m, s) (refl, (refl, refl))))

  -- one that means none is told why
  fault_so : (r : Rules) (s : List Event) (f : HttpFault) → meaning (given_request target) ≡ Err f → HasFollowedReply r s (reply.Given target) (told.Http f) [] []
  fault_so r s f m = inl (rw m (refl, (refl, refl)))

  fault_given : (r : Rules) (s : List Event) (f : HttpFault) → UnlessMemory {T = Call} (Err f) (meaning (given_request target)) → HasFollowedReply r s (reply.Given target) (told.Http f) [] []
  fault_given r s http.Memory h = inr (refl, (refl, refl))
  fault_given r s http.NotFound h = fault_so r s http.NotFound h
  fault_given r s http.WrongMethod h = fault_so r s http.WrongMethod h
  fault_given r s (http.BadParameter name) h = fault_so r s (http.BadParameter name) h
  fault_given r s http.BadBody h = fault_so r s http.BadBody h

  pub given_fault : (v : Known) (k : Copies) (f : HttpFault) → UnlessMemory {T = Call} (Err f) (meaning (given_request target)) → HasStarted v v k k target (told.Http f)
  given_fault v k f h = nothing_made (HasFollowedReply v.rules v.seen (reply.Given target) (told.Http f)) v k (fault_given v.rules v.seen f h)

  pub given_unread : (v : Known) (k : Copies) → HasStarted v v k k target (told.Http http.Memory)
  given_unread v k = nothing_made (HasFollowedReply v.rules v.seen (reply.Given target) (told.Http http.Memory)) v k (inr (refl, (refl, refl)))

-- ---- an event of the board

-- it was answered, and what follows was made
pub board_asked : (v w : Known) (x y : Option BoardKnown) (k : Copies) (e : BoardEvent) (r : BoardReply) (t : Told) → HasNotedBy x y e r → HasMade (HasFollowedReply v.rules w.seen r t) v w k k → HasAskedBoard v w x y k k e t
board_asked v w (Some x) (Some y) k e r t n h = record {
  noted = n.entry ∷ [];
  board = (begins_on x.seen n.entry.before y.seen n.behind (e ∷ [], sym n.seen), n.own);
  made = made_so (HasFollowedReply v.rules w.seen r t) (λ m c. IsNoted v.rules w.seen e t m c (n.entry ∷ [])) v w k k
      (λ m c d. inl (record { entry = n.entry; event_is = n.event_is; noted_is = refl; followed = subst (λ z. HasFollowedReply v.rules w.seen z t m c) n.replied d })) h;
}
board_asked v w (Some x) None k e r t n h = absurd n
board_asked v w None y k e r t n h = absurd n

-- there was no memory for it
pub board_unasked : (v : Known) (x y : Option BoardKnown) (k : Copies) (e : BoardEvent) → IsUnnotedBy x y fault.Memory → HasAskedBoard v v x y k k e (told.Step step.Memory)
board_unasked v (Some x) (Some y) k e n = record {
  noted = [];
  board = (n.longer, n.own ∙ sym (append-nil x.own));
  made = nothing_made (λ m c. IsNoted v.rules v.seen e (told.Step step.Memory) m c []) v k (inr (refl, (refl, refl), refl));
}
board_unasked v (Some x) None k e n = absurd n
board_unasked v None None k e n = absurd n
board_unasked v None (Some y) k e n = absurd n

-- any other reply of the board is told
told_so : (r : Rules) (s : List Event) (a : BoardReply) → ((target : List ℕ) → a ≡ reply.Given target → ⊥) → HasFollowedReply r s a (told.Board a) [] []
told_so r s (reply.Given target) o = absurd (o target refl)
told_so r s a o = (refl, (refl, refl))

pub board_told : (v : Known) (x y : Option BoardKnown) (k : Copies) (e : BoardEvent) (r : BoardReply) → ((target : List ℕ) → r ≡ reply.Given target → ⊥) → HasNotedBy x y e r → HasAskedBoard v v x y k k e (told.Board r)
board_told v x y k e r o n = board_asked v v x y k e r (told.Board r) n (nothing_made (HasFollowedReply v.rules v.seen r (told.Board r)) v k (told_so v.rules v.seen r o))

-- ---- a request

-- the event of the board that a request is
abbrev pub IsEventOf : ReviewCall → BoardEvent → Type 0
IsEventOf (review.File path target) e = e ≡ board.File path target
IsEventOf (review.Take id path) e = e ≡ board.Take id path
IsEventOf (review.Review approve discard) e = e ≡ board.Review approve discard
IsEventOf review.List e = e ≡ board.List
IsEventOf (review.Plain c) e = ⊥

noted_is : (r : Rules) (s : List Event) (a : ReviewCall) (e : BoardEvent) → IsEventOf a e → (t : Told) (made : List Entry) (c : List ChunkCopy) (n : List BoardEntry) → IsNoted r s e t made c n → IsMeant r s (Ok a) t made c n
noted_is r s (review.File path target) e i t made c n h = subst (λ z. IsNoted r s z t made c n) i h
noted_is r s (review.Take id path) e i t made c n h = subst (λ z. IsNoted r s z t made c n) i h
noted_is r s (review.Review approve discard) e i t made c n h = subst (λ z. IsNoted r s z t made c n) i h
noted_is r s review.List e i t made c n h = subst (λ z. IsNoted r s z t made c n) i h
noted_is r s (review.Plain d) e i t made c n h = absurd i

-- an event of the board was asked
pub called_on_board : (v w : Known) (x y : Option BoardKnown) (k l : Copies) (raw : RawRequest) (a : ReviewCall) (e : BoardEvent) (t : Told) → IsSome x → reviewed_meaning raw ≡ Ok a → IsEventOf a e → HasAskedBoard v w x y k l e t → HasCalled v w x y k l raw t
called_on_board v w None y k l raw a e t some is of h = absurd cc
called_on_board v w (Some x) y k l raw a e t some is of h =
    both_so (λ n m c. IsNoted v.rules w.seen e t m c n) (λ n m c. IsCalledBy true v.rules w.seen raw t m c n) v w (Some x) y k l
    (λ n m c i. inl (subst (λ z. IsMeant v.rules w.seen z t m c n) (sym is) (noted_is v.rules w.seen a e of t m c n i))) h

-- what isn't reviewed was done at once
pub called_plainly : (v w : Known) (x : Option BoardKnown) (k l : Copies) (raw : RawRequest) (c : Call) (t : Told) → IsSome x → reviewed_meaning raw ≡ Ok (review.Plain c) → HasDone v w k l (plainly_asked c) t → HasCalled v w x x k l raw t
called_plainly v w None k l raw c t some is h = absurd cc
called_plainly v w (Some x) k l raw c t some is h =
    made_alone (λ n m d. IsCalledBy true v.rules w.seen raw t m d n) v w (Some x) k l
    (made_so (IsDone v.rules w.seen (plainly_asked c) t) (λ m d. IsCalledBy true v.rules w.seen raw t m d []) v w k l
    (λ m d i. inl (subst (λ z. IsMeant v.rules w.seen z t m d []) (sym is) (i, refl))) h)

-- a request that means nothing is told why
fault_is : (r : Rules) (s : List Event) (m : Result ReviewCall HttpFault) (f : HttpFault) → m ≡ Err f → IsReviewed r s m (told.Http f) [] [] []
fault_is r s m f e = inl (subst (λ z. IsMeant r s z (told.Http f) [] [] []) (sym e) (refl, (refl, refl), refl))

fault_reviewed : (r : Rules) (s : List Event) (m : Result ReviewCall HttpFault) (f : HttpFault) → UnlessMemory {T = ReviewCall} (Err f) m → IsReviewed r s m (told.Http f) [] [] []
fault_reviewed r s m http.Memory h = inr ((refl, (refl, refl)), refl)
fault_reviewed r s m http.NotFound h = fault_is r s m http.NotFound h
fault_reviewed r s m http.WrongMethod h = fault_is r s m http.WrongMethod h
fault_reviewed r s m (http.BadParameter name) h = fault_is r s m (http.BadParameter name) h
fault_reviewed r s m http.BadBody h = fault_is r s m http.BadBody h

pub called_not : (v : Known) (x : Option BoardKnown) (k : Copies) (raw : RawRequest) (f : HttpFault) → IsSome x → UnlessMemory {T = ReviewCall} (Err f) (reviewed_meaning raw) → HasCalled v v x x k k raw (told.Http f)
called_not v None k raw f some h = absurd cc
called_not v (Some x) k raw f some h =
    made_alone (λ n m d. IsCalledBy true v.rules v.seen raw (told.Http f) m d n) v v (Some x) k k
    (nothing_made (λ m d. IsCalledBy true v.rules v.seen raw (told.Http f) m d []) v k (fault_reviewed v.rules v.seen (reviewed_meaning raw) f h))
