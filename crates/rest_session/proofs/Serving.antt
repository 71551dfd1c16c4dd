-- Requests, one behind another.
use Rattle.std.proofs.Common.{◌≡◌, ℕ, ◌≤◌, Bool, true, false, List, [], ◌∷◌, ◌++◌, take, Ok, Err, refl, ap, sym, ◌∙◌, subst, append_assoc, append-nil, suc, arith, inl, inr}
use Rattle.std.specs.Prelude.{Option, Some, None, IfSome, IsSome, OnErr, Result, is_err, is_some}
use Rattle.std.specs.List.{AllByRecursion}
use Rattle.std.proofs.lemmas.List.{map-append}
use mathlib.Core.List.{IsPrefix}
use Rattle.cc_base.specs.Outside.{HasRisen, IsPrefixOut, appended}
use Rattle.cluster_gate.specs.declared.copier.ChunkCopy.{ChunkCopy}
use Rattle.core_terms.specs.declared.events.Event.{Event}
use Rattle.mover_rounds.specs.Asked.{Entry, Known, Rules}
use Rattle.mover_rounds.specs.Made.{Copies}
use Rattle.mover_rounds.proofs.Later.{pumped_later}
use Rattle.rest_parse.specs.Calls.{meaning}
use Rattle.rest_parse.specs.Reviews.{reviewed_meaning}
use Rattle.rest_parse.specs.declared.calls.Call.{Call}
use Rattle.rest_parse.specs.declared.calls.HttpFault.{HttpFault}
use Rattle.rest_parse.specs.declared.sites.SiteCall.{SiteCall}
use Rattle.rest_parse.specs.declared.reviews.ReviewCall.{ReviewCall}
use Rattle.rest_parse.specs.declared.reviews.ReviewCall.TheVariants as review
use Rattle.rest_stream.specs.Stream.{IsRequest, Requests, StopsBy, closed, is_last, stopped, stream_of}
use Rattle.rest_stream.specs.Whole.{Leads}
use Rattle.rest_stream.specs.declared.raw.RawRequest.{RawRequest}
use Rattle.rest_stream.specs.declared.raw.Stop.{Stop}
use Rattle.rest_stream.specs.declared.raw.Stop.TheVariants as stop
use Rattle.rest_stream.proofs.Leading.{leads_closed, leads_end, leads_on}
use Rattle.rest_replies.specs.declared.told.Told.{Told}
use Rattle.rest_replies.specs.declared.told.Told.TheVariants as told
use Rattle.review_board.specs.Asked.{BoardEntry, BoardKnown, reply_to}
use Rattle.review_board.specs.declared.events.BoardEvent.{BoardEvent}
use Rattle.review_board.specs.declared.events.BoardEvent.TheVariants as board
use Rattle.review_board.specs.declared.events.BoardReply.{BoardReply}
use Rattle.review_board.specs.declared.events.BoardReply.TheVariants as reply
use Rattle.rest_session.specs.Calls.{IsCalled, IsDone, asked_by, plainly_asked}
use Rattle.rest_session.specs.Heard.{IsHeard, IsHeardIf, Offers, SiteView, offers, site_asked}
use Rattle.rest_session.specs.Reviewed.{HasFollowedReply, HasMadeBoth, IsBegun, IsCalledBy, IsMeant, IsNoted, IsReviewed, IsStarted, given_request, starts}
use Rattle.rest_session.specs.Answered.{AreBlamed, Begins, HasAnswered, HasEnded, HasServed, IsAnswered, IsBlamed, IsCutIn, IsRefused, IsServed, IsStopped, IsWritten, end_of, fault_told}
use Rattle.rest_session.specs.Pieces.{ArePieces, IsPiece, Piece, in_order, raws_of, replies_of}
use Rattle.rest_session.specs.declared.calls.Asked.{Asked}
use Rattle.rest_session.specs.declared.calls.Asked.TheVariants as asked
use Rattle.rest_session.specs.declared.session.LinkEnd.{LinkEnd}
use Rattle.rest_session.specs.declared.session.LinkEnd.TheVariants as end
use Rattle.rest_session.proofs.Making.{board_lasts, both_so, made_alone, made_behind, nothing_made}
use Rattle.rest_session.proofs.Refusing.{never_shut, nothing_more, refused_silent}
use Rattle.rest_session.proofs.Starting.{given_only}

-- pieces so far, of the first requests, whose replies are out
pub record AreSoFar (o : Offers) (old new : Option (List ℕ)) (raws : List RawRequest) (rules : Rules) (seen : List Event) (before now : ℕ) (noted : List BoardEntry) (made : List Entry) (copies : List ChunkCopy) : Type 0 where
  pub pieces : List Piece
  pub are : ArePieces o rules seen pieces noted made copies
  pub blamed : AreBlamed before now pieces
  pub raws_are : raws ≡ raws_of pieces
  pub out : new ≡ appended old (replies_of pieces)

-- these requests were answered, with their replies out
abbrev pub HasSoFar : SiteView → Known → Known → Option BoardKnown → Option BoardKnown → Copies → Copies → Option (List ℕ) → Option (List ℕ) → List RawRequest → Type 0
HasSoFar d v w x y k l old new raws = HasMadeBoth (AreSoFar (offers d x) old new raws v.rules w.seen v.blamed w.blamed) v w x y k l

-- so many requests were read, their replies are out, and those of what is left follow
pub record IsServing (d : SiteView) (left old before new : Option (List ℕ)) (given : ℕ) (v w : Known) (x y : Option BoardKnown) (k l : Copies) : Type 0 where
  pub raws : List RawRequest
  pub leads : Leads left raws given before
  pub did : HasSoFar d v w x y k l old new raws

-- what was called holds on when more is seen
done_later : (r : Rules) (s t : List Event) → IsPrefix s t → (a : Asked) (x : Told) (m : List Entry) (c : List ChunkCopy) → IsDone r s a x m c → IsDone r t a x m c
done_later r s t p (asked.Once e) (told.Core y) m c h = h
done_later r s t p (asked.Once e) (told.Step f) m c h = h
done_later r s t p (asked.Once e) _ m c h = absurd h
done_later r s t p (asked.Rounds n) (told.Pump end) m c h = pumped_later r s t p n end m c h
done_later r s t p (asked.Rounds n) _ m c h = absurd h
done_later r s t p (asked.Detects now alert heal) (told.Core y) m c h = h
done_later r s t p (asked.Detects now alert heal) (told.Decided d) m c h = h
done_later r s t p (asked.Detects now alert heal) (told.Step f) m c h = h
done_later r s t p (asked.Detects now alert heal) _ m c h = absurd h
done_later r s t p (asked.Looks now alert heal) (told.Core y) m c h = h
done_later r s t p (asked.Looks now alert heal) (told.Decided d) m c h = h
done_later r s t p (asked.Looks now alert heal) (told.Step f) m c h = h
done_later r s t p (asked.Looks now alert heal) _ m c h = absurd h

called_later : (r : Rules) (s t : List Event) → IsPrefix s t → (means : Result Call HttpFault) (x : Told) (m : List Entry) (c : List ChunkCopy) → IsCalled r s means x m c → IsCalled r t means x m c
called_later r s t p means (told.Http f) m c h = h
called_later r s t p means (told.Core y) m c h = (h.0, h.1, done_later r s t p (asked_by h.0) (told.Core y) m c h.2)
called_later r s t p means (told.Step y) m c h = (h.0, h.1, done_later r s t p (asked_by h.0) (told.Step y) m c h.2)
called_later r s t p means (told.Decided y) m c h = (h.0, h.1, done_later r s t p (asked_by h.0) (told.Decided y) m c h.2)
called_later r s t p means (told.Pump y) m c h = (h.0, h.1, done_later r s t p (asked_by h.0) (told.Pump y) m c h.2)
called_later r s t p means (told.Stopped y) m c h = (h.0, h.1, done_later r s t p (asked_by h.0) (told.Stopped y) m c h.2)
called_later r s t p means (told.Board y) m c h = (h.0, h.1, done_later r s t p (asked_by h.0) (told.Board y) m c h.2)
called_later r s t p means told.Ending m c h = (h.0, h.1, done_later r s t p (asked_by h.0) told.Ending m c h.2)
called_later r s t p means told.Page m c h = (h.0, h.1, done_later r s t p (asked_by h.0) told.Page m c h.2)

module _ (r : Rules) (s t : List Event) (p : IsPrefix s t) (x : Told) (m : List Entry) (c : List ChunkCopy) where
  begun_later : (a : Call) (b : Bool) → IsBegun r s a b x m c → IsBegun r t a b x m c
  begun_later a true h = done_later r s t p (asked_by a) x m c h
  begun_later a false h = h

  started_later : (means : Result Call HttpFault) → IsStarted r s means x m c → IsStarted r t means x m c
  started_later (Ok a) h = begun_later a (starts a) h
  started_later (Err f) h = h

  followed_later : (a : BoardReply) → HasFollowedReply r s a x m c → HasFollowedReply r t a x m c
  followed_later (reply.Given target) (inl h) = inl (started_later (meaning (given_request target)) h)
  followed_later (reply.Given target) (inr h) = inr h
  followed_later _ h = h

  noted_later : (e : BoardEvent) (n : List BoardEntry) → IsNoted r s e x m c n → IsNoted r t e x m c n
  noted_later e n (inl h) = inl (record { entry = h.entry; event_is = h.event_is; noted_is = h.noted_is; followed = followed_later (reply_to h.entry) h.followed })
  noted_later e n (inr h) = inr h

  meant_later : (means : Result ReviewCall HttpFault) (n : List BoardEntry) → IsMeant r s means x m c n → IsMeant r t means x m c n
  meant_later (Ok (review.File path target)) n h = noted_later (board.File path target) n h
  meant_later (Ok (review.Take id path)) n h = noted_later (board.Take id path) n h
  meant_later (Ok (review.Review approve discard)) n h = noted_later (board.Review approve discard) n h
  meant_later (Ok review.List) n h = noted_later board.List n h
  meant_later (Ok (review.Plain a)) n h = (done_later r s t p (plainly_asked a) x m c h.0, h.1)
  meant_later (Err f) n h = h

  reviewed_later : (means : Result ReviewCall HttpFault) (n : List BoardEntry) → IsReviewed r s means x m c n → IsReviewed r t means x m c n
  reviewed_later means n (inl h) = inl (meant_later means n h)
  reviewed_later means n (inr h) = inr h

  by_later : (b : Bool) (raw : RawRequest) (n : List BoardEntry) → IsCalledBy b r s raw x m c n → IsCalledBy b r t raw x m c n
  by_later true raw n h = reviewed_later (reviewed_meaning raw) n h
  by_later false raw n h = (called_later r s t p (meaning raw) x m c h.0, h.1)

  told_later : (a : Option SiteCall) (b : Bool) (raw : RawRequest) (n : List BoardEntry) → IsHeardIf a b r s raw x m c n → IsHeardIf a b r t raw x m c n
  told_later (Some call) b raw n h = h
  told_later None b raw n h = by_later b raw n h

  heard_later : (o : Offers) (raw : RawRequest) (n : List BoardEntry) → IsHeard o r s raw x m c n → IsHeard o r t raw x m c n
  heard_later o raw n h = told_later (site_asked o.site raw) o.reviews raw n h

pieces_later : (b : Offers) (r : Rules) (s t : List Event) → IsPrefix s t → (ps : List Piece) → AllByRecursion (IsPiece b r s) ps → AllByRecursion (IsPiece b r t) ps
pieces_later b r s t p [] h = h
pieces_later b r s t p (x ∷ xs) h = ((heard_later r s t p x.told_is x.made x.copies b x.raw x.noted h.0.0, h.0.1), pieces_later b r s t p xs h.1)

-- one piece more
all_more : (P : Piece → Type 0) (ps : List Piece) (p : Piece) → AllByRecursion P ps → P p → AllByRecursion P (ps ++ p ∷ [])
all_more P [] p h k = (k, tt)
all_more P (x ∷ ps) p h k = (h.0, all_more P ps p h.1 k)

in_order_more : {A : Type 0} (f : Piece → List A) (ps : List Piece) (p : Piece) → in_order f (ps ++ p ∷ []) ≡ in_order f ps ++ f p
in_order_more f [] p = append-nil (f p)
in_order_more f (x ∷ ps) p = ap (λ y. f x ++ y) (in_order_more f ps p) ∙ sym (append_assoc (f x) (in_order f ps) (f p))

blamed_more : (before between now : ℕ) (ps : List Piece) (p : Piece) → AreBlamed before between ps → IsBlamed (fault_told p.told_is) between now → AreBlamed before now (ps ++ p ∷ [])
blamed_more before between now [] p h k = (now, subst (λ n. IsBlamed (fault_told p.told_is) n now) h k, refl)
blamed_more before between now (x ∷ ps) p h k = (h.0, h.1, blamed_more h.0 between now ps p h.2 k)

-- the bytes that are told, with two pieces at their end
told_both : (old mid new : Option (List ℕ)) (a b : List ℕ) → mid ≡ appended old a → new ≡ appended mid b → new ≡ appended old (a ++ b)
told_both None mid new a b p q = q ∙ ap (λ m. appended m b) p
told_both (Some x) mid new a b p q = q ∙ (ap (λ m. appended m b) p ∙ ap Some (append_assoc x a b))

-- a reply that was cut, behind others that are out
cut_behind : (old mid new : Option (List ℕ)) (a b : List ℕ) → mid ≡ appended old a → IsPrefixOut mid new b → IsCutIn old new a b
cut_behind old mid new a b p q = (q.0, q.1, told_both old mid new a (take q.0 b) p q.2)

module _ (b d : Offers) (f : d ≡ b) (r q : Rules) (s t : List Event) (e : q ≡ r) (p : IsPrefix s t) (raw : RawRequest) (before now : ℕ) where
  -- the pieces with that of the request, whatever was written
  piece_of : {E : Type 0} (mid new : Option (List ℕ)) (result : Result (Unit {0}) E) (n : List BoardEntry) (m : List Entry) (c : List ChunkCopy) → IsAnswered d raw mid new result q t before now n m c → Piece
  piece_of mid new result n m c h = record { raw = raw; told_is = h.told_is; made = m; copies = c; noted = n; reply = h.reply }

  is_piece : {E : Type 0} (mid new : Option (List ℕ)) (result : Result (Unit {0}) E) (n : List BoardEntry) (m : List Entry) (c : List ChunkCopy) (h : IsAnswered d raw mid new result q t before now n m c) → IsHeard b r t raw h.told_is m c n
  is_piece mid new result n m c h = subst (λ x. IsHeard b x t raw h.told_is m c n) e (subst (λ (x : Offers). IsHeard x q t raw h.told_is m c n) f h.called)

  more_pieces : {E : Type 0} (mid new : Option (List ℕ)) (result : Result (Unit {0}) E) (ps : List Piece) (na : List BoardEntry) (a : List Entry) (ca : List ChunkCopy) (nb : List BoardEntry) (o : List Entry) (co : List ChunkCopy) → ArePieces b r s ps na a ca
      → (h : IsAnswered d raw mid new result q t before now nb o co) → ArePieces b r t (ps ++ piece_of mid new result nb o co h ∷ []) (na ++ nb) (a ++ o) (ca ++ co)
  unfolding piece_of
  more_pieces mid new result ps na a ca nb o co g h = record {
    are = all_more (IsPiece b r t) ps (piece_of mid new result nb o co h) (pieces_later b r s t p ps g.are) (is_piece mid new result nb o co h, h.reply_is);
    noted_is = ap (λ y. y ++ nb) g.noted_is ∙ sym (in_order_more (λ x. x.noted) ps (piece_of mid new result nb o co h));
    made_is = ap (λ y. y ++ o) g.made_is ∙ sym (in_order_more (λ x. x.made) ps (piece_of mid new result nb o co h));
    copies_are = ap (λ y. y ++ co) g.copies_are ∙ sym (in_order_more (λ x. x.copies) ps (piece_of mid new result nb o co h));
  }

raws_more : (raw : RawRequest) (raws : List RawRequest) (ps : List Piece) (x : Piece) → raws ≡ raws_of ps → x.raw ≡ raw → raws ++ raw ∷ [] ≡ raws_of (ps ++ x ∷ [])
raws_more raw raws ps x h k = ap (λ y. y ++ raw ∷ []) h ∙ (ap (λ (y : RawRequest). raws_of ps ++ y ∷ []) (sym k) ∙ sym (map-append (λ y. y.raw) ps (x ∷ [])))

module _ (d : SiteView) (v u w : Known) (x y z : Option BoardKnown) (k j l : Copies) (old mid new : Option (List ℕ)) (raws : List RawRequest) (raw : RawRequest) (so_far : HasSoFar d v u x y k j old mid raws) where
  -- what was made so far, and for the request, with the piece of the request
  served_so : {E : Type 0} (r : Result (Unit {0}) E) (S : List BoardEntry → List Entry → List ChunkCopy → Type 0)
      → ((ps : List Piece) (p : Piece) (n : List BoardEntry) (m : List Entry) (c : List ChunkCopy) → ArePieces (offers d x) v.rules w.seen (ps ++ p ∷ []) n m c → AreBlamed v.blamed w.blamed (ps ++ p ∷ []) → raws ++ raw ∷ [] ≡ raws_of (ps ++ p ∷ []) → mid ≡ appended old (replies_of ps)
      → IsWritten mid new r p.reply → S n m c)
      → HasAnswered d u w y z j l raw mid new r → HasMadeBoth S v w x z k l
  unfolding piece_of
  served_so r S f h =
      let same : offers d y ≡ offers d x = ap (λ (o : Bool). record { reviews = o; site = d }) (board_lasts x y so_far.noted so_far.board) in
      made_behind (AreSoFar (offers d x) old mid raws v.rules u.seen v.blamed u.blamed) (IsAnswered (offers d y) raw mid new r u.rules w.seen u.blamed w.blamed) S v u w x y z k j l
      (λ na a ca nb b cb g i.
      let p : Piece = piece_of (offers d x) (offers d y) same v.rules u.rules u.seen w.seen so_far.made.rules h.made.longer raw u.blamed w.blamed mid new r nb b cb i in
      f g.pieces p (na ++ nb) (a ++ b) (ca ++ cb)
      (more_pieces (offers d x) (offers d y) same v.rules u.rules u.seen w.seen so_far.made.rules h.made.longer raw u.blamed w.blamed mid new r g.pieces na a ca nb b cb g.are i)
      (blamed_more v.blamed u.blamed w.blamed g.pieces p g.blamed i.blamed)
      (raws_more raw raws g.pieces p g.raws_are refl)
      g.out i.written) so_far h

  -- its reply is out
  pub served_more : {E : Type 0} (done : Unit {0}) → HasAnswered {E = E} d u w y z j l raw mid new (Ok done) → HasSoFar d v w x z k l old new (raws ++ raw ∷ [])
  served_more {E = E} done h = served_so {E = E} (Ok done) (AreSoFar (offers d x) old new (raws ++ raw ∷ []) v.rules w.seen v.blamed w.blamed)
      (λ ps p n m c are blamed raws_are out written. record {
        pieces = ps ++ p ∷ [];
        are = are;
        blamed = blamed;
        raws_are = raws_are;
        out = told_both old mid new (replies_of ps) p.reply out written ∙ ap (λ o. appended old o) (sym (in_order_more (λ o. o.reply) ps p));
      }) h

  -- the write failed within it
  pub served_cut : {E : Type 0} (left : Option (List ℕ)) (f : E) → IfSome left (λ s. Begins s (raws ++ raw ∷ [])) → HasAnswered d u w y z j l raw mid new (Err f) → HasServed d v w x z k l left old new end.WriteFault
  served_cut left f begins h = served_so (Err f) (IsServed (offers d x) left old new v.rules w.seen v.blamed w.blamed end.WriteFault)
      (λ ps p n m c are blamed raws_are out written. record {
        pieces = ps ++ p ∷ [];
        are = are;
        blamed = blamed;
        ended = inl (
          ps,
          p,
          refl,
          subst (λ o. IfSome left (λ s. Begins s o)) raws_are begins,
          cut_behind old mid new (replies_of ps) p.reply out written,
        );
        given = given_only (offers d x) v.rules w.seen (ps ++ p ∷ []) n m c are;
        shut = λ q. absurd cc;
      }) h

-- the first requests of a stream, where others may follow, and where none does
if_some : (left : Option (List ℕ)) (P Q : List ℕ → Type 0) → ((s : List ℕ) → P s → Q s) → IfSome left P → IfSome left Q
if_some None P Q f h = h
if_some (Some s) P Q f h = f s h

always : (o : Option (List ℕ)) → IfSome o (λ s. StopsBy s stop.Memory)
always None = tt
always (Some s) = tt

pub begins : (raws : List RawRequest) (n m : ℕ) (raw : RawRequest) (whole before after : Option (List ℕ)) → Leads whole raws n before → m ≡ suc n → IfSome before (λ s. IfSome after (IsRequest (is_last n) s raw)) → (IsSome before → IsSome after) → (b : Bool) → raw.closes ≡ b
    → IfSome whole (λ s. Begins s (raws ++ raw ∷ []))
begins raws n m raw whole before after leads same is told true c = if_some whole (λ s. Requests 0 s (raws ++ raw ∷ []) closed) (λ s. Begins s (raws ++ raw ∷ [])) (λ s h. inl h) (leads_closed raws n raw whole before after leads is told c)
begins raws n m raw whole before after leads same is told false c =
    let on = leads_on raws n raw whole before after m same leads is told c in
    if_some whole (λ s. Requests 0 s (raws ++ raw ∷ []) (stopped stop.Memory)) (λ s. Begins s (raws ++ raw ∷ [])) (λ s h. inr h)
    (leads_end (raws ++ raw ∷ []) m stop.Memory whole after on (always after))

-- the last request closes the link
pub served_closed : (d : SiteView) (v w : Known) (x y : Option BoardKnown) (k l : Copies) (left old new : Option (List ℕ)) (raws : List RawRequest) → HasSoFar d v w x y k l old new raws → IfSome left (λ s. Requests 0 s raws closed) → HasServed d v w x y k l left old new end.Closed
served_closed d v w x y k l left old new raws h c = both_so (AreSoFar (offers d x) old new raws v.rules w.seen v.blamed w.blamed) (IsServed (offers d x) left old new v.rules w.seen v.blamed w.blamed end.Closed) v w x y k l
    (λ n m o i. record {
      pieces = i.pieces;
      are = i.are;
      blamed = i.blamed;
      ended = (subst (λ y. IfSome left (λ s. Requests 0 s y closed)) i.raws_are c, i.out);
      given = given_only (offers d x) v.rules w.seen i.pieces n m o i.are;
      shut = λ q. absurd cc;
    }) h

-- the service shuts down behind the last request
pub served_shut : (d : SiteView) (v w : Known) (x y : Option BoardKnown) (k l : Copies) (left old new : Option (List ℕ)) (raws : List RawRequest) → d.shutdown ≡ true → HasSoFar d v w x y k l old new raws → IfSome left (λ s. Begins s raws) → HasServed d v w x y k l left old new end.ShutDown
served_shut d v w x y k l left old new raws offered h c = both_so (AreSoFar (offers d x) old new raws v.rules w.seen v.blamed w.blamed) (IsServed (offers d x) left old new v.rules w.seen v.blamed w.blamed end.ShutDown) v w x y k l
    (λ n m o i. record {
      pieces = i.pieces;
      are = i.are;
      blamed = i.blamed;
      ended = (subst (λ y. IfSome left (λ s. Begins s y)) i.raws_are c, i.out);
      given = given_only (offers d x) v.rules w.seen i.pieces n m o i.are;
      shut = λ q. offered;
    }) h

-- there is no further request
ended_by : (left old new : Option (List ℕ)) (pieces : List Piece) (why : Stop) → ((reply : List ℕ) × IsStopped left (raws_of pieces) why reply × (new ≡ appended old (replies_of pieces ++ reply))) → HasEnded left old new pieces (end_of why)
ended_by left old new pieces stop.End h = (stop.End, refl, h)
ended_by left old new pieces stop.Truncated h = (stop.Truncated, refl, h)
ended_by left old new pieces stop.BadHead h = (stop.BadHead, refl, h)
ended_by left old new pieces stop.BadLength h = (stop.BadLength, refl, h)
ended_by left old new pieces stop.HeadTooLong h = (stop.HeadTooLong, refl, h)
ended_by left old new pieces stop.BodyTooLong h = (stop.BodyTooLong, refl, h)
ended_by left old new pieces stop.NoChunked h = (stop.NoChunked, refl, h)
ended_by left old new pieces stop.ReadFault h = (stop.ReadFault, refl, h)
ended_by left old new pieces stop.Memory h = (stop.Memory, refl, h)

refused_so : (left old mid new : Option (List ℕ)) (pieces : List Piece) (why : Stop) (e : LinkEnd) → IfSome left (λ s. Requests 0 s (raws_of pieces) (stopped why)) → mid ≡ appended old (replies_of pieces) → IsRefused mid new why e → HasEnded left old new pieces e
refused_so left old mid new pieces why e stops out (inl h) =
    subst (λ x. HasEnded left old new pieces x) (sym h.0) (inr (why, h.1.0, record { requests = stops; reply_is = h.1.1 }, cut_behind old mid new (replies_of pieces) h.1.0 out h.1.2))
refused_so left old mid new pieces why e stops out (inr h) =
    subst (λ x. HasEnded left old new pieces x) (sym h.0) (ended_by left old new pieces why (h.1.0, record { requests = stops; reply_is = h.1.1 }, told_both old mid new (replies_of pieces) h.1.0 out h.1.2))

pub served_refused : (d : SiteView) (v w : Known) (x y : Option BoardKnown) (k l : Copies) (left old mid new : Option (List ℕ)) (raws : List RawRequest) (why : Stop) (e : LinkEnd) → HasSoFar d v w x y k l old mid raws → IfSome left (λ s. Requests 0 s raws (stopped why)) → IsRefused mid new why e
    → HasServed d v w x y k l left old new e
served_refused d v w x y k l left old mid new raws why e h stops is = both_so (AreSoFar (offers d x) old mid raws v.rules w.seen v.blamed w.blamed) (IsServed (offers d x) left old new v.rules w.seen v.blamed w.blamed e) v w x y k l
    (λ n m o i. record {
      pieces = i.pieces;
      are = i.are;
      blamed = i.blamed;
      ended = refused_so left old mid new i.pieces why e (subst (λ y. IfSome left (λ s. Requests 0 s y (stopped why))) i.raws_are stops) i.out is;
      given = given_only (offers d x) v.rules w.seen i.pieces n m o i.are;
      shut = λ q. absurd (never_shut mid new why e is q);
    }) h

-- nothing was read yet
pub none_served : (d : SiteView) (v : Known) (x : Option BoardKnown) (k : Copies) (old : Option (List ℕ)) → HasSoFar d v v x x k k old old []
none_served d v x k old = made_alone (AreSoFar (offers d x) old old [] v.rules v.seen v.blamed v.blamed) v v x k k
    (nothing_made (AreSoFar (offers d x) old old [] v.rules v.seen v.blamed v.blamed []) v k
    (record { pieces = []; are = record { are = tt; noted_is = refl; made_is = refl; copies_are = refl }; blamed = refl; raws_are = refl; out = nothing_more old }))

pub leads_first : (left : Option (List ℕ)) → Leads left [] 0 (stream_of [] left)
leads_first None = tt
leads_first (Some s) = λ more end h. h

-- there was no memory to begin
pub unserved : (d : SiteView) (v : Known) (x : Option BoardKnown) (k : Copies) (left old : Option (List ℕ)) → HasServed d v v x x k k left old old end.Memory
unserved d v x k left old = served_refused d v v x x k k left old old old [] stop.Memory end.Memory (none_served d v x k old) (always left) (refused_silent old stop.Memory end.Memory refl refl)

-- from turn to turn: one request more is answered, or the write of its reply fails
module _ (d : SiteView) (v u w : Known) (x y z : Option BoardKnown) (k j l : Copies) (left old before mid after new : Option (List ℕ)) (n : ℕ) (raw : RawRequest) (so_far : IsServing d left old before mid n v u x y k j) (is : IfSome before (λ s. IfSome after (IsRequest (is_last n) s raw))) (told_on : IsSome before → IsSome after) where
  answered : {E : Type 0} (r : Result (Unit {0}) E) → false ≡ is_err r → HasAnswered d u w y z j l raw mid new r → HasSoFar d v w x z k l old new (so_far.raws ++ raw ∷ [])
  answered (Ok done) e h = served_more d v u w x y z k j l old mid new so_far.raws raw so_far.did done h
  answered (Err f) e h = absurd cc

  pub serving_more : {E : Type 0} (m : ℕ) (r : Result (Unit {0}) E) → false ≡ is_err r → m ≡ suc n → HasAnswered d u w y z j l raw mid new r → raw.closes ≡ false → IsServing d left old after new m v w x z k l
  serving_more m r e same h goes = record { raws = so_far.raws ++ raw ∷ []; leads = leads_on so_far.raws n raw left before after m same so_far.leads is told_on goes; did = answered r e h }

  pub serving_closed : {E : Type 0} (r : Result (Unit {0}) E) → false ≡ is_err r → HasAnswered d u w y z j l raw mid new r → raw.closes ≡ true → HasServed d v w x z k l left old new end.Closed
  serving_closed r e h shut = served_closed d v w x z k l left old new (so_far.raws ++ raw ∷ []) (answered r e h) (leads_closed so_far.raws n raw left before after so_far.leads is told_on shut)

  pub serving_shut : {E : Type 0} (r : Result (Unit {0}) E) → false ≡ is_err r → HasAnswered d u w y z j l raw mid new r → raw.closes ≡ false → d.shutdown ≡ true → HasServed d v w x z k l left old new end.ShutDown
  serving_shut r e h goes offered = served_shut d v w x z k l left old new (so_far.raws ++ raw ∷ []) offered (answered r e h) (begins so_far.raws n (suc n) raw left before after so_far.leads refl is told_on false goes)

  pub serving_cut : {E : Type 0} (r : Result (Unit {0}) E) → true ≡ is_err r → HasAnswered d u w y z j l raw mid new r → HasServed d v w x z k l left old new end.WriteFault
  serving_cut (Ok done) e h = absurd cc
  serving_cut (Err f) e h = served_cut d v u w x y z k j l old mid new so_far.raws raw so_far.did left f (begins so_far.raws n (suc n) raw left before after so_far.leads refl is told_on raw.closes refl) h

-- the write failed, so the count has risen
pub risen_cut : {E : Type 0} (first before now : ℕ) (r : Result (Unit {0}) E) → true ≡ is_err r → first ≤ before → OnErr r (HasRisen before now) → HasRisen first now
risen_cut first before now (Ok x) e p h = absurd cc
risen_cut first before now (Err f) e p h = omega (arith, p, h)

-- there is none
pub serving_refused : (d : SiteView) (v w : Known) (x y : Option BoardKnown) (k l : Copies) (left old before mid new : Option (List ℕ)) (n : ℕ) (why : Stop) (e : LinkEnd) → IsServing d left old before mid n v w x y k l → IfSome before (λ s. StopsBy s why) → IsRefused mid new why e → HasServed d v w x y k l left old new e
serving_refused d v w x y k l left old before mid new n why e so_far stops is = served_refused d v w x y k l left old mid new so_far.raws why e so_far.did (leads_end so_far.raws n why left before so_far.leads stops) is
