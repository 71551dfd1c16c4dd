-- What was made, of the book and of a board together.
use Rattle.std.proofs.Common.{◌≡◌, ℕ, Bool, true, false, List, [], ◌++◌, refl, ap, sym, ◌∙◌, append_assoc, append-nil, arith}
use Rattle.std.specs.Prelude.{◌&&◌, Option, Some, None, Result, is_some}
use Rattle.cluster_gate.specs.declared.copier.ChunkCopy.{ChunkCopy}
use Rattle.mover_rounds.specs.Asked.{Entry, Known}
use Rattle.mover_rounds.specs.Made.{Copies, HasMade}
use Rattle.mover_rounds.proofs.Prefixes.{prefix_self, prefix_trans}
use Rattle.mover_rounds.proofs.Pumping.{made_both}
use Rattle.mover_rounds.proofs.Working.{no_copies, risen_none}
use Rattle.review_board.specs.Asked.{BoardEntry, BoardKnown}
use Rattle.rest_replies.specs.declared.told.Told.{Told}
use Rattle.rest_parse.specs.Sites.{site_meaning}
use Rattle.rest_parse.specs.declared.sites.SiteCall.{SiteCall}
use Rattle.rest_stream.specs.declared.raw.RawRequest.{RawRequest}
use Rattle.rest_session.specs.Answered.{HasAnswered, IsAnswered, IsBlamed, IsReplied, fault_told}
use Rattle.rest_session.specs.Pieces.{asks_head}
use Rattle.rest_session.specs.Heard.{HasHeard, IsHeard, IsSiteTold, SiteView, offers, site_asked}
use Rattle.rest_session.specs.Reviewed.{HasCalled, HasMadeBoth, IsBoardSince, IsCalledBy}

-- nothing was made
pub nothing_made : (P : List Entry → List ChunkCopy → Type 0) (v : Known) (k : Copies) → P [] [] → HasMade P v v k k
nothing_made P v k p = record {
  made = [];
  copies = [];
  own = sym (append-nil v.own);
  copied = no_copies k.made;
  is = p;
  failed = risen_none k.faults k.faults (omega arith);
  rules = refl;
  longer = prefix_self v.seen;
}

-- what was made is this too
pub made_so : (P Q : List Entry → List ChunkCopy → Type 0) (v w : Known) (k l : Copies) → ((m : List Entry) (c : List ChunkCopy) → P m c → Q m c) → HasMade P v w k l → HasMade Q v w k l
made_so P Q v w k l f h = record { made = h.made; copies = h.copies; own = h.own; copied = h.copied; is = f h.made h.copies h.is; failed = h.failed; rules = h.rules; longer = h.longer }

pub both_so : (P Q : List BoardEntry → List Entry → List ChunkCopy → Type 0) (v w : Known) (x y : Option BoardKnown) (k l : Copies) → ((n : List BoardEntry) (m : List Entry) (c : List ChunkCopy) → P n m c → Q n m c) → HasMadeBoth P v w x y k l → HasMadeBoth Q v w x y k l
both_so P Q v w x y k l f h = record { noted = h.noted; board = h.board; made = made_so (P h.noted) (Q h.noted) v w k l (f h.noted) h.made }

-- nothing was asked of the board
pub board_stays : (x : Option BoardKnown) → IsBoardSince x x []
board_stays None = refl
board_stays (Some x) = (prefix_self x.seen, sym (append-nil x.own))

pub made_alone : (P : List BoardEntry → List Entry → List ChunkCopy → Type 0) (v w : Known) (x : Option BoardKnown) (k l : Copies) → HasMade (P []) v w k l → HasMadeBoth P v w x x k l
made_alone P v w x k l h = record { noted = []; board = board_stays x; made = h }

-- there is a board afterwards where there was one before
pub board_lasts : (x y : Option BoardKnown) (n : List BoardEntry) → IsBoardSince x y n → is_some y ≡ is_some x
board_lasts None None n h = refl
board_lasts (Some x) (Some y) n h = refl
board_lasts None (Some y) n h = absurd h
board_lasts (Some x) None n h = absurd h

none_both : (a b : List BoardEntry) → a ≡ [] → b ≡ [] → a ++ b ≡ []
none_both a b p q = rw (p, q) refl

board_both : (x y z : Option BoardKnown) (a b : List BoardEntry) → IsBoardSince x y a → IsBoardSince y z b → IsBoardSince x z (a ++ b)
board_both None None None a b p q = none_both a b p q
board_both None None (Some z) a b p q = absurd q
board_both None (Some y) z a b p q = absurd p
board_both (Some x) None z a b p q = absurd p
board_both (Some x) (Some y) None a b p q = absurd q
board_both (Some x) (Some y) (Some z) a b p q = (prefix_trans x.seen y.seen z.seen p.0 q.0, q.1 ∙ (ap (λ (o : List BoardEntry). o ++ b) p.1 ∙ append_assoc x.own a b))

-- what was made, and what was made behind it
pub made_behind : (P Q S : List BoardEntry → List Entry → List ChunkCopy → Type 0) (v u w : Known) (x y z : Option BoardKnown) (k j l : Copies)
    → ((n : List BoardEntry) (a : List Entry) (ca : List ChunkCopy) (m : List BoardEntry) (b : List Entry) (cb : List ChunkCopy) → P n a ca → Q m b cb → S (n ++ m) (a ++ b) (ca ++ cb))
    → HasMadeBoth P v u x y k j → HasMadeBoth Q u w y z j l → HasMadeBoth S v w x z k l
made_behind P Q S v u w x y z k j l f p q = record {
  noted = p.noted ++ q.noted;
  board = board_both x y z p.noted q.noted p.board q.board;
  made = made_both (P p.noted) (Q q.noted) (S (p.noted ++ q.noted)) v u w k j l (λ a ca b cb. f p.noted a ca q.noted b cb) p.made q.made;
}

-- a request was answered: what was called, and what was written then
pub answered_by : {E : Type 0} (d : SiteView) (v w : Known) (x y : Option BoardKnown) (k l : Copies) (raw : RawRequest) (t : Told) (old new : Option (List ℕ)) (r : Result (Unit {0}) E) → HasHeard d v w x y k l raw t → IsBlamed (fault_told t) v.blamed w.blamed → IsReplied (asks_head raw) t old new r
    → HasAnswered d v w x y k l raw old new r
answered_by d v w x y k l raw t old new r called blamed replied = both_so (λ n m c. IsHeard (offers d x) v.rules w.seen raw t m c n) (IsAnswered (offers d x) raw old new r v.rules w.seen v.blamed w.blamed) v w x y k l
    (λ n m c p. record { told_is = t; reply = replied.0; blamed = blamed; called = p; reply_is = replied.1; written = replied.2 }) called

-- a request that asks nothing of the service itself was called
pub heard_called : (d : SiteView) (v w : Known) (x y : Option BoardKnown) (k l : Copies) (raw : RawRequest) (t : Told) → site_asked d raw ≡ None → HasCalled v w x y k l raw t → HasHeard d v w x y k l raw t
heard_called d v w x y k l raw t other h = both_so (λ n m c. IsCalledBy (is_some x) v.rules w.seen raw t m c n) (λ n m c. IsHeard (offers d x) v.rules w.seen raw t m c n) v w x y k l
    (λ n m c i. rw other i) h

-- and one that does was told so
pub heard_site : (d : SiteView) (v : Known) (x : Option BoardKnown) (k : Copies) (raw : RawRequest) (t : Told) (call : SiteCall) → site_asked d raw ≡ Some call → IsSiteTold call (site_meaning call raw) t → HasHeard d v v x x k k raw t
heard_site d v x k raw t call asks h = made_alone (λ n m c. IsHeard (offers d x) v.rules v.seen raw t m c n) v v x k k
    (nothing_made (λ m c. IsHeard (offers d x) v.rules v.seen raw t m c []) v k (rw asks (h, (refl, refl), refl)))
