-- What a board's step tells who owns it.
use Rattle.std.proofs.Common.{◌≡◌, List, [], ◌∷◌, ◌++◌, refl, ap, sym, ◌∙◌, append_assoc, append-nil}
use Rattle.review_board.specs.History.{reply_after}
use Rattle.review_board.specs.Asked.{BoardEntry, HasNoted, all_entries, known_by_owner}
use Rattle.review_board.specs.Begins.{begins_itself}
use Rattle.review_board.specs.declared.events.BoardEvent.{BoardEvent}
use Rattle.review_board.specs.declared.events.BoardReply.{BoardReply}

-- the entries of a journal that grew
all_entries-append : (front h t : List BoardEvent) → all_entries front (h ++ t) ≡ all_entries front h ++ all_entries (front ++ h) t
all_entries-append front [] t = ap (λ (y : List BoardEvent). all_entries y t) (sym (append-nil front))
all_entries-append front (x ∷ h) t =
    let first : List BoardEntry → List BoardEntry = λ y. record { before = front; event = x } ∷ y in
    ap first (all_entries-append (front ++ x ∷ []) h t ∙ ap (λ (y : List BoardEvent). all_entries (front ++ x ∷ []) h ++ all_entries y t) (append_assoc front (x ∷ []) h))

pub owner_noted : (b c : List BoardEvent) (e : BoardEvent) (r : BoardReply) → c ≡ b ++ e ∷ [] → r ≡ reply_after b e → HasNoted (known_by_owner b) (known_by_owner c) e r
owner_noted b c e r grew is = record {
  entry = record { before = b; event = e };
  event_is = refl;
  replied = is;
  behind = begins_itself b;
  seen = grew;
  own = ap (λ (z : List BoardEvent). all_entries [] z) grew ∙ all_entries-append [] b (e ∷ []);
}
