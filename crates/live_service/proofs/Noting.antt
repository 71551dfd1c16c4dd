-- What a call of a board's turn tells of its caller.
use Rattle.std.proofs.Common.{◌≡◌, ℕ, Bool, true, false, List, [], ◌∷◌, ◌++◌, suc, length, take, refl, ap, sym, ◌∙◌, append_assoc, arith}
use Rattle.std.specs.Prelude.{IfErr, IfOk, Ok, Err, Option, Result, is_some}
use Rattle.std.proofs.lemmas.Option.{slice_get_within}
use Rattle.std.proofs.lemmas.List.{take-append-le, map-append}
use Rattle.std.proofs.Math.Seq.{take-append_seam}
use mathlib.Core.List.{IsPrefix}
use Rattle.review_board.specs.Asked.{BoardEntry, HasNoted, IsUnnoted}
use Rattle.review_board.specs.History.{reply_after}
use Rattle.review_board.specs.declared.events.BoardEvent.{BoardEvent}
use Rattle.review_board.specs.declared.events.BoardReply.{BoardReply}
use Rattle.turn_book.specs.Known.{HasActed}
use Rattle.turn_book.specs.Rule.{ArePlaced}
use Rattle.live_service.specs.Boards.{BoardPass, board_seen, known_by_board_pass, noted_at}

-- own entries stay as they are when more is seen
stable : (h t g : List BoardEvent) (mine : List (ℕ × BoardEvent)) → h ++ t ≡ g → ArePlaced h mine → noted_at g mine ≡ noted_at h mine
stable h t g [] e p = refl
stable h t g (x ∷ xs) e p =
    let same : take x.0 g ≡ take x.0 h = ap (λ y. take x.0 y) (sym e) ∙ take-append-le x.0 h t (let within = slice_get_within h x.0 x.1 (p 0 x refl) in omega (arith, within)) in
    ap (λ (y : List BoardEvent). record { before = y; event = x.1 } ∷ noted_at g xs) same ∙ ap (λ (y : List BoardEntry). record { before = take x.0 h; event = x.1 } ∷ y) (stable h t g xs e (λ k y i. p (suc k) y i))

module _ (v w : BoardPass) (placed : ArePlaced v.seen v.mine) where
  pub has_noted : (e : BoardEvent) (r : BoardReply) → HasActed (λ o h x. reply_after h x) tt v w e r → HasNoted (known_by_board_pass v) (known_by_board_pass w) e r
  has_noted e r a =
      let f : ℕ × BoardEvent → BoardEntry = λ x. record { before = take x.0 w.seen; event = x.1 } in
      let before : List BoardEvent = v.seen ++ a.between in
      let n : ℕ = length before in
      let whole : v.seen ++ (a.between ++ e ∷ []) ≡ w.seen = sym (append_assoc v.seen a.between (e ∷ [])) ∙ sym a.seen in
      let seam : take n w.seen ≡ before = ap (λ y. take n y) a.seen ∙ take-append_seam before (e ∷ []) in
      record {
        entry = record { before = before; event = e };
        event_is = refl;
        replied = a.replied;
        behind = (a.between, refl);
        seen = a.seen;
        own = ap (λ m. noted_at w.seen m) a.mine ∙ (map-append f v.mine ((n, e) ∷ []) ∙ (ap (λ (y : List BoardEntry). y ++ record { before = take n w.seen; event = e } ∷ []) (stable v.seen (a.between ++ e ∷ []) w.seen v.mine whole placed)
            ∙ ap (λ (y : List BoardEvent). noted_at v.seen v.mine ++ record { before = y; event = e } ∷ []) seam));
      }

  pub has_unnoted : IsPrefix v.seen w.seen → w.mine ≡ v.mine → IsUnnoted (known_by_board_pass v) (known_by_board_pass w)
  has_unnoted longer mine = record { longer = longer; own = ap (λ m. noted_at w.seen m) mine ∙ stable v.seen longer.0 w.seen v.mine longer.1 placed }
