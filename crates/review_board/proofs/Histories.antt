-- What holds of every history of a board.
use Rattle.std.proofs.Common.{◌≡◌, ℕ, zero, suc, ◌+◌, ◌<◌, ◌≤◌, List, [], ◌∷◌, ◌++◌, length, take, ap, arith, refl, sym, ◌∙◌, subst, inl, inr}
use Rattle.std.specs.Prelude.{◌⊎◌, Bool, true, false, ◌||◌, Some, fold}
use Rattle.std.proofs.lemmas.List.{length-append}
use Rattle.review_board.specs.Reviews.{has, is_approved, is_pending, named, review_at, reviewed, rows_of, with_state}
use Rattle.review_board.specs.Step.{filed, next, reply_of}
use Rattle.review_board.specs.Laws.{FiledAtMostOnce, GivenAsFiled, GivenAtMostOnce, GivenOnceApproved, IsApproved, IsDiscarded, IsFiled, IsGiven, DiscardedNeverGiven}
use Rattle.review_board.specs.declared.reviews.Review.{Review}
use Rattle.review_board.specs.declared.events.Row.{Row}
use Rattle.review_board.specs.declared.events.ReviewState.{ReviewState}
use Rattle.review_board.specs.declared.events.ReviewState.TheVariants as state
use Rattle.review_board.specs.declared.events.BoardEvent.{BoardEvent}
use Rattle.review_board.specs.declared.events.BoardEvent.TheVariants as event
use Rattle.review_board.specs.declared.events.BoardReply.TheVariants as reply
use Rattle.review_board.proofs.ByIds.{id_within}
use Rattle.review_board.proofs.Places.{DoesAt, in_front, made_from, once_from, take_short}
use Rattle.review_board.proofs.Steps.{Gives, same, filed_now, approved_now, discarded_now, given_now, Waits, discard_waits, gives_by, grows, review_told, stepped, told_at, told_rows}

no_review : (id : ℕ) (r : Review) → review_at [] id ≡ Some r → ⊥
no_review zero r h = cc
no_review (suc k) r h = cc

-- ---- ids

abbrev Files : ℕ → List Review → BoardEvent → Type 0
Files id s e = (path : List ℕ) × (target : List ℕ) × (e ≡ event.File path target) × (id ≡ length s + 1)

abbrev IsUsed : ℕ → List Review → Type 0
IsUsed id s = id ≤ length s

files_uses : (id : ℕ) (s : List Review) (e : BoardEvent) → Files id s e → IsUsed id (next s e)
files_uses id s e f =
    let h : id ≤ length (s ++ filed f.0 f.1 ∷ []) = omega (arith, f.3, length-append s (filed f.0 f.1 ∷ [])) in
    subst (λ (x : BoardEvent). id ≤ length (next s x)) (sym f.2) h

pub filed_once : FiledAtMostOnce
filed_once history i j id p q t u a b = once_from (Files id) (IsUsed id) (files_uses id) (λ s e h. omega (arith, h, grows s e)) (λ s e h f. omega (arith, h, f.3))
    history [] i j (at i p t a) (at j q u b) where
      at : (k : ℕ) (path target : List ℕ) → IsFiled history k id path target → DoesAt (Files id) [] history k
      at k path target f = record {
        event = event.File path target;
        there = f.0;
        does = (path, target, refl, cc (f.1));
      }

-- ---- requests that are over: given out, or discarded

abbrev is_open : ReviewState → Bool
is_open t = is_pending t || is_approved t

record IsOver (id : ℕ) (s : List Review) : Type 0 where
  review : Review
  is : review_at s id ≡ Some review
  over : is_open review.state ≡ false

still_open : (t : ReviewState) → is_open t ≡ false → (is_pending t ≡ true) ⊎ (is_approved t ≡ true) → ⊥
still_open t h o = at (is_pending t) (is_approved t) h o where
  at : (p a : Bool) → p || a ≡ false → (p ≡ true) ⊎ (a ≡ true) → ⊥
  at true a h o = cc
  at false true h o = cc
  at false false h o = elim o [ inl e ↦ cc | inr e ↦ cc ]

data Ends (id : ℕ) (s : List Review) (e : BoardEvent) : Type 0 where
  gives : (path target : List ℕ) → e ≡ event.Take id path → reply_of s (event.Take id path) ≡ reply.Given target → Ends id s e
  discards : (approve discard : List ℕ) (rows : List Row) → e ≡ event.Review approve discard → has discard id ≡ true → has approve id ≡ false
      → reply_of s (event.Review approve discard) ≡ reply.Reviewed rows → Ends id s e

over_by : (id : ℕ) (s : List Review) (e f : BoardEvent) (r : Review) (t : ReviewState) → e ≡ f → review_at (next s f) id ≡ Some (with_state r t) → is_open t ≡ false → IsOver id (next s e)
over_by id s e f r t is now over = record { review = with_state r t; is = ap (λ (x : BoardEvent). review_at (next s x) id) is ∙ now; over = over }

ends_it : (id : ℕ) (s : List Review) (e : BoardEvent) → Ends id s e → IsOver id (next s e)
ends_it id s e (gives path target is h) =
    let g : Gives s id path target = gives_by s id path target h in
    over_by id s e (event.Take id path) g.review state.Submitted is g.now refl
ends_it id s e (discards approve discard rows is named first h) =
    let free = told_rows s approve discard rows h in
    let w : Waits s id = discard_waits s approve discard id free named in
    over_by id s e (event.Review approve discard) w.review state.Discarded is
    (told_at s approve discard id free w.review state.Discarded w.is (rw (first, named) refl)) refl

stays_over : (id : ℕ) (s : List Review) (e : BoardEvent) → IsOver id s → IsOver id (next s e)
stays_over id s e was = elim (stepped s e id) [
  | same h ↦ record { review = was.review; is = h ∙ was.is; over = was.over }
  | filed_now path target f at now ↦ let within : id ≤ length s = id_within s id was.review was.is in absurd (omega arith)
  | approved_now approve discard r f free here is p now ↦ absurd (still_open was.review.state was.over (inl (so r is_pending is p)))
  | discarded_now r is p now ↦ absurd (still_open was.review.state was.over (inl (so r is_pending is p)))
  | given_now r is a now ↦ absurd (still_open was.review.state was.over (inr (so r is_approved is a)))
] where
  so : (r : Review) (test : ReviewState → Bool) → review_at s id ≡ Some r → test r.state ≡ true → test was.review.state ≡ true
  so r test is h = let one : r ≡ was.review = cc (is, was.is) in subst (λ (x : Review). test x.state ≡ true) one h

not_over : (id : ℕ) (s : List Review) (e : BoardEvent) → IsOver id s → Ends id s e → ⊥
not_over id s e was (gives path target is h) =
    let g : Gives s id path target = gives_by s id path target h in
    let one : g.review ≡ was.review = cc (g.is, was.is) in
    still_open was.review.state was.over (inr (subst (λ (x : Review). is_approved x.state ≡ true) one g.approved))
not_over id s e was (discards approve discard rows is named first h) =
    let w : Waits s id = discard_waits s approve discard id (told_rows s approve discard rows h) named in
    let one : w.review ≡ was.review = cc (w.is, was.is) in
    still_open was.review.state was.over (inl (subst (λ (x : Review). is_pending x.state ≡ true) one w.pending))

module _ (history : List BoardEvent) (id : ℕ) where
  ends_once : (i j : ℕ) → DoesAt (Ends id) [] history i → DoesAt (Ends id) [] history j → i ≡ j
  ends_once i j a b = once_from (Ends id) (IsOver id) (ends_it id) (stays_over id) (not_over id) history [] i j a b

  given_ends : (i : ℕ) (t : List ℕ) → IsGiven history i id t → DoesAt (Ends id) [] history i
  given_ends i t g = record { event = event.Take id g.path; there = g.answered.0; does = gives g.path t refl g.answered.1 }

  discarded_ends : (i : ℕ) → IsDiscarded history i id → DoesAt (Ends id) [] history i
  discarded_ends i d = record {
    event = event.Review d.approve d.discard;
    there = d.answered.0;
    does = discards d.approve d.discard d.rows refl d.named d.first d.answered.1;
  }

pub given_once : GivenAtMostOnce
given_once history i j id t u a b = ends_once history id i j (given_ends history id i t a) (given_ends history id j u b)

pub never_given : DiscardedNeverGiven
never_given history i j id target d g =
    let one : i ≡ j = ends_once history id i j (discarded_ends history id i d) (given_ends history id j target g) in
    cc (one, d.answered.0, g.answered.0)

-- ---- what is approved was approved at some place

record HasApproved (id : ℕ) (s : List Review) : Type 0 where
  review : Review
  is : review_at s id ≡ Some review
  approved : is_approved review.state ≡ true

record Approves (id : ℕ) (s : List Review) (e : BoardEvent) : Type 0 where
  approve : List ℕ
  discard : List ℕ
  rows : List Row
  is : e ≡ event.Review approve discard
  named : has approve id ≡ true
  told : reply_of s (event.Review approve discard) ≡ reply.Reviewed rows

approved_by : (id : ℕ) (s : List Review) (e : BoardEvent) → HasApproved id (next s e) → HasApproved id s ⊎ Approves id s e
approved_by id s e now = elim (stepped s e id) [
  | same h ↦ inl (record { review = now.review; is = sym h ∙ now.is; approved = now.approved })
  | filed_now path target f at is ↦ absurd (so (filed path target) is refl)
  | approved_now approve discard r f free here was p is ↦ inr (record {
    approve = approve;
    discard = discard;
    rows = named approve discard (rows_of (reviewed approve discard s));
    is = f;
    named = here;
    told = review_told s approve discard free;
  })
  | discarded_now r was p is ↦ absurd (so (with_state r state.Discarded) is refl)
  | given_now r was a is ↦ absurd (so (with_state r state.Submitted) is refl)
] where
  so : (r : Review) → review_at (next s e) id ≡ Some r → is_approved r.state ≡ false → ⊥
  so r is other = let one : r ≡ now.review = cc (is, now.is) in cc (ap (λ (x : Review). is_approved x.state) one, other, now.approved)

pub given_when_approved : GivenOnceApproved
given_when_approved history j id target g =
    let s : List Review = fold next [] (take j history) in
    let now : Gives s id g.path target = gives_by s id g.path target g.answered.1 in
    elim (made_from (Approves id) (HasApproved id) (approved_by id) (take j history) [] (record { review = now.review; is = now.is; approved = now.approved })) [
      | inl none ↦ absurd (no_review id none.review none.is)
      | inr w ↦
          let lt : w.0 < j = take_short history j w.0 w.1 in
          let at : DoesAt (Approves id) [] history w.0 = in_front (Approves id) [] history j w.0 lt w.2 in
          (w.0, lt, approved history w.0 id at)
    ] where
      approved : (history : List BoardEvent) (i id : ℕ) → DoesAt (Approves id) [] history i → IsApproved history i id
      approved history i id a = record {
        approve = a.does.approve;
        discard = a.does.discard;
        rows = a.does.rows;
        named = a.does.named;
        answered = (a.there ∙ ap (λ x. Some x) a.does.is, a.does.told);
      }

-- ---- what there is was filed at some place

record Holds (id : ℕ) (path target : List ℕ) (s : List Review) : Type 0 where
  review : Review
  is : review_at s id ≡ Some review
  path_is : review.path ≡ path
  target_is : review.target ≡ target

abbrev FilesSo : ℕ → List ℕ → List ℕ → List Review → BoardEvent → Type 0
FilesSo id path target s e = (e ≡ event.File path target) × (reply_of s (event.File path target) ≡ reply.Filed id)

filed_by : (id : ℕ) (path target : List ℕ) (s : List Review) (e : BoardEvent) → Holds id path target (next s e) → Holds id path target s ⊎ FilesSo id path target s e
filed_by id path target s e now = elim (stepped s e id) [
  | same h ↦ inl (record { review = now.review; is = sym h ∙ now.is; path_is = now.path_is; target_is = now.target_is })
  | filed_now p t f at is ↦
      let one : filed p t ≡ now.review = cc (is, now.is) in
      let path_is : p ≡ path = ap (λ (x : Review). x.path) one ∙ now.path_is in
      let target_is : t ≡ target = ap (λ (x : Review). x.target) one ∙ now.target_is in
      inr (f ∙ (ap (λ x. event.File x t) path_is ∙ ap (λ x. event.File path x) target_is), ap (λ n. reply.Filed n) (sym at))
  | approved_now approve discard r f free here was p is ↦ inl (so r state.Approved was is)
  | discarded_now r was p is ↦ inl (so r state.Discarded was is)
  | given_now r was a is ↦ inl (so r state.Submitted was is)
] where
  so : (r : Review) (t : ReviewState) → review_at s id ≡ Some r → review_at (next s e) id ≡ Some (with_state r t) → Holds id path target s
  so r t was is =
      let one : with_state r t ≡ now.review = cc (is, now.is) in
      record { review = r; is = was; path_is = ap (λ (x : Review). x.path) one ∙ now.path_is; target_is = ap (λ (x : Review). x.target) one ∙ now.target_is }

pub given_as_filed : GivenAsFiled
given_as_filed history j id target g =
    let s : List Review = fold next [] (take j history) in
    let now : Gives s id g.path target = gives_by s id g.path target g.answered.1 in
    elim (made_from (FilesSo id g.path target) (Holds id g.path target) (filed_by id g.path target) (take j history) []
    (record { review = now.review; is = now.is; path_is = now.path_is; target_is = now.target_is })) [
      | inl none ↦ absurd (no_review id none.review none.is)
      | inr w ↦
          let lt : w.0 < j = take_short history j w.0 w.1 in
          let at : DoesAt (FilesSo id g.path target) [] history w.0 = in_front (FilesSo id g.path target) [] history j w.0 lt w.2 in
          (w.0, lt, (at.there ∙ ap (λ x. Some x) at.does.0, at.does.1))
    ]
