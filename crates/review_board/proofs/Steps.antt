-- What one event of a board does to the request of an id.
use Rattle.std.proofs.Common.{◌≡◌, ℕ, ◌+◌, ◌-◌, ◌≤◌, List, [], ◌∷◌, length, set, ap, arith, refl, sym, ◌∙◌, subst, inl, inr}
use Rattle.std.specs.Prelude.{◌⊎◌, Bool, true, false, not, Option, Some, None, option_map, if◌then◌else◌, bytes_eq}
use Rattle.std.specs.Cmp.Lexicographic.{same_text}
use Rattle.std.specs.Option.{option_or}
use Rattle.std.proofs.lemmas.Bool.Decides.{eqb_tells}
use Rattle.std.proofs.lemmas.List.{length-append, length-set}
use Rattle.review_board.specs.Reviews.{has, is_approved, is_pending, named, review_at, reviewed, rows_of, verdict, with_state}
use Rattle.review_board.specs.Step.{Answer, answer_to_take, filed, first_fault, next, pending_fault, reply_of, review_fault, take_fault, unless}
use Rattle.review_board.specs.declared.reviews.Review.{Review}
use Rattle.review_board.specs.declared.events.Row.{Row}
use Rattle.review_board.specs.declared.events.ReviewState.{ReviewState}
use Rattle.review_board.specs.declared.events.ReviewState.TheVariants as state
use Rattle.review_board.specs.declared.events.BoardEvent.{BoardEvent}
use Rattle.review_board.specs.declared.events.BoardEvent.TheVariants as event
use Rattle.review_board.specs.declared.events.BoardReply.{BoardReply}
use Rattle.review_board.specs.declared.events.BoardReply.TheVariants as reply
use Rattle.review_board.proofs.ByIds.{length-reviewed, pushed_at, reviewed_at, set_at, unset_at}

-- the request stays; or it is filed, approved, discarded or given out
pub data Stepped (s : List Review) (e : BoardEvent) (id : ℕ) : Type 0 where
  same : review_at (next s e) id ≡ review_at s id → Stepped s e id
  filed_now : (path target : List ℕ) → e ≡ event.File path target → id ≡ length s + 1 → review_at (next s e) id ≡ Some (filed path target) → Stepped s e id
  approved_now : (approve discard : List ℕ) (r : Review) → e ≡ event.Review approve discard → review_fault s approve discard ≡ None → has approve id ≡ true
      → review_at s id ≡ Some r → is_pending r.state ≡ true → review_at (next s e) id ≡ Some (with_state r state.Approved) → Stepped s e id
  discarded_now : (r : Review) → review_at s id ≡ Some r → is_pending r.state ≡ true → review_at (next s e) id ≡ Some (with_state r state.Discarded) → Stepped s e id
  given_now : (r : Review) → review_at s id ≡ Some r → is_approved r.state ≡ true → review_at (next s e) id ≡ Some (with_state r state.Submitted) → Stepped s e id

file_step : (s : List Review) (path target : List ℕ) (id : ℕ) → Stepped s (event.File path target) id
file_step s path target id = elim (pushed_at s (filed path target) id) [
  | inl h ↦ same h
  | inr p ↦ filed_now path target refl p.0 p.1
]

-- ---- reviews

both_none : (a b : Option BoardReply) → option_or a b ≡ None → (a ≡ None) × (b ≡ None)
both_none None b h = (refl, h)
both_none (Some x) b h = cc

one_some : (a b : Option BoardReply) (f : BoardReply) → option_or a b ≡ Some f → (a ≡ Some f) ⊎ (b ≡ Some f)
one_some None b f h = inr h
one_some (Some x) b f h = inl h

-- the request of an id waits for its review
pub record Waits (s : List Review) (id : ℕ) : Type 0 where
  pub review : Review
  pub is : review_at s id ≡ Some review
  pub pending : is_pending review.state ≡ true

waits : (s : List Review) (id : ℕ) (q : Option Review) → review_at s id ≡ q → pending_fault id q ≡ None → Waits s id
waits s id None e h = cc
waits s id (Some r) e h = record { review = r; is = e; pending = test (is_pending r.state) h } where
  test : (p : Bool) → (if not p then Some (reply.NotPending id r.state) else None) ≡ None → p ≡ true
  test true h = refl
  test false h = cc

each_waits : (s : List Review) (ids : List ℕ) (id : ℕ) → first_fault s ids ≡ None → has ids id ≡ true → Waits s id
each_waits s [] id h here = cc
each_waits s (x ∷ xs) id h here =
    let both : (pending_fault x (review_at s x) ≡ None) × (first_fault s xs ≡ None) = both_none (pending_fault x (review_at s x)) (first_fault s xs) h in
    elim (eqb_tells x id) [
      | inl p ↦ subst (λ j. Waits s j) p.1 (waits s x (review_at s x) refl both.0)
      | inr p ↦ each_waits s xs id both.1 (rw p.0 at here)
    ]

-- no fault is told as rows
pending_rows : (id : ℕ) (q : Option Review) (rows : List Row) → pending_fault id q ≡ Some (reply.Reviewed rows) → ⊥
pending_rows id None rows h = cc
pending_rows id (Some r) rows h = test (is_pending r.state) h where
  test : (p : Bool) → (if not p then Some (reply.NotPending id r.state) else None) ≡ Some (reply.Reviewed rows) → ⊥
  test true h = cc
  test false h = cc

fault_rows : (s : List Review) (ids : List ℕ) (rows : List Row) → first_fault s ids ≡ Some (reply.Reviewed rows) → ⊥
fault_rows s [] rows h = cc
fault_rows s (x ∷ xs) rows h = elim (one_some (pending_fault x (review_at s x)) (first_fault s xs) (reply.Reviewed rows) h) [
  | inl p ↦ pending_rows x (review_at s x) rows p
  | inr p ↦ fault_rows s xs rows p
]

module _ (s : List Review) (approve discard : List ℕ) where
  -- the answer to a review that has no fault
  abbrev pub done : Answer
  done = (reply.Reviewed (named approve discard (rows_of (reviewed approve discard s))), reviewed approve discard s)

  review_refused : (f : BoardReply) → review_fault s approve discard ≡ Some f → next s (event.Review approve discard) ≡ s
  review_refused f h = ap (λ (o : Option BoardReply). (unless o s done).1) h

  review_done : review_fault s approve discard ≡ None → next s (event.Review approve discard) ≡ reviewed approve discard s
  review_done h = ap (λ (o : Option BoardReply). (unless o s done).1) h

  pub review_told : review_fault s approve discard ≡ None → reply_of s (event.Review approve discard) ≡ done.0
  review_told h = ap (λ (o : Option BoardReply). (unless o s done).0) h

  -- a review that is answered by rows has no fault
  pub told_rows : (rows : List Row) → reply_of s (event.Review approve discard) ≡ reply.Reviewed rows → review_fault s approve discard ≡ None
  told_rows rows h = at (review_fault s approve discard) refl h where
    at : (o : Option BoardReply) → review_fault s approve discard ≡ o
        → (unless o s done).0 ≡ reply.Reviewed rows
        → review_fault s approve discard ≡ None
    at None e h = e
    at (Some f) e h = absurd (elim (one_some (first_fault s approve) (first_fault s discard) f e) [
      | inl p ↦ fault_rows s approve rows (p ∙ ap (λ x. Some x) h)
      | inr p ↦ fault_rows s discard rows (p ∙ ap (λ x. Some x) h)
    ])

  -- and one that has none
  module _ (id : ℕ) (free : review_fault s approve discard ≡ None) where
    none : (first_fault s approve ≡ None) × (first_fault s discard ≡ None)
    none = both_none (first_fault s approve) (first_fault s discard) free

    approve_waits : has approve id ≡ true → Waits s id
    approve_waits h = each_waits s approve id none.0 h

    pub discard_waits : has discard id ≡ true → Waits s id
    discard_waits h = each_waits s discard id none.1 h

    next_at : (q : Option Review) → review_at s id ≡ q
        → review_at (next s (event.Review approve discard)) id ≡ option_map (λ r. with_state r (verdict approve discard id r.state)) q
    next_at q is =
        ap (λ x. review_at x id) (review_done free)
        ∙ (reviewed_at approve discard s id ∙ ap (λ (x : Option Review). option_map (λ r. with_state r (verdict approve discard id r.state)) x) is)

    pub told_at : (r : Review) (t : ReviewState) → review_at s id ≡ Some r → verdict approve discard id r.state ≡ t
        → review_at (next s (event.Review approve discard)) id ≡ Some (with_state r t)
    told_at r t is e = next_at (Some r) is ∙ ap (λ (x : ReviewState). Some (with_state r x)) e

    waits_so : (r : Review) → review_at s id ≡ Some r → Waits s id → is_pending r.state ≡ true
    waits_so r is w = let one : w.review ≡ r = cc (w.is, is) in subst (λ (x : Review). is_pending x.state ≡ true) one w.pending

    review_step : (q : Option Review) → review_at s id ≡ q → (a d : Bool) → has approve id ≡ a → has discard id ≡ d → Stepped s (event.Review approve discard) id
    review_step None is a d ha hd = same (next_at None is ∙ sym is)
    review_step (Some r) is true d ha hd =
        approved_now approve discard r refl free ha is (waits_so r is (approve_waits ha)) (told_at r state.Approved is (rw ha refl))
    review_step (Some r) is false true ha hd =
        discarded_now r is (waits_so r is (discard_waits hd)) (told_at r state.Discarded is (rw (ha, hd) refl))
    review_step (Some r) is false false ha hd = same (told_at r r.state is (rw (ha, hd) refl) ∙ sym is)

  review_cases : (id : ℕ) (o : Option BoardReply) → review_fault s approve discard ≡ o → Stepped s (event.Review approve discard) id
  review_cases id (Some f) h = same (ap (λ x. review_at x id) (review_refused f h))
  review_cases id None h = review_step id h (review_at s id) refl (has approve id) (has discard id) refl refl

  review_grows : (o : Option BoardReply) → review_fault s approve discard ≡ o → length s ≤ length (next s (event.Review approve discard))
  review_grows (Some f) h = let e = ap (λ x. length x) (review_refused f h) in omega (arith, e)
  review_grows None h = let e = ap (λ x. length x) (review_done h) in omega (arith, e, length-reviewed approve discard s)

-- ---- takes

-- why a request isn't given out, by whether the path is its own and it is approved
abbrev fault_by : ℕ → ReviewState → Bool → Bool → Option BoardReply
fault_by it t own approved = if not own then Some (reply.OtherEndpoint it) else (if not approved then Some (reply.NotApproved it t) else None)

no_fault : (it : ℕ) (t : ReviewState) (own approved : Bool) → fault_by it t own approved ≡ None → (own ≡ true) × (approved ≡ true)
no_fault it t false approved h = cc
no_fault it t true false h = cc
no_fault it t true true h = (refl, refl)

fault_target : (it : ℕ) (t : ReviewState) (own approved : Bool) (target : List ℕ) → fault_by it t own approved ≡ Some (reply.Given target) → ⊥
fault_target it t false approved target h = cc
fault_target it t true false target h = cc
fault_target it t true true target h = cc

-- the request of an id is given out, as it was filed
pub record Gives (s : List Review) (id : ℕ) (path target : List ℕ) : Type 0 where
  pub review : Review
  pub is : review_at s id ≡ Some review
  pub approved : is_approved review.state ≡ true
  pub path_is : review.path ≡ path
  pub target_is : review.target ≡ target
  pub now : review_at (next s (event.Take id path)) id ≡ Some (with_state review state.Submitted)

module _ (s : List Review) (it : ℕ) (path : List ℕ) (r : Review) (is : review_at s it ≡ Some r) where
  abbrev given : Answer
  given = (reply.Given r.target, set s (it - 1) (with_state r state.Submitted))

  take_refused : (f : BoardReply) → take_fault it path r ≡ Some f → next s (event.Take it path) ≡ s
  take_refused f h = ap (λ (q : Option Review). (answer_to_take s it path q).1) is ∙ ap (λ (o : Option BoardReply). (unless o s given).1) h

  take_done : take_fault it path r ≡ None → next s (event.Take it path) ≡ set s (it - 1) (with_state r state.Submitted)
  take_done h = ap (λ (q : Option Review). (answer_to_take s it path q).1) is ∙ ap (λ (o : Option BoardReply). (unless o s given).1) h

  submitted_at : take_fault it path r ≡ None → review_at (next s (event.Take it path)) it ≡ Some (with_state r state.Submitted)
  submitted_at h = ap (λ x. review_at x it) (take_done h) ∙ set_at s it (with_state r state.Submitted) r is

  take_step : (id : ℕ) (o : Option BoardReply) → take_fault it path r ≡ o → Stepped s (event.Take it path) id
  take_step id (Some f) h = same (ap (λ x. review_at x id) (take_refused f h))
  take_step id None h = elim (eqb_tells id it) [
    | inl p ↦
        given_now r (ap (λ j. review_at s j) p.1 ∙ is) (no_fault it r.state (bytes_eq r.path path) (is_approved r.state) h).1
        (ap (λ j. review_at (next s (event.Take it path)) j) p.1 ∙ submitted_at h)
    | inr p ↦ same (ap (λ x. review_at x id) (take_done h) ∙ unset_at s it id (with_state r state.Submitted) r is p.1)
  ]

  take_grows : (o : Option BoardReply) → take_fault it path r ≡ o → length s ≤ length (next s (event.Take it path))
  take_grows (Some f) h = let e = ap (λ x. length x) (take_refused f h) in omega (arith, e)
  take_grows None h = let e = ap (λ x. length x) (take_done h) in omega (arith, e, length-set s (it - 1) (with_state r state.Submitted))

  gives : (target : List ℕ) (o : Option BoardReply) → take_fault it path r ≡ o
      → (unless o s given).0 ≡ reply.Given target → Gives s it path target
  gives target None h e =
      let both : (bytes_eq r.path path ≡ true) × (is_approved r.state ≡ true) = no_fault it r.state (bytes_eq r.path path) (is_approved r.state) h in
      record {
        review = r;
        is = is;
        approved = both.1;
        path_is = same_text r.path path (sym both.0);
        target_is = cc;
        now = submitted_at h;
      }
  gives target (Some f) h e =
      absurd (fault_target it r.state (bytes_eq r.path path) (is_approved r.state) target (h ∙ ap (λ x. Some x) e))

module _ (s : List Review) (it : ℕ) (path : List ℕ) where
  take_unknown : review_at s it ≡ None → next s (event.Take it path) ≡ s
  take_unknown h = ap (λ (q : Option Review). (answer_to_take s it path q).1) h

  take_cases : (id : ℕ) (q : Option Review) → review_at s it ≡ q → Stepped s (event.Take it path) id
  take_cases id None h = same (ap (λ x. review_at x id) (take_unknown h))
  take_cases id (Some r) h = take_step s it path r h id (take_fault it path r) refl

  take_cases_grow : (q : Option Review) → review_at s it ≡ q → length s ≤ length (next s (event.Take it path))
  take_cases_grow None h = let e = ap (λ x. length x) (take_unknown h) in omega (arith, e)
  take_cases_grow (Some r) h = take_grows s it path r h (take_fault it path r) refl

  pub gives_by : (target : List ℕ) → reply_of s (event.Take it path) ≡ reply.Given target → Gives s it path target
  gives_by target h = at (review_at s it) refl h where
    at : (q : Option Review) → review_at s it ≡ q → (answer_to_take s it path q).0 ≡ reply.Given target → Gives s it path target
    at None e h = cc
    at (Some r) e h = gives s it path r e target (take_fault it path r) refl h

-- ---- all events

pub stepped : (s : List Review) (e : BoardEvent) (id : ℕ) → Stepped s e id
stepped s (event.File path target) id = file_step s path target id
stepped s (event.Review approve discard) id = review_cases s approve discard id (review_fault s approve discard) refl
stepped s (event.Take it path) id = take_cases s it path id (review_at s it) refl
stepped s event.List id = same refl

-- no request is lost
pub grows : (s : List Review) (e : BoardEvent) → length s ≤ length (next s e)
grows s (event.File path target) = omega (arith, length-append s (filed path target ∷ []))
grows s (event.Review approve discard) = review_grows s approve discard (review_fault s approve discard) refl
grows s (event.Take it path) = take_cases_grow s it path (review_at s it) refl
grows s event.List = omega arith
