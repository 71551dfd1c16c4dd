-- The journal of a shared book.
use mathlib.Core.List.{IsPrefix}
use Rattle.std.proofs.Common.{◌≡◌, ◌≤◌, ◌⊎◌, inl, inr, ℕ, ◌+◌, Bool, true, List, [], length, ap, sym, subst, arith}
use Rattle.std.specs.List.{list_any}
use Rattle.std.proofs.lemmas.Bool.{cases_lt}
use Rattle.cc_base.specs.Outside.{HasRisen}
use Rattle.cluster_json.specs.File.{Meaning}
use Rattle.control_core.specs.Books.{BookView, IsSince}
use Rattle.core_laws.specs.Events.{is_close}
use Rattle.core_terms.specs.declared.events.Event.{Event}
use Rattle.mover_rounds.specs.Made.{Copies}
use Rattle.mover_rounds.proofs.Prefixes.{prefix_trans}
use Rattle.std.specs.Prelude.{Option}
use Rattle.mover_workers.specs.Callers.{CallerView}
use Rattle.review_board.specs.declared.events.BoardEvent.{BoardEvent}
use Rattle.turn_book.specs.Known.{IsWhole, Known as PassView, Made}
use Rattle.turn_book.specs.Rule.{once_below, times}
use Rattle.live_service.specs.Asked.{ServingAsked}
use Rattle.live_service.specs.Boards.{BoardCallerView, BoardPass}
use Rattle.live_service.specs.Closing.{HasFronted}
use Rattle.live_service.specs.Live.{AreAllOf, IsBoardOf, IsShared}
use Rattle.live_service.specs.Runs.{Fronted, HasRunWorkers}
use Rattle.live_service.specs.Views.{TeamView}
use Rattle.live_service.specs.declared.front.FrontEnd.{FrontEnd}
use Rattle.live_service.specs.Workers.{HasRunAll, Pass}
use Rattle.mover_workers.proofs.Asked.{any_in, was_asked}

-- what a turn says of the book that it gives back
abbrev pub IsWholeOf : {A : Type 0} → (A → ℕ) → BookView A → Pass → BookView A → Type 0
IsWholeOf faults b w c = IsWhole (λ x. x.file) (λ x. x.journal) (λ x. x.failures) (λ x y. IsSince faults x y) b w c

-- a whole list of entries is just the journal of a book that was empty
pub all_of : {B O E : Type 0} (opening : B → O) (journal : B → List E) (blamed : B → ℕ) (since : B → B → Type 0) (b c : B) (w : PassView O E) → journal b ≡ [] → IsWhole opening journal blamed since b w c → AreAllOf (journal c) w.mine
all_of {B} {O} {E} opening journal blamed since b c w empty whole = record {
  each_once = λ x. let h = subst (λ (j : List E). times x w.mine + once_below x (length j) ≡ once_below x (length (journal c))) empty (whole.each_once x) in omega (arith, h);
  placed = whole.placed;
}

pub shared_by : {A : Type 0} (faults : A → ℕ) (Did : List Copies → List Copies → Pass → Pass → Type 0) (b c : BookView A) (given w : Pass) (s t : TeamView) (movers planners : ℕ) → b.journal ≡ [] → given.mine ≡ [] → HasRunAll Did b.file given w s.front.service.copiers t.front.service.copiers t.movers t.planners movers planners
    → IsWholeOf faults b w c → IsShared faults Did b c s t movers planners
shared_by faults Did b c given w s t movers planners empty fresh run whole = record { given = given; fresh = fresh; back = w; run = run; since = whole.since_is; shares = all_of (λ x. x.file) (λ x. x.journal) (λ x. x.failures) (λ x y. IsSince faults x y) b c w empty whole; saw = whole.seen; told = whole.last }

-- Close stands in the journal of a front that was shared
pub is_closed : {A : Type 0} (faults : A → ℕ) (Answered : List Copies → List Copies → Pass → Pass → Type 0) (b c : BookView A) (s t : TeamView) (movers planners : ℕ) → IsShared faults (λ xs ys. HasFronted (Answered xs ys)) b c s t movers planners
    → list_any is_close c.journal ≡ true
is_closed faults Answered b c s t movers planners h =
    let r = h.run.run in
    let first = prefix_trans r.over.seen h.run.between.seen h.back.seen r.movers.shares.longer h.run.planners.shares.longer in
    any_in r.over.seen c.journal (prefix_trans r.over.seen h.back.seen c.journal first h.saw) (was_asked r.did.served r.over r.did.closed)

-- the same of a book that the turn was made with
pub shared_from : {A : Type 0} (faults : A → ℕ) (Did : Meaning → List Copies → List Copies → Pass → Pass → Type 0) (start b c : BookView A) (given w : Pass) (s t : TeamView) (movers planners : ℕ) → start ≡ b → b.journal ≡ [] → given.mine ≡ []
    → HasRunAll (Did start.file) start.file given w s.front.service.copiers t.front.service.copiers t.movers t.planners movers planners → IsWholeOf faults start w c → IsShared faults (Did b.file) b c s t movers planners
shared_from {A} faults Did start b c given w s t movers planners same empty fresh run whole =
    subst (λ (x : BookView A). IsShared faults (Did x.file) x c s t movers planners) same
    (shared_by faults (Did start.file) start c given w s t movers planners (subst (λ (x : BookView A). x.journal ≡ []) (sym same) empty) fresh run whole)

-- and of what a caller of the turn did who had its first pass, and was taken apart at the end
pub shared_by_caller : {A : Type 0} (faults : A → ℕ) (turn : Made (BookView A)) (pass w : Pass) (v x : CallerView A) (b c : BookView A) (d e : BoardCallerView) (s t : TeamView) (asked : Option ServingAsked) (end : FrontEnd) (movers planners : ℕ) → v.turn ≡ turn → v.pass ≡ pass → w ≡ x.pass
    → turn.start ≡ b → b.journal ≡ [] → pass.mine ≡ [] → HasRunWorkers asked v x d e s t end movers planners → IsWholeOf faults turn.start w c → IsShared faults (Fronted b.file asked d e s.front t.front end) b c s t movers planners
shared_by_caller {A} faults turn pass w v x b c d e s t asked end movers planners turn_is pass_is over start empty fresh h whole =
    let ran : Meaning → Pass → Pass → Type 0 = λ file p q. HasRunAll (Fronted file asked d e s.front t.front end) file p q s.front.service.copiers t.front.service.copiers t.movers t.planners movers planners in
    let of_turn = subst (λ (m : Made (BookView A)). ran m.start.file v.pass x.pass) turn_is h.run in
    let of_pass = subst (λ (p : Pass). ran turn.start.file p x.pass) pass_is of_turn in
    let run = subst (λ (p : Pass). ran turn.start.file pass p) (sym over) of_pass in
    shared_from faults (λ file. Fronted file asked d e s.front t.front end) turn.start b c pass w s t movers planners start empty fresh run whole

-- and of a board that the turn was made with, which was empty
pub board_by_caller : (turn : Made (List BoardEvent)) (d e : BoardCallerView) (w : BoardPass) (journal : List BoardEvent) (reviews : Bool) → turn.start ≡ [] → d.reviews ≡ reviews → d.pass.mine ≡ [] → w ≡ e.pass → IsWhole (λ x. tt) (λ x. x) (λ x. 0) (λ x y. IsPrefix x y) turn.start w journal → IsBoardOf reviews journal d e
board_by_caller turn d e w journal reviews empty reviewed fresh over whole = record {
  reviewed = reviewed;
  fresh = fresh;
  shares = subst (λ (p : BoardPass). AreAllOf journal p.mine) over (all_of (λ x. tt) (λ x. x) (λ x. 0) (λ x y. IsPrefix x y) turn.start journal w empty whole);
  saw = subst (λ (p : BoardPass). IsPrefix p.seen journal) over whole.seen;
}

-- a fault behind which a settled book stands was late, unless the number of its faults is the greatest
pub is_late : {A : Type 0} (faults : A → ℕ) (o b c : BookView A) → b ≡ record o { settled = true } → IsSince faults b c → HasRisen b.failures c.failures → (1 ≤ c.late) ⊎ (18446744073709551615 ≤ c.failures)
is_late faults o b c same since risen = elim (cases_lt b.failures c.failures) [
  | inl m ↦ inl (since.late (ap (λ x. x.settled) same) m)
  | inr m ↦ inr (omega (arith, m, risen))
]

-- and a fault behind which a book stands came with a failed call of the admin
pub is_risen : {A : Type 0} (faults : A → ℕ) (b c : BookView A) → IsSince faults b c → HasRisen b.failures c.failures → c.failures ≤ faults c.admin → HasRisen (faults b.admin) (faults c.admin)
is_risen faults b c since risen few = elim (cases_lt b.failures c.failures) [
  | inl m ↦ since.risen m
  | inr m ↦ omega (arith, m, risen, few)
]
