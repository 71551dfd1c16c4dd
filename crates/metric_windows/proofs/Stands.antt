-- For which samples the tables stand.
use Rattle.std.proofs.Common.{◌≡◌, ◌≢◌, ◌∙◌, ℕ, ◌+◌, ◌*◌, ◌%◌, ◌<◌, ◌≤◌, Bool, true, false, cond, ◌&&◌, ◌==◌, List, [], ◌∷◌, ◌++◌, length, map, get_or, set, replicate, zero, suc, Option, Some, None, refl, sym, ap, inl, inr, arith}
use Rattle.std.specs.List.{filter, fold}
use Rattle.std.proofs.lemmas.Nat.{mul-add-lt, mod_below}
use Rattle.std.proofs.lemmas.Bool.{cases_lt, cases_eq}
use Rattle.std.proofs.lemmas.List.{map-append, append-nil, append_assoc, get_or-set_same, get_or-set_other}
use Rattle.std.proofs.lemmas.List.Sums.{fold_push}
use Rattle.std.proofs.lemmas.List.Elements.{filter-append, All-push, All-nil}
use Rattle.metric_windows.specs.declared.cell.Cell.{Cell}
use Rattle.plan_terms.specs.Loads.{IsLoads}
use Rattle.plan_terms.specs.declared.cluster.Loads.{Loads}
use Rattle.metric_windows.specs.Samples.{window_of, later, newest, is_past, is_in, samples_in, refusal, AcceptedAfter}
use Rattle.plan_terms.specs.declared.settings.WindowRules.{WindowRules}
use Rattle.plan_terms.specs.declared.settings.Sample.{Sample}
use Rattle.metric_windows.specs.Tables.{Tables, AreTables, place, cell_of, tally_at, tally_in, tally_of, with_load, empty_cell, stored}
use Rattle.metric_windows.specs.StandsFor.{StandsFor}
use Rattle.metric_windows.proofs.Numbers.{test_same, test_other, apart, same_place, is_ahead, ahead_later, past_later, ahead_far}
use Rattle.metric_windows.proofs.Sums.{tally-push}

-- the tables with one sample more
abbrev pub after_sample : Tables → ℕ → ℕ → Loads → Tables
after_sample t p w x = stored t p w (with_load (tally_in t p w) x)

get_or-same : (n k : ℕ) (c : Cell) → get_or (replicate n c) k c ≡ c
get_or-same zero k c = refl
get_or-same (suc n) zero c = refl
get_or-same (suc n) (suc k) c = get_or-same n k c

tally_at-same : (c : Cell) (i : ℕ) → c.window ≡ i → tally_at c i ≡ c.tally
tally_at-same c i e = ap (λ b. cond b c.tally (tally_of [])) (test_same c.window i e)

tally_at-other : (c : Cell) (i : ℕ) → c.window ≢ i → tally_at c i ≡ tally_of []
tally_at-other c i e = ap (λ b. cond b c.tally (tally_of [])) (test_other c.window i e)

tally_at-empty : (c : Cell) (i : ℕ) → c ≡ empty_cell → tally_at c i ≡ tally_of []
tally_at-empty c i e = ap (λ d. tally_at d i) e ∙ (elim (0 == i) as (λ b. cond b (tally_of []) (tally_of []) ≡ tally_of []) [ true ↦ refl | false ↦ refl ])

-- tables without a sample
pub StandsFor-empty : (t : Tables) (n : ℕ) → t.newest ≡ None → t.cells ≡ replicate n empty_cell → StandsFor t []
unfolding newest samples_in tally_in
StandsFor-empty t n none cells = record {
  accepted = tt;
  newest_is = none;
  tallies = λ p i below open'. tally_at-empty (cell_of t p i) i (ap (λ cs. get_or cs (place t.rules.keep p i) empty_cell) cells ∙ get_or-same n (place t.rules.keep p i) empty_cell);
  parts = All-nil (λ s. s.part < t.parts);
  loads = All-nil (λ s. IsLoads s.loads);
}

map_one : (b : Bool) (s : Sample) → map (λ (z : Sample). z.loads) (cond b (s ∷ []) []) ≡ cond b (s.loads ∷ []) []
map_one true s = refl
map_one false s = refl

-- one sample more
samples_in-push : (rules : WindowRules) (xs : List Sample) (s : Sample) (p i : ℕ) → samples_in rules (xs ++ s ∷ []) p i ≡ samples_in rules xs p i ++ cond (is_in rules p i s) (s.loads ∷ []) []
unfolding samples_in
samples_in-push rules xs s p i =
    ap (λ ys. map (λ (z : Sample). z.loads) ys) (filter-append (is_in rules p i) xs (s ∷ []))
    ∙ map-append (λ (z : Sample). z.loads) (filter (is_in rules p i) xs) (cond (is_in rules p i s) (s ∷ []) [])
    ∙ ap (λ ys. map (λ (z : Sample). z.loads) (filter (is_in rules p i) xs) ++ ys) (map_one (is_in rules p i s) s)

both_false : (a b : Bool) → b ≡ false → (a && b) ≡ false
both_false true b e = e
both_false false b e = refl

first_false : (a b : Bool) → a ≡ false → (a && b) ≡ false
first_false a b e = ap (λ x. x && b) e

both_true : (a b : Bool) → a ≡ true → b ≡ true → (a && b) ≡ true
both_true a b e f = ap (λ x. x && b) e ∙ f

none_ahead : (rules : WindowRules) (p i : ℕ) (o : Option ℕ) (xs : List Sample) → is_ahead (fold (λ n s. later n (window_of rules s.time)) o xs) i ≡ true → (is_ahead o i ≡ true) × (filter (is_in rules p i) xs ≡ [])
none_ahead rules p i o [] h = (h, refl)
none_ahead rules p i o (s ∷ ss) h =
    let r = none_ahead rules p i (later o (window_of rules s.time)) ss h in
    let q = ahead_later o (window_of rules s.time) i r.0 in
    let off : is_in rules p i s ≡ false = both_false (s.part == p) (window_of rules s.time == i) (test_other (window_of rules s.time) i (λ e. omega (arith, q.1, e))) in
    (q.0, ap (λ b. cond b (s ∷ filter (is_in rules p i) ss) (filter (is_in rules p i) ss)) off ∙ r.1)

-- a window that no sample has reached has none
pub samples_in-ahead : (rules : WindowRules) (xs : List Sample) (p i : ℕ) → is_ahead (newest rules xs) i ≡ true → samples_in rules xs p i ≡ []
unfolding newest samples_in
samples_in-ahead rules xs p i h = ap (λ ys. map (λ (z : Sample). z.loads) ys) ((none_ahead rules p i None xs h).1)

AcceptedAfter-push : (rules : WindowRules) (before xs : List Sample) (s : Sample) → AcceptedAfter rules before xs → refusal rules (before ++ xs) s ≡ None → AcceptedAfter rules before (xs ++ s ∷ [])
AcceptedAfter-push rules before [] s h r = (rw append-nil at r, tt)
AcceptedAfter-push rules before (x ∷ xs) s h r = (h.0, AcceptedAfter-push rules (before ++ x ∷ []) xs s h.1 (rw append_assoc r))

none_then : {X : Type 0} (b : Bool) (e : X) (z : Option X) → cond b (Some e) z ≡ None → (b ≡ false) × (z ≡ None)
none_then true e z h = absurd (cc)
none_then false e z h = (refl, h)

not_in : (rules : WindowRules) (p i : ℕ) (s : Sample) → ((s.part ≡ p) × (window_of rules s.time ≡ i) → ⊥) → is_in rules p i s ≡ false
not_in rules p i s h =
    elim (cases_eq s.part p) [
      | inl same ↦ both_false (s.part == p) (window_of rules s.time == i) (test_other (window_of rules s.time) i (λ e. h (same, e)))
      | inr other ↦ first_false (s.part == p) (window_of rules s.time == i) (test_other s.part p other)
    ]

tally_in-is : (t : Tables) (p i : ℕ) → tally_in t p i ≡ tally_at (cell_of t p i) i
unfolding tally_in
tally_in-is t p i = refl

abbrev after : Tables → Sample → Tables
after t s = after_sample t s.part (window_of t.rules s.time) s.loads

-- the cell that the sample changes, and what it is then
abbrev spot : Tables → Sample → ℕ
spot t s = place t.rules.keep s.part (window_of t.rules s.time)

abbrev written : Tables → Sample → Cell
written t s = record { window = window_of t.rules s.time; tally = with_load (tally_in t s.part (window_of t.rules s.time)) s.loads }

cell_written : (t : Tables) (s : Sample) (p i : ℕ) → place t.rules.keep p i ≡ spot t s → spot t s < length t.cells → cell_of (after t s) p i ≡ written t s
unfolding stored
cell_written t s p i e l = ap (λ k. get_or (set t.cells (spot t s) (written t s)) k empty_cell) e ∙ get_or-set_same t.cells (spot t s) (written t s) empty_cell l

cell_kept : (t : Tables) (s : Sample) (p i : ℕ) → place t.rules.keep p i ≢ spot t s → cell_of (after t s) p i ≡ cell_of t p i
unfolding stored
cell_kept t s p i ne = get_or-set_other t.cells (spot t s) (place t.rules.keep p i) (written t s) empty_cell ne

samples_in-more : (rules : WindowRules) (xs : List Sample) (s : Sample) (p i : ℕ) → is_in rules p i s ≡ true → samples_in rules (xs ++ s ∷ []) p i ≡ samples_in rules xs p i ++ s.loads ∷ []
samples_in-more rules xs s p i e = samples_in-push rules xs s p i ∙ ap (λ b. samples_in rules xs p i ++ cond b (s.loads ∷ []) []) e

samples_in-other : (rules : WindowRules) (xs : List Sample) (s : Sample) (p i : ℕ) → is_in rules p i s ≡ false → samples_in rules (xs ++ s ∷ []) p i ≡ samples_in rules xs p i
samples_in-other rules xs s p i e = samples_in-push rules xs s p i ∙ ap (λ b. samples_in rules xs p i ++ cond b (s.loads ∷ []) []) e ∙ append-nil (samples_in rules xs p i)

module _ (t : Tables) (samples : List Sample) (s : Sample) (good : AreTables t) (stands : StandsFor t samples) (known : s.part < t.parts) (fine : IsLoads s.loads) (accepted : refusal t.rules samples s ≡ None) where
  newest-after : later t.newest (window_of t.rules s.time) ≡ newest t.rules (samples ++ s ∷ [])
  unfolding newest
  newest-after = ap (λ o. later o (window_of t.rules s.time)) stands.newest_is ∙ sym (fold_push (λ n z. later n (window_of t.rules z.time)) None samples s)

  open_window : is_past t.rules t.newest (window_of t.rules s.time) ≡ false
  unfolding refusal
  open_window = ap (λ o. is_past t.rules o (window_of t.rules s.time)) stands.newest_is ∙ (none_then _ _ _ accepted).0

  within : place t.rules.keep s.part (window_of t.rules s.time) < length t.cells
  within =
      let some : 0 < t.rules.keep = omega (arith, good.ranges.keep_some) in
      let small = mod_below (window_of t.rules s.time) t.rules.keep some in
      rw good.size (omega (arith, mul-add-lt s.part t.rules.keep (window_of t.rules s.time % t.rules.keep) t.parts known small))

  -- the sample's own cell
  same_cell : tally_in (after t s) s.part (window_of t.rules s.time) ≡ tally_of (samples_in t.rules (samples ++ s ∷ []) s.part (window_of t.rules s.time))
  same_cell =
      let w = window_of t.rules s.time in
      let mine : is_in t.rules s.part w s ≡ true = both_true (s.part == s.part) (w == w) (test_same s.part s.part refl) (test_same w w refl) in
      tally_in-is (after t s) s.part w
      ∙ ap (λ c. tally_at c w) (cell_written t s s.part w refl within)
      ∙ tally_at-same (written t s) w refl
      ∙ ap (λ z. with_load z s.loads) (stands.tallies s.part w known open_window)
      ∙ sym (tally-push (samples_in t.rules samples s.part w) s.loads)
      ∙ ap tally_of (sym (samples_in-more t.rules samples s s.part w mine))

  -- another cell
  other_cell : (p i : ℕ) → p < t.parts → is_past t.rules (later t.newest (window_of t.rules s.time)) i ≡ false → place t.rules.keep p i ≢ spot t s → tally_in (after t s) p i ≡ tally_of (samples_in t.rules (samples ++ s ∷ []) p i)
  other_cell p i below open' ne =
      let w = window_of t.rules s.time in
      let off : is_in t.rules p i s ≡ false = not_in t.rules p i s (λ e. ne (ap (λ k. place t.rules.keep k i) (sym e.0) ∙ ap (λ k. place t.rules.keep s.part k) (sym e.1))) in
      tally_in-is (after t s) p i
      ∙ ap (λ c. tally_at c i) (cell_kept t s p i ne)
      ∙ sym (tally_in-is t p i)
      ∙ stands.tallies p i below (past_later t.rules t.newest w i open').0
      ∙ ap tally_of (sym (samples_in-other t.rules samples s p i off))

  -- no sample has reached another window that shares the sample's cell
  stale_ahead : (i : ℕ) → i % t.rules.keep ≡ window_of t.rules s.time % t.rules.keep → i ≢ window_of t.rules s.time → is_past t.rules (later t.newest (window_of t.rules s.time)) i ≡ false → window_of t.rules s.time + t.rules.keep ≤ i
  stale_ahead i m ne open' =
      let w = window_of t.rules s.time in
      elim (cases_lt i w) [
        | inl l ↦ absurd (omega (arith, apart t.rules.keep i w m l, (past_later t.rules t.newest w i open').1))
        | inr l ↦ apart t.rules.keep w i (sym m) (omega arith)
      ]

  -- the sample's cell, seen as another window's
  stale_cell : (i : ℕ) → i % t.rules.keep ≡ window_of t.rules s.time % t.rules.keep → i ≢ window_of t.rules s.time → is_past t.rules (later t.newest (window_of t.rules s.time)) i ≡ false → tally_in (after t s) s.part i ≡ tally_of (samples_in t.rules (samples ++ s ∷ []) s.part i)
  stale_cell i m ne open' =
      let w = window_of t.rules s.time in
      let far = ahead_far t.rules t.newest w i open_window (stale_ahead i m ne open') in
      let off : is_in t.rules s.part i s ≡ false = not_in t.rules s.part i s (λ e. ne (sym e.1)) in
      tally_in-is (after t s) s.part i
      ∙ ap (λ c. tally_at c i) (cell_written t s s.part i (ap (λ k. s.part * t.rules.keep + k) m) within)
      ∙ tally_at-other (written t s) i (λ e. ne (sym e))
      ∙ ap tally_of (sym (samples_in-other t.rules samples s s.part i off ∙ samples_in-ahead t.rules samples s.part i (rw (← stands.newest_is) far)))

  pub StandsFor-sample : StandsFor (after_sample t s.part (window_of t.rules s.time) s.loads) (samples ++ s ∷ [])
  unfolding stored
  StandsFor-sample = record {
    accepted = AcceptedAfter-push t.rules [] samples s stands.accepted accepted;
    newest_is = newest-after;
    tallies = λ p i below open'.
        elim (cases_eq (place t.rules.keep p i) (place t.rules.keep s.part (window_of t.rules s.time))) [
          | inl e ↦
              let q = same_place t.rules.keep p i s.part (window_of t.rules s.time) (omega (arith, good.ranges.keep_some)) e in
              elim (cases_eq i (window_of t.rules s.time)) [
                | inl f ↦ rw (q.0, f) same_cell
                | inr ne ↦ rw q.0 (stale_cell i q.1 ne open')
              ]
          | inr ne ↦ other_cell p i below open' ne
        ];
    parts = All-push (λ z. z.part < t.parts) samples s stands.parts known;
    loads = All-push (λ z. IsLoads z.loads) samples s stands.loads fine;
  }
