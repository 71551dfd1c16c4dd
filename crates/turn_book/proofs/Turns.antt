-- The steps of one turn keep the rule.
use Rattle.std.proofs.Common.{◌≡◌, ℕ, zero, suc, ◌+◌, ◌≤◌, ◌<◌, List, [], ◌∷◌, ◌++◌, length, set, true, true≢false, Option, Some, slice_get, refl, ap, sym, ◌∙◌, ⊎_elim, subst, arith, length-append}
use Rattle.std.specs.Prelude.{slice_index, ◌==◌, if◌then◌else◌}
use mathlib.Core.List.{IsPrefix}
use mathlib.Core.Option.{some, some-injective, some-ne-none, none}
use lib.ListN.{get_elem?}
use prog.Atomic.{either}
use Rattle.atomic_table.specs.Table.{State, Me, Act, keeps, takes, gives, Valid, stepped, carried_after, Allows, rest, step}
use Rattle.atomic_table.proofs.Lists.{set_again, set_else, at_snoc, exchanged}
use native.Mathlib.Decide.{ℕ_discrete}
use Rattle.turn_book.specs.declared.rule.View.{View}
use Rattle.atomic_table.specs.Table as tables
use Rattle.turn_book.specs.Rule.{first_view, Hand, at_home, out, canon, Knows, Owns, IsHeld, Facts, Kept, total, times, once_below}
use Rattle.turn_book.specs.Passes.{HasTurn, MayEnd}
use Rattle.turn_book.specs.Plays.{blaming, blames, Seated, holding, freed, seeing, extended, taken, looked, published, released}
use Rattle.turn_book.proofs.Lists.{prefix_self, prefix_longer, prefix_get, get_last, set_there, each_set, total_set, times-append}

module _ {B O E : Type 0} (opening : B → O) (journal : B → List E) (blamed : B → ℕ) (since : B → B → Type 0) (start : B) where
  abbrev pub Views : Type 0
  Views = List (View B O E)

  abbrev pub S : Type 0
  S = State (Option B) (View B O E)

  abbrev pub Rule : S → Type 0
  Rule = Kept opening journal blamed since start

  abbrev pub Fact : Hand B → List E → ℕ → Views → Type 0
  Fact = Facts opening journal blamed since start

  -- what `Allows` asks at one state
  abbrev pub Goes : ℕ → Seated B O E → ℕ → (ℕ → ℕ) → (ℕ → Seated B O E → Type 0) → S → Type 0
  Goes id me i f tells s = (w : View B O E) × (a : Act (Option B)) × Valid s.homes me.1 a × Rule (stepped s i (f (slice_index s.words i)) id me.1 w a) × tells (slice_index s.words i) (w, carried_after me.1 a)

  -- it is enough to show it at a state with its facts
  pub allows : (slots id : ℕ) (me : Seated B O E) (i : ℕ) (f : ℕ → ℕ) (tells : ℕ → Seated B O E → Type 0)
      → ((hand : Hand B) (log : List E) (faults stirs : ℕ) (views : Views) → Fact hand log faults views → get_elem? views id ≡ some me.0 → Goes id me i f tells (canon hand log faults stirs views))
      → Allows Rule slots id me i f tells
  allows slots id me i f tells go s k len at lt =
      subst (Goes id me i f tells) (sym k.state) (go k.hand k.log k.faults k.stirs k.views k.facts (sym (ap (λ (t : S). get_elem? t.views id) k.state) ∙ at))

  -- the views after a change of one, which keeps its own entries and its parts
  pub kept_totals : (f : View B O E → ℕ) (views : Views) (id : ℕ) (v w : View B O E) → get_elem? views id ≡ some v → f w ≡ f v → total f (set views id w) ≡ total f views
  kept_totals f views id v w at same = omega (arith, total_set f views id v w at)

  since_of : (b s : B) → start ≡ s → since start b → since s b
  since_of b s e h = subst (λ (c : B). since c b) e h

  takes_home : (b : B) (log : List E) (faults stirs : ℕ) (views : Views) (slots id : ℕ) (me : Seated B O E) → Fact (at_home b) log faults views → get_elem? views id ≡ some me.0 → 0 < me.0.parts
      → Goes id me 0 (λ n. either (n == 0) 1 n) (taken opening journal blamed since (step slots 0 0 1 none) me) (canon (at_home b) log faults stirs views)
  takes_home b log faults stirs views slots id me F at some_part =
      let v = me.0 in
      let K = F.knows id v at in
      let w = holding v (journal b) (blamed b) in
      let views' = set views id w in (
        w,
        takes 0 (Some b),
        refl,
        record {
          hand = out id;
          log = log;
          faults = faults;
          stirs = stirs;
          views = views';
          state = refl;
          facts = record {
            begins = F.begins;
            book = tt;
            held = (w, set_there views id w v at, refl);
            places = λ x. omega (arith, kept_totals (λ (u : View B O E). times x u.mine) views id v w at refl, F.places x);
            parts = kept_totals (λ (u : View B O E). u.parts) views id v w at refl ∙ F.parts;
            knows = each_set (λ _ u. Knows start (opening start) log faults u) views id w
                (record {
                  start_is = K.start_is;
                  opening_is = K.opening_is;
                  seen = subst (λ l. IsPrefix l log) (sym F.book.1) (prefix_self log);
                  older = K.older;
                  mine = λ k p e. prefix_get v.seen (journal b) p.0 p.1 (subst (λ l. IsPrefix v.seen l) (sym F.book.1) K.seen) (K.mine k p e);
                  last = K.last;
                  idle = λ none. absurd (omega arith);
                })
                (λ j u _ e. F.knows j u e);
            owns = each_set (λ j (u : View B O E). u.holds ≡ true → Owns {B = B} (out id) log faults j u) views id w (λ _. (refl, F.book.1, F.book.2)) (λ j u _ e h. absurd (F.owns j u e h));
          };
        },
        (
          (λ _. record {
            book = b;
            view = refl;
            carried = refl;
            same = λ o is. F.book.0 ∙ cc (K.opening_is some_part, is);
            longer = subst (λ l. IsPrefix v.seen l) (sym F.book.1) K.seen;
            last = subst (λ n. v.last ≤ n) (sym F.book.2) K.last;
            since_is = λ s is. since_of b s (cc (K.start_is some_part, is)) F.book.3;
          }),
          (λ ne. absurd (ne refl)),
        ),
      )

  -- a step that changes nothing
  pub stays : (hand : Hand B) (log : List E) (faults stirs : ℕ) (views : Views) (id : ℕ) (v : View B O E) → Fact hand log faults views → get_elem? views id ≡ some v → Rule (canon hand log faults stirs (set views id v))
  stays hand log faults stirs views id v F at = record { hand = hand; log = log; faults = faults; stirs = stirs; views = set views id v; state = refl; facts = subst (Fact hand log faults) (sym (set_again views id v at)) F }

  takes_any : (hand : Hand B) (log : List E) (faults stirs : ℕ) (views : Views) (slots id : ℕ) (me : Seated B O E) → Fact hand log faults views → get_elem? views id ≡ some me.0 → 0 < me.0.parts
      → Goes id me 0 (λ n. either (n == 0) 1 n) (taken opening journal blamed since (step slots 0 0 1 none) me) (canon hand log faults stirs views)
  takes_any (at_home b) log faults stirs views slots id me F at some_part = takes_home b log faults stirs views slots id me F at some_part
  takes_any (out j) log faults stirs views slots id me F at some_part = (me.0, keeps, tt, stays (out j) log faults stirs views id me.0 F at, ((λ e. absurd (omega arith)), (λ _. refl)))

  pub takes_turn : (slots id : ℕ) (me : Seated B O E) → 0 < me.0.parts → Allows Rule slots id me 0 (λ n. either (n == 0) 1 n) (taken opening journal blamed since (step slots 0 0 1 none) me)
  takes_turn slots id me some_part = allows slots id me 0 (λ n. either (n == 0) 1 n) (taken opening journal blamed since (step slots 0 0 1 none) me) (λ hand log faults stirs views F at. takes_any hand log faults stirs views slots id me F at some_part)

  owns_seeing : (hand : Hand B) (log : List E) (faults j : ℕ) (v : View B O E) → Owns hand log faults j v → Owns hand log faults j (seeing v log)
  owns_seeing (at_home b) log faults j v o = o
  owns_seeing (out i) log faults j v o = (o.0, refl, o.2)

  owns_whole : (hand : Hand B) (log : List E) (faults j : ℕ) (v : View B O E) → Owns hand log faults j v → log ≡ v.seen
  owns_whole (at_home b) log faults j v o = absurd o
  owns_whole (out i) log faults j v o = sym o.1

  held_at : (views : Views) (id j : ℕ) (v w u : View B O E) → get_elem? views id ≡ some v → w.holds ≡ v.holds → get_elem? views j ≡ some u → u.holds ≡ true → Dec (j ≡ id) → IsHeld {B = B} (set views id w) (out j)
  held_at views id j v w u at same d h (yes e) =
      let vu : v ≡ u = some-injective v u (sym at ∙ (ap (get_elem? views) (sym e) ∙ d)) in
      (w, subst (λ k. get_elem? (set views id w) k ≡ some w) (sym e) (set_there views id w v at), same ∙ (ap (λ (t : View B O E). t.holds) vu ∙ h))
  held_at views id j v w u at same d h (no ne) = (u, set_else views id j w ne ∙ d, h)

  pub held_set : (hand : Hand B) (views : Views) (id : ℕ) (v w : View B O E) → get_elem? views id ≡ some v → w.holds ≡ v.holds → IsHeld views hand → IsHeld (set views id w) hand
  held_set (at_home b) views id v w at same h = tt
  held_set (out j) views id v w at same h = held_at views id j v w h.0 at same h.1 h.2 (ℕ_discrete j id)

  looks_canon : (hand : Hand B) (log : List E) (faults stirs : ℕ) (views : Views) (slots id : ℕ) (me : Seated B O E) → Fact hand log faults views → get_elem? views id ≡ some me.0
      → Goes id me 1 (λ n. n) (looked (step slots 1 0 0 none) me) (canon hand log faults stirs views)
  looks_canon hand log faults stirs views slots id me F at =
      let v = me.0 in
      let K = F.knows id v at in
      let w = seeing v log in
      let views' = set views id w in (
        w,
        keeps,
        tt,
        record {
          hand = hand;
          log = log;
          faults = faults;
          stirs = stirs;
          views = views';
          state = refl;
          facts = record {
            begins = F.begins;
            book = F.book;
            held = held_set hand views id v w at refl F.held;
            places = λ x. omega (arith, kept_totals (λ (u : View B O E). times x u.mine) views id v w at refl, F.places x);
            parts = kept_totals (λ (u : View B O E). u.parts) views id v w at refl ∙ F.parts;
            knows = each_set (λ _ u. Knows start (opening start) log faults u) views id w
                (record { start_is = K.start_is; opening_is = K.opening_is; seen = prefix_self log; older = K.older; mine = λ k p e. prefix_get v.seen log p.0 p.1 K.seen (K.mine k p e); last = K.last; idle = K.idle })
                (λ j u _ e. F.knows j u e);
            owns = each_set (λ j (u : View B O E). u.holds ≡ true → Owns hand log faults j u) views id w (λ h. owns_seeing hand log faults id v (F.owns id v at h)) (λ j u _ e h. F.owns j u e h);
          };
        },
        record { log = log; view = refl; length_is = refl; longer = K.seen; older = K.older; whole = λ h. owns_whole hand log faults id v (F.owns id v at h); placed = λ k p e. prefix_get v.seen log p.0 p.1 K.seen (K.mine k p e) },
      )

  pub looks_history : (slots id : ℕ) (me : Seated B O E) → Allows Rule slots id me 1 (λ n. n) (looked (step slots 1 0 0 none) me)
  looks_history slots id me = allows slots id me 1 (λ n. n) (looked (step slots 1 0 0 none) me) (λ hand log faults stirs views F at. looks_canon hand log faults stirs views slots id me F at)

  knows_grown : (log : List E) (faults : ℕ) (v : View B O E) (e : E) → Knows start (opening start) log faults v → Knows start (opening start) (log ++ e ∷ []) faults v
  knows_grown log faults v e K = record { start_is = K.start_is; opening_is = K.opening_is; seen = prefix_longer v.seen log (e ∷ []) K.seen; older = λ k o d. prefix_longer o log (e ∷ []) (K.older k o d); mine = K.mine; last = K.last; idle = K.idle }

  knows_extended : (log : List E) (faults : ℕ) (v : View B O E) (e : E) → Knows start (opening start) log faults v → 0 < v.parts → v.seen ≡ log → Knows start (opening start) (log ++ e ∷ []) faults (extended v e)
  knows_extended log faults v e K some_part whole = record {
    start_is = K.start_is;
    opening_is = K.opening_is;
    seen = subst (λ l. IsPrefix (l ++ e ∷ []) (log ++ e ∷ [])) (sym whole) (prefix_self (log ++ e ∷ []));
    older = λ k o d. prefix_longer o log (e ∷ []) (K.older k o d);
    mine = λ k p d. ⊎_elim
        (λ was. prefix_get v.seen (v.seen ++ e ∷ []) p.0 p.1 (e ∷ [], refl) (K.mine k p was))
        (λ same. subst (λ (q : ℕ × E). slice_get (v.seen ++ e ∷ []) q.0 ≡ Some q.1) same (get_last v.seen e))
        (at_snoc v.mine (length v.seen, e) p k d);
    last = K.last;
    idle = λ none. absurd (omega arith);
  }

  entry_places : (x : ℕ) (log : List E) (views : Views) (id : ℕ) (v : View B O E) (e : E) → get_elem? views id ≡ some v → v.seen ≡ log
      → total (λ (u : View B O E). times x u.mine) views + once_below x (length (journal start)) ≡ once_below x (length log)
      → total (λ (u : View B O E). times x u.mine) (set views id (extended v e)) + once_below x (length (journal start)) ≡ once_below x (length (log ++ e ∷ []))
  entry_places x log views id v e at whole places =
      let t = total_set (λ (u : View B O E). times x u.mine) views id v (extended v e) at in
      let a = times-append x v.mine ((length v.seen, e) ∷ []) in
      let one : times x ((length v.seen, e) ∷ []) ≡ (if length log == x then 1 else 0) + 0 = ap (λ (l : List E). (if length l == x then 1 else 0) + 0) whole in
      let long : length (log ++ e ∷ []) ≡ suc (length log) = omega (arith, length-append log (e ∷ [])) in
      let o : once_below x (length (log ++ e ∷ [])) ≡ (if length log == x then 1 else 0) + once_below x (length log) = ap (once_below x) long in
      omega (arith, t, a, one, o, places)

  publishes_out : (j : ℕ) (log : List E) (faults stirs : ℕ) (views : Views) (slots id old : ℕ) (me : Seated B O E) (b : B) (e : E) → Fact (out j) log faults views → get_elem? views id ≡ some me.0
      → 0 < me.0.parts → j ≡ id → me.0.seen ≡ log → me.0.known ≡ faults → old ≡ length me.0.seen → journal b ≡ me.0.seen ++ e ∷ []
      → Goes id me 1 (λ n. either (n == old) (old + 1) n) (published journal (step slots 1 old (old + 1) (some (Some b))) me) (canon (out j) log faults stirs views)
  publishes_out j log faults stirs views slots id old me b e F at some_part mine whole knows old_is longer =
      let v = me.0 in
      let K = F.knows id v at in
      let w = extended v e in
      let views' = set views id w in
      let log' : List E = log ++ e ∷ [] in
      let long : length log' ≡ length log + 1 = length-append log (e ∷ []) in
      let word : either (length log == old) (old + 1) (length log) ≡ length log' = exchanged (length log) old (old + 1) (λ n. n ≡ length log') (λ e. omega (arith, long)) (λ ne. absurd (ne (sym (ap (λ (l : List E). length l) whole) ∙ sym old_is))) in (
        w,
        keeps,
        tt,
        record {
          hand = out j;
          log = log';
          faults = faults;
          stirs = stirs;
          views = views';
          state = ap (λ n. record { words = 1 ∷ n ∷ faults ∷ stirs ∷ []; homes = none ∷ []; views = views' }) word;
          facts = record {
            begins = prefix_longer (journal start) log (e ∷ []) F.begins;
            book = tt;
            held = held_set (out j) views id v w at refl F.held;
            places = λ x. entry_places x log views id v e at whole (F.places x);
            parts = kept_totals (λ (u : View B O E). u.parts) views id v w at refl ∙ F.parts;
            knows = each_set (λ _ u. Knows start (opening start) log' faults u) views id w (knows_extended log faults v e K some_part whole) (λ i u _ d. knows_grown log faults u e (F.knows i u d));
            owns = each_set (λ i (u : View B O E). u.holds ≡ true → Owns {B = B} (out j) log' faults i u) views id w (λ _. (sym mine, ap (λ l. l ++ e ∷ []) whole, knows)) (λ i u ne d h. absurd (ne ((F.owns i u d h).0 ∙ mine)));
          };
        },
        record { book = b; entry = e; said = refl; longer = longer; view = refl },
      )

  publishes_any : (hand : Hand B) (log : List E) (faults stirs : ℕ) (views : Views) (slots id old : ℕ) (me : Seated B O E) (b : B) (e : E) → Fact hand log faults views → get_elem? views id ≡ some me.0
      → 0 < me.0.parts → me.0.holds ≡ true → old ≡ length me.0.seen → journal b ≡ me.0.seen ++ e ∷ []
      → Goes id me 1 (λ n. either (n == old) (old + 1) n) (published journal (step slots 1 old (old + 1) (some (Some b))) me) (canon hand log faults stirs views)
  publishes_any (at_home h) log faults stirs views slots id old me b e F at some_part holds old_is longer = absurd (F.owns id me.0 at holds)
  publishes_any (out j) log faults stirs views slots id old me b e F at some_part holds old_is longer =
      let o = F.owns id me.0 at holds in publishes_out j log faults stirs views slots id old me b e F at some_part (sym o.0) o.1 o.2 old_is longer

  pub publishes_entry : (slots id old : ℕ) (me : Seated B O E) (b : B) (e : E) → 0 < me.0.parts → me.0.holds ≡ true → old ≡ length me.0.seen → journal b ≡ me.0.seen ++ e ∷ []
      → Allows Rule slots id me 1 (λ n. either (n == old) (old + 1) n) (published journal (step slots 1 old (old + 1) (some (Some b))) me)
  publishes_entry slots id old me b e some_part holds old_is longer =
      allows slots id me 1 (λ n. either (n == old) (old + 1) n) (published journal (step slots 1 old (old + 1) (some (Some b))) me)
      (λ hand log faults stirs views F at. publishes_any hand log faults stirs views slots id old me b e F at some_part holds old_is longer)

  releases_any : (hand : Hand B) (log : List E) (faults stirs : ℕ) (views : Views) (slots id : ℕ) (v : View B O E) (b : B) (c : List (ℕ × Option B)) → Fact hand log faults views → get_elem? views id ≡ some v
      → 0 < v.parts → v.holds ≡ true → ((o : O) → v.opening ≡ Some o → opening b ≡ o) → journal b ≡ v.seen → blamed b ≡ v.known → ((s : B) → v.start ≡ Some s → since s b)
      → Goes id (v, (0, Some b) ∷ c) 0 (λ _. 0) (λ _. released (step slots 0 0 0 none) (v, (0, Some b) ∷ c) 0) (canon hand log faults stirs views)
  releases_any (at_home h) log faults stirs views slots id v b c F at some_part holds same whole knows follows = absurd (F.owns id v at holds)
  releases_any (out i) log faults stirs views slots id v b c F at some_part holds same whole knows follows =
      let o = F.owns id v at holds in
      let K = F.knows id v at in
      let w = freed v in (
        w,
        gives,
        tt,
        record {
          hand = at_home b;
          log = log;
          faults = faults;
          stirs = stirs;
          views = set views id w;
          state = refl;
          facts = record {
            begins = F.begins;
            book = (same (opening start) (K.opening_is some_part), whole ∙ o.1, knows ∙ o.2, follows start (K.start_is some_part));
            held = tt;
            places = λ x. omega (arith, kept_totals (λ (u : View B O E). times x u.mine) views id v w at refl, F.places x);
            parts = kept_totals (λ (u : View B O E). u.parts) views id v w at refl ∙ F.parts;
            knows = each_set (λ _ u. Knows start (opening start) log faults u) views id w
                (record { start_is = K.start_is; opening_is = K.opening_is; seen = K.seen; older = K.older; mine = K.mine; last = K.last; idle = λ none. absurd (omega arith) })
                (λ j u _ e. F.knows j u e);
            owns = each_set (λ j (u : View B O E). u.holds ≡ true → Owns (at_home b) log faults j u) views id w (λ h. absurd (true≢false (sym h))) (λ j u ne e h. absurd (ne ((F.owns j u e h).0 ∙ sym o.0)));
          };
        },
        (refl, K.mine),
      )

  pub releases_turn : (slots id : ℕ) (me : Seated B O E) (b : B) (c : List (ℕ × Option B)) → me.1 ≡ (0, Some b) ∷ c → 0 < me.0.parts → me.0.holds ≡ true → ((o : O) → me.0.opening ≡ Some o → opening b ≡ o) → journal b ≡ me.0.seen → blamed b ≡ me.0.known → ((s : B) → me.0.start ≡ Some s → since s b)
      → Allows Rule slots id me 0 (λ _. 0) (λ _. released (step slots 0 0 0 none) me 0)
  releases_turn slots id me b c is some_part holds same whole knows follows =
      subst (λ (l : List (ℕ × Option B)). Allows Rule slots id (me.0, l) 0 (λ _. 0) (λ _. released (step slots 0 0 0 none) (me.0, l) 0)) (sym is)
      (allows slots id (me.0, (0, Some b) ∷ c) 0 (λ _. 0) (λ _. released (step slots 0 0 0 none) (me.0, (0, Some b) ∷ c) 0)
      (λ hand log faults stirs views F at. releases_any hand log faults stirs views slots id me.0 b c F at some_part holds same whole knows follows))

  blames_any : (hand : Hand B) (log : List E) (faults stirs : ℕ) (views : Views) (slots id f : ℕ) (me : Seated B O E) → Fact hand log faults views → get_elem? views id ≡ some me.0
      → 0 < me.0.parts → me.0.holds ≡ true → me.0.known ≤ f
      → Goes id me 2 (λ _. f) (λ _. blames (step slots 2 f 0 none) me f) (canon hand log faults stirs views)
  blames_any (at_home h) log faults stirs views slots id f me F at some_part holds more = absurd (F.owns id me.0 at holds)
  blames_any (out i) log faults stirs views slots id f me F at some_part holds more =
      let v = me.0 in
      let o = F.owns id v at holds in
      let K = F.knows id v at in
      let w = blaming v f in
      let above : faults ≤ f = subst (λ n. n ≤ f) o.2 more in (
        w,
        keeps,
        tt,
        record {
          hand = out i;
          log = log;
          faults = f;
          stirs = stirs;
          views = set views id w;
          state = refl;
          facts = record {
            begins = F.begins;
            book = tt;
            held = held_set (out i) views id v w at refl F.held;
            places = λ x. omega (arith, kept_totals (λ (u : View B O E). times x u.mine) views id v w at refl, F.places x);
            parts = kept_totals (λ (u : View B O E). u.parts) views id v w at refl ∙ F.parts;
            knows = each_set (λ _ u. Knows start (opening start) log f u) views id w
                (record { start_is = K.start_is; opening_is = K.opening_is; seen = K.seen; older = K.older; mine = K.mine; last = omega arith; idle = λ none. absurd (omega arith) })
                (λ j u _ e. let L = F.knows j u e in record { start_is = L.start_is; opening_is = L.opening_is; seen = L.seen; older = L.older; mine = L.mine; last = omega (arith, L.last); idle = L.idle });
            owns = each_set (λ j (u : View B O E). u.holds ≡ true → Owns {B = B} (out i) log f j u) views id w (λ _. (o.0, o.1, refl)) (λ j u ne e h. absurd (ne ((F.owns j u e h).0 ∙ sym o.0)));
          };
        },
        refl,
      )

  pub blames_holder : (slots id f : ℕ) (me : Seated B O E) → 0 < me.0.parts → me.0.holds ≡ true → me.0.known ≤ f → Allows Rule slots id me 2 (λ _. f) (λ _. blames (step slots 2 f 0 none) me f)
  blames_holder slots id f me some_part holds more = allows slots id me 2 (λ _. f) (λ _. blames (step slots 2 f 0 none) me f) (λ hand log faults stirs views F at. blames_any hand log faults stirs views slots id f me F at some_part holds more)

  first_knows : (j : ℕ) (u : View B O E) → get_elem? (first_view start (opening start) (journal start) (blamed start) ∷ []) j ≡ some u → Knows start (opening start) (journal start) (blamed start) u × (u.holds ≡ true → ⊥)
  first_knows zero u e =
      subst (λ (t : View B O E). Knows start (opening start) (journal start) (blamed start) t × (t.holds ≡ true → ⊥)) (some-injective (first_view start (opening start) (journal start) (blamed start)) u e)
      (record { start_is = λ _. refl; opening_is = λ _. refl; seen = prefix_self (journal start); older = λ k o d. absurd (some-ne-none o (sym d)); mine = λ k p d. absurd (some-ne-none p (sym d)); last = omega arith; idle = λ none. absurd (omega arith) }, (λ h. true≢false (sym h)))
  first_knows (suc j) u e = absurd (some-ne-none u (sym e))

  -- a new table, whose one view is the first pass's
  pub begins_table : (n f : ℕ) (slots : List (Option B)) → n ≡ length (journal start) → f ≡ blamed start → slots ≡ Some start ∷ [] → since start start → Rule (tables.opening (0 ∷ n ∷ f ∷ 0 ∷ []) slots (first_view start (opening start) (journal start) (blamed start)))
  begins_table n f slots en ef es itself =
      let v : View B O E = first_view start (opening start) (journal start) (blamed start) in
      record {
        hand = at_home start;
        log = journal start;
        faults = blamed start;
        stirs = 0;
        views = v ∷ [];
        state = λ i. tables.opening (0 ∷ en i ∷ ef i ∷ 0 ∷ []) (es i) v;
        facts = record {
          begins = prefix_self (journal start);
          book = (refl, refl, refl, itself);
          held = tt;
          places = λ x. omega arith;
          parts = omega arith;
          knows = λ j u e. (first_knows j u e).0;
          owns = λ j u e h. absurd ((first_knows j u e).1 h);
        };
      }

  -- as the functions cite them
  pub releases_given : (slots id : ℕ) (was me : Seated B O E) (b : B) (c : List (ℕ × Option B)) → MayEnd opening journal blamed since start was b → me ≡ (was.0, (0, Some b) ∷ c)
      → Allows Rule slots id me 0 (λ _. 0) (λ _. released (step slots 0 0 0 none) me 0)
  releases_given slots id was me b c may now =
      subst (λ (m : Seated B O E). Allows Rule slots id m 0 (λ _. 0) (λ _. released (step slots 0 0 0 none) m 0)) (sym now)
      (releases_turn slots id (was.0, (0, Some b) ∷ c) b c refl may.some_part may.holds (λ o is. may.opening_is ∙ cc (may.from, is)) may.whole may.faults may.since_is)

  pub blames_taken : (slots id f : ℕ) (v : View B O E) (me : Seated B O E) (book : B) → HasTurn opening journal blamed since start v me book → 0 < v.parts → blamed book ≤ f
      → Allows Rule slots id me 2 (λ _. f) (λ _. blames (step slots 2 f 0 none) me f)
  blames_taken slots id f v me book has some_part more =
      blames_holder slots id f me (subst (λ (w : View B O E). 0 < w.parts) (sym has.view) some_part) (ap (λ (w : View B O E). w.holds) has.view) (subst (λ (w : View B O E). w.known ≤ f) (sym has.view) more)
