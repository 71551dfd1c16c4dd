-- Passes are cut and joined, and the table is closed.
use Rattle.std.proofs.Common.{◌≡◌, ◌≢◌, ◌⊎◌, ℕ, zero, suc, ◌+◌, ◌≤◌, ◌<◌, nat_le, List, [], ◌∷◌, ◌++◌, length, set, Bool, true, false, true≢false, Option, Some, refl, ap, sym, ◌∙◌, inl, inr, ⊎_elim, subst, arith}
use Rattle.std.specs.Prelude.{if◌then◌else◌}
use mathlib.Core.List.{IsPrefix}
use mathlib.Core.Option.{some, some-injective, some-ne-none, none}
use native.Mathlib.Decide.{ℕ_discrete}
use lib.ListN.{get_elem?}
use Rattle.std.proofs.lemmas.Bool.Decides.{nat_tests}
use Rattle.atomic_table.specs.Seated.{TableId}
use Rattle.atomic_table.specs.Table.{State, keeps, Allows, Splits, Joins, Final, Seen, step}
use Rattle.atomic_table.proofs.Lists.{at_snoc, at_longer, set_else}
use Rattle.turn_book.specs.declared.rule.View.{View}
use Rattle.turn_book.specs.Rule.{homes_of, spent_view, Hand, at_home, out, canon, Knows, Owns, IsHeld, times, once_below}
use Rattle.turn_book.specs.Plays.{Seated, one_less, told, longer, joined, settled, Compared, compared, unchanged}
use Rattle.turn_book.specs.Known.{known_of, IsWhole}
use Rattle.turn_book.proofs.Lists.{prefix_self, prefix_shorter, prefix_get, each_set, total_set, total_snoc, total_two, total_only, times-append}
use Rattle.turn_book.proofs.Turns.{S, Rule, Fact, Goes, allows, kept_totals, held_set, stays}

module _ {B O E : Type 0} (opening : B → O) (journal : B → List E) (blamed : B → ℕ) (since : B → B → Type 0) (start : B) where
  abbrev R : S opening journal blamed since start → Type 0
  R = Rule opening journal blamed since start

  abbrev F : Hand B → List E → ℕ → List (View B O E) → Type 0
  F = Fact opening journal blamed since start

  each_snoc : (P : ℕ → View B O E → Type 0) (l : List (View B O E)) (a : View B O E) → ((j : ℕ) (b : View B O E) → get_elem? l j ≡ some b → P j b) → ((j : ℕ) → P j a) → (j : ℕ) (b : View B O E) → get_elem? (l ++ a ∷ []) j ≡ some b → P j b
  each_snoc P l a old new j b e = ⊎_elim (λ was. old j b was) (λ same. subst (P j) same (new j)) (at_snoc l a b j e)

  held_longer : (hand : Hand B) (views : List (View B O E)) (w : View B O E) → IsHeld views hand → IsHeld (views ++ w ∷ []) hand
  held_longer (at_home b) views w h = tt
  held_longer (out j) views w h = (h.0, at_longer views (w ∷ []) j h.0 h.1, h.2)

  splits_facts : (hand : Hand B) (log : List E) (faults : ℕ) (views : List (View B O E)) (id : ℕ) (v : View B O E) → F hand log faults views → get_elem? views id ≡ some v → 1 < v.parts → v.holds ≡ false → F hand log faults (set views id (one_less v) ++ told v ∷ [])
  splits_facts hand log faults views id v f at some_parts free =
      let K = f.knows id v at in
      let w = one_less v in
      let u = told v in
      let views' = set views id w in
      record {
        begins = f.begins;
        book = f.book;
        held = held_longer hand views' u (held_set opening journal blamed since start hand views id v w at refl f.held);
        places = λ x. omega (arith, total_snoc (λ (t : View B O E). times x t.mine) views' u, total_set (λ (t : View B O E). times x t.mine) views id v w at, f.places x);
        parts = omega (arith, total_snoc (λ (t : View B O E). t.parts) views' u, total_set (λ (t : View B O E). t.parts) views id v w at, f.parts);
        knows = each_snoc (λ _ t. Knows start (opening start) log faults t) views' u
            (each_set (λ _ t. Knows start (opening start) log faults t) views id w
            (record { start_is = λ _. K.start_is (omega arith); opening_is = λ _. K.opening_is (omega arith); seen = K.seen; older = K.older; mine = K.mine; last = K.last; idle = λ none. absurd (omega arith) })
            (λ j t _ e. f.knows j t e))
            (λ j. record { start_is = λ _. K.start_is (omega arith); opening_is = λ _. K.opening_is (omega arith); seen = K.seen; older = λ k o d. absurd (some-ne-none o (sym d)); mine = λ k p d. absurd (some-ne-none p (sym d)); last = K.last; idle = λ none. absurd (omega arith) });
        owns = each_snoc (λ j (t : View B O E). t.holds ≡ true → Owns hand log faults j t) views' u
            (each_set (λ j (t : View B O E). t.holds ≡ true → Owns hand log faults j t) views id w (λ h. absurd (true≢false (sym h ∙ free))) (λ j t ne e h. f.owns j t e h))
            (λ j h. absurd (true≢false (sym h)));
      }

  pub splits : (id : ℕ) (v : View B O E) → 1 < v.parts → v.holds ≡ false → Splits R id v (one_less v) (told v)
  splits id v some_parts free s k at =
      record {
        hand = k.hand;
        log = k.log;
        faults = k.faults;
        stirs = k.stirs;
        views = set k.views id (one_less v) ++ told v ∷ [];
        state = λ i. record { words = (k.state i).words; homes = (k.state i).homes; views = set (k.state i).views id (one_less v) ++ told v ∷ [] };
        facts = splits_facts k.hand k.log k.faults k.views id v k.facts (sym (ap (λ (t : State (Option B) (View B O E)). get_elem? t.views id) k.state) ∙ at) some_parts free;
      }

  longer_by : (xs ys : List E) (P : List E → Type 0) → (length xs ≤ length ys → P ys) → (length ys ≤ length xs → P xs) → (b : Bool) → nat_le (length xs) (length ys) ≡ b → P (if b then ys else xs)
  longer_by xs ys P right left true e = right (grind (arith, nat_tests))
  longer_by xs ys P right left false e = left (grind (arith, nat_tests))

  -- what the longer list of the two has
  longer_cases : (xs ys : List E) (P : List E → Type 0) → (length xs ≤ length ys → P ys) → (length ys ≤ length xs → P xs) → P (longer xs ys)
  longer_cases xs ys P right left = longer_by xs ys P right left (nat_le (length xs) (length ys)) refl

  -- both begin the longer
  longer_left : (xs ys log : List E) → IsPrefix xs log → IsPrefix ys log → IsPrefix xs (longer xs ys)
  longer_left xs ys log p q = longer_cases xs ys (λ l. IsPrefix xs l) (λ le. prefix_shorter xs ys log p q le) (λ le. prefix_self xs)

  longer_right : (xs ys log : List E) → IsPrefix xs log → IsPrefix ys log → IsPrefix ys (longer xs ys)
  longer_right xs ys log p q = longer_cases xs ys (λ l. IsPrefix ys l) (λ le. prefix_self ys) (λ le. prefix_shorter ys xs log q p le)

  longer_in : (xs ys log : List E) → IsPrefix xs log → IsPrefix ys log → IsPrefix (longer xs ys) log
  longer_in xs ys log p q = longer_cases xs ys (λ l. IsPrefix l log) (λ le. q) (λ le. p)

  at_append : {A : Type 0} (xs ys : List A) (k : ℕ) (a : A) → get_elem? (xs ++ ys) k ≡ some a → (get_elem? xs k ≡ some a) ⊎ ((j : ℕ) × (get_elem? ys j ≡ some a))
  at_append [] ys k a e = inr (k, e)
  at_append (x ∷ xs) ys zero a e = inl e
  at_append (x ∷ xs) ys (suc k) a e = at_append xs ys k a e

  knows_joined : (log : List E) (faults : ℕ) (v w : View B O E) → Knows start (opening start) log faults v → Knows start (opening start) log faults w → 0 < v.parts → Knows start (opening start) log faults (joined v w)
  knows_joined log faults v w K L some_part =
      let long = longer v.seen w.seen in
      record {
        start_is = λ _. K.start_is some_part;
        opening_is = λ _. K.opening_is some_part;
        seen = longer_in v.seen w.seen log K.seen L.seen;
        older = λ k o d. two_older k o d;
        mine = λ k p d. ⊎_elim
            (λ was. prefix_get v.seen long p.0 p.1 (longer_left v.seen w.seen log K.seen L.seen) (K.mine k p was))
            (λ was. prefix_get w.seen long p.0 p.1 (longer_right v.seen w.seen log K.seen L.seen) (L.mine was.0 p was.1))
            (at_append v.mine w.mine k p d);
        last = omega (arith, K.last, L.last);
        idle = λ none. absurd (omega arith);
      }
    where
      two_older : (k : ℕ) (o : List E) → get_elem? (v.seen ∷ w.seen ∷ []) k ≡ some o → IsPrefix o log
      two_older zero o d = subst (λ l. IsPrefix l log) (some-injective v.seen o d) K.seen
      two_older (suc zero) o d = subst (λ l. IsPrefix l log) (some-injective w.seen o d) L.seen
      two_older (suc (suc k)) o d = absurd (some-ne-none o (sym d))

  knows_spent : (log : List E) (faults : ℕ) → Knows start (opening start) log faults (spent_view {B = B} {O = O} {E = E})
  knows_spent log faults = record { start_is = λ h. absurd (omega arith); opening_is = λ h. absurd (omega arith); seen = (log, refl); older = λ k o d. absurd (some-ne-none o (sym d)); mine = λ k p d. absurd (some-ne-none p (sym d)); last = omega arith; idle = λ _. (refl, refl) }

  joins_facts : (hand : Hand B) (log : List E) (faults : ℕ) (views : List (View B O E)) (id other : ℕ) (v w : View B O E) → F hand log faults views → get_elem? views id ≡ some v → get_elem? views other ≡ some w → other ≢ id → 0 < v.parts → v.holds ≡ false → w.holds ≡ false
      → F hand log faults (set (set views id (joined v w)) other spent_view)
  joins_facts hand log faults views id other v w f at there apart some_part free free' =
      let K = f.knows id v at in
      let L = f.knows other w there in
      let u = joined v w in
      let z : View B O E = spent_view in
      let views' = set views id u in
      let there' : get_elem? views' other ≡ some w = set_else views id other u apart ∙ there in
      record {
        begins = f.begins;
        book = f.book;
        held = held_set opening journal blamed since start hand views' other w z there' (sym free') (held_set opening journal blamed since start hand views id v u at refl f.held);
        places = λ x. omega (arith, times-append x v.mine w.mine, total_set (λ (t : View B O E). times x t.mine) views' other w z there', total_set (λ (t : View B O E). times x t.mine) views id v u at, f.places x);
        parts = omega (arith, total_set (λ (t : View B O E). t.parts) views' other w z there', total_set (λ (t : View B O E). t.parts) views id v u at, f.parts);
        knows = each_set (λ _ t. Knows start (opening start) log faults t) views' other z (knows_spent log faults)
            (λ j t _ e. each_set (λ _ t. Knows start (opening start) log faults t) views id u (knows_joined log faults v w K L some_part) (λ j t _ e. f.knows j t e) j t e);
        owns = each_set (λ j (t : View B O E). t.holds ≡ true → Owns hand log faults j t) views' other z (λ h. absurd (true≢false (sym h)))
            (λ j t _ e. each_set (λ j (t : View B O E). t.holds ≡ true → Owns hand log faults j t) views id u (λ h. absurd (true≢false (sym h ∙ free))) (λ j t _ e h. f.owns j t e h) j t e);
      }

  pub joins : (id other : ℕ) (v w : View B O E) → 0 < v.parts → v.holds ≡ false → w.holds ≡ false → Joins R id v other w (joined v w) spent_view
  joins id other v w some_part free free' s k at apart there =
      let u = joined v w in
      let at' = sym (ap (λ (t : State (Option B) (View B O E)). get_elem? t.views id) k.state) ∙ at in
      let was : get_elem? s.views other ≡ some w = sym (set_else s.views id other u apart) ∙ there in
      let there' = sym (ap (λ (t : State (Option B) (View B O E)). get_elem? t.views other) k.state) ∙ was in
      record {
        hand = k.hand;
        log = k.log;
        faults = k.faults;
        stirs = k.stirs;
        views = set (set k.views id u) other spent_view;
        state = λ i. record { words = (k.state i).words; homes = (k.state i).homes; views = set (set (k.state i).views id u) other spent_view };
        facts = joins_facts k.hand k.log k.faults k.views id other v w k.facts at' there' apart some_part free free';
      }

  compares_canon : (hand : Hand B) (log : List E) (faults stirs : ℕ) (views : List (View B O E)) (slots id : ℕ) (me : Seated B O E) → F hand log faults views → get_elem? views id ≡ some me.0
      → Goes opening journal blamed since start id me 1 (λ n. n) (compared (step slots 1 0 0 none) me) (canon hand log faults stirs views)
  compares_canon hand log faults stirs views slots id me f at =
      let v = me.0 in
      let K = f.knows id v at in
      let w = settled v in (
        w,
        keeps,
        tt,
        record {
          hand = hand;
          log = log;
          faults = faults;
          stirs = stirs;
          views = set views id w;
          state = refl;
          facts = record {
            begins = f.begins;
            book = f.book;
            held = held_set opening journal blamed since start hand views id v w at refl f.held;
            places = λ x. omega (arith, kept_totals opening journal blamed since start (λ (u : View B O E). times x u.mine) views id v w at refl, f.places x);
            parts = kept_totals opening journal blamed since start (λ (u : View B O E). u.parts) views id v w at refl ∙ f.parts;
            knows = each_set (λ _ u. Knows start (opening start) log faults u) views id w
                (record { start_is = K.start_is; opening_is = K.opening_is; seen = K.seen; older = λ k o d. absurd (some-ne-none o (sym d)); mine = K.mine; last = K.last; idle = K.idle })
                (λ j u _ e. f.knows j u e);
            owns = each_set (λ j (u : View B O E). u.holds ≡ true → Owns hand log faults j u) views id w (λ h. owns_settled hand log faults id v (f.owns id v at h)) (λ j u _ e h. f.owns j u e h);
          };
        },
        record { log = log; view = refl; length_is = refl; seen = K.seen; older = K.older; placed = K.mine },
      )
    where
      owns_settled : (hand : Hand B) (log : List E) (faults j : ℕ) (v : View B O E) → Owns hand log faults j v → Owns hand log faults j (settled v)
      owns_settled (at_home b) log faults j v o = o
      owns_settled (out i) log faults j v o = o

  pub compares : (slots id : ℕ) (me : Seated B O E) → Allows R slots id me 1 (λ n. n) (compared (step slots 1 0 0 none) me)
  compares slots id me = allows opening journal blamed since start slots id me 1 (λ n. n) (compared (step slots 1 0 0 none) me) (λ hand log faults stirs views f at. compares_canon hand log faults stirs views slots id me f at)

  stirs_canon : (f : ℕ → ℕ) (hand : Hand B) (log : List E) (faults stirs : ℕ) (views : List (View B O E)) (slots id k : ℕ) (me : Seated B O E) → F hand log faults views → get_elem? views id ≡ some me.0
      → Goes opening journal blamed since start id me 3 f (unchanged (step slots 3 k 0 none) me) (canon hand log faults stirs views)
  stirs_canon f hand log faults stirs views slots id k me facts at = (me.0, keeps, tt, stays opening journal blamed since start hand log faults (f stirs) views id me.0 facts at, refl)

  pub stirs_any : (f : ℕ → ℕ) (slots id k : ℕ) (me : Seated B O E) → Allows R slots id me 3 f (unchanged (step slots 3 k 0 none) me)
  stirs_any f slots id k me = allows opening journal blamed since start slots id me 3 f (unchanged (step slots 3 k 0 none) me) (λ hand log faults stirs views facts at. stirs_canon f hand log faults stirs views slots id k me facts at)

  -- the others have no part, so no entry and not the turn
  idle_rest : (hand : Hand B) (log : List E) (faults : ℕ) (views : List (View B O E)) (id : ℕ) (v : View B O E) → F hand log faults views → get_elem? views id ≡ some v → v.parts ≡ 1048576 → (j : ℕ) (u : View B O E) → j ≢ id → get_elem? views j ≡ some u → (u.mine ≡ []) × (u.holds ≡ false)
  idle_rest hand log faults views id v f at all j u ne e =
      let two = total_two (λ (t : View B O E). t.parts) views id j v u (λ h. ne (sym h)) at e in
      (f.knows j u e).idle (omega (arith, f.parts))

  closes_hand : (table : TableId) (hand : Hand B) (log : List E) (faults : ℕ) (views : List (View B O E)) (id : ℕ) (v : View B O E) → F hand log faults views → get_elem? views id ≡ some v → v.parts ≡ 1048576 → v.holds ≡ false
      → (b : B) × (hand ≡ at_home b) × IsWhole opening journal blamed since start (known_of table v 0) b
  closes_hand table (at_home b) log faults views id v f at all free =
      let K = f.knows id v at in
      let whole = f.book.1 in (
        b,
        refl,
        record {
          opening_is = f.book.0;
          begins = subst (λ l. IsPrefix (journal start) l) (sym whole) f.begins;
          seen = subst (λ l. IsPrefix v.seen l) (sym whole) K.seen;
          each_once = λ x. subst (λ (l : List E). times x v.mine + once_below x (length (journal start)) ≡ once_below x (length l)) (sym whole)
              (omega (arith, f.places x, total_only (λ (t : View B O E). times x t.mine) views id v at (λ j u ne e. ap (times x) (idle_rest (at_home b) log faults views id v f at all j u ne e).0)));
          placed = λ k p e. prefix_get v.seen (journal b) p.0 p.1 (subst (λ l. IsPrefix v.seen l) (sym whole) K.seen) (K.mine k p e);
          last = subst (λ n. v.last ≤ n) (sym f.book.2) K.last;
          since_is = f.book.3;
        },
      )
  closes_hand table (out j) log faults views id v f at all free = absurd (no_holder (ℕ_discrete j id))
    where
      no_holder : Dec (j ≡ id) → ⊥
      no_holder (yes e) = let same : f.held.0 ≡ v = some-injective f.held.0 v (sym f.held.1 ∙ (ap (get_elem? views) e ∙ at)) in true≢false (sym f.held.2 ∙ (ap (λ (t : View B O E). t.holds) same ∙ free))
      no_holder (no ne) = true≢false (sym f.held.2 ∙ (idle_rest (out j) log faults views id v f at all j f.held.0 ne f.held.1).1)

  pub closes : (table : TableId) (ws : List ℕ) (xs : List (Option B)) (id : ℕ) (v : View B O E) → Final (Seen R id v) ws xs → v.parts ≡ 1048576 → v.holds ≡ false → (b : B) × (get_elem? xs 0 ≡ some (Some b)) × IsWhole opening journal blamed since start (known_of table v 0) b
  closes table ws xs id v final all free =
      let k = final.1.0 in
      let at = sym (ap (λ (t : State (Option B) (View B O E)). get_elem? t.views id) k.state) ∙ final.1.1 in
      let c = closes_hand table k.hand k.log k.faults k.views id v k.facts at all free in
      (c.0, final.4 0 (Some c.0) (ap (λ (t : State (Option B) (View B O E)). get_elem? t.homes 0) k.state ∙ ap (λ (h : Hand B). get_elem? (homes_of h) 0) c.1), c.2)

  -- both passes' histories begin what is seen after a join
  pub told_longer : (v w : View B O E) (me r : Seated B O E) (n : ℕ) → me.0 ≡ joined v w → Compared me n r → IsPrefix v.seen r.0.seen × IsPrefix w.seen r.0.seen
  told_longer v w me r n is c =
      let log = c.log in
      let p = c.older 0 v.seen (ap (λ (u : View B O E). get_elem? u.older 0) is) in
      let q = c.older 1 w.seen (ap (λ (u : View B O E). get_elem? u.older 1) is) in
      let same : longer v.seen w.seen ≡ r.0.seen = sym (ap (λ (t : Seated B O E). t.0.seen) c.view ∙ ap (λ (u : View B O E). u.seen) is) in
      (subst (λ l. IsPrefix v.seen l) same (longer_left v.seen w.seen log p q), subst (λ l. IsPrefix w.seen l) same (longer_right v.seen w.seen log p q))

  pub closes_as : (table : TableId) (ws : List ℕ) (xs : List (Option B)) (id : ℕ) (v : View B O E) (slot : Option B) (book : B) → Final (Seen R id v) ws xs → v.parts ≡ 1048576 → v.holds ≡ false → get_elem? xs 0 ≡ some slot → slot ≡ Some book → IsWhole opening journal blamed since start (known_of table v 0) book
  closes_as table ws xs id v slot book final all free at is =
      let c = closes table ws xs id v final all free in
      let same : Some c.0 ≡ slot = some-injective (Some c.0) slot (sym c.1 ∙ at) in
      let book_is : c.0 ≡ book = cc (same, is) in
      subst (λ (b : B). IsWhole opening journal blamed since start (known_of table v 0) b) book_is c.2
