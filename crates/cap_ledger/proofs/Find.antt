-- The entry of a broker in a list of entries.
use Rattle.std.proofs.Common.{◌≡◌, ℕ, ◌<◌, Bool, true, false, cond, List, [], ◌∷◌, map, length, get_or, arith, refl, sym, ap, ◌∙◌, zero, suc}
use Rattle.std.specs.Prelude.{◌==◌, ◌||◌, is_some, Some}
use Rattle.std.specs.Option.{option_map, option_map_or}
use Rattle.std.proofs.lemmas.Bool.{eq-eqb, ne_eqb, eqb-true, false≢true, true≢false, and_parts, not-true, or_left, or_right}
use Rattle.plan_terms.specs.Belongs.{distinct}
use Rattle.plan_terms.specs.Cluster.{has}
use Rattle.cap_ledger.specs.declared.entry.Entry.{Entry}
use Rattle.cap_ledger.specs.Entries.{empty_entry}
use Rattle.cap_ledger.specs.Ledger.{entry_of}

-- the brokers of the entries
abbrev pub brokers_of : List Entry → List ℕ
brokers_of entries = map (λ e. e.broker) entries

-- a change of all entries that keeps their brokers
pub find-mapped : (f : Entry → Entry) → ((e : Entry) → (f e).broker ≡ e.broker) → (b : ℕ) (es : List Entry) → entry_of (map f es) b ≡ option_map f (entry_of es b)
find-mapped f h b [] = refl
find-mapped f h b (e ∷ es) = by ((f e).broker == b) (e.broker == b) (ap (λ n. n == b) (h e)) (find-mapped f h b es) where
  by : (c d : Bool) → c ≡ d → entry_of (map f es) b ≡ option_map f (entry_of es b) → cond c (Some (f e)) (entry_of (map f es) b) ≡ option_map f (cond d (Some e) (entry_of es b))
  by true true same more = refl
  by true false same more = absurd (true≢false same)
  by false true same more = absurd (false≢true same)
  by false false same more = more

-- the entry that is found is the broker's
pub found : (b : ℕ) (es : List Entry) (e : Entry) → entry_of es b ≡ Some e → e.broker ≡ b
found b [] e h = cc
found b (x ∷ es) e h = by (x.broker == b) refl h (found b es e) where
  by : (c : Bool) → (x.broker == b) ≡ c → cond c (Some x) (entry_of es b) ≡ Some e → (entry_of es b ≡ Some e → e.broker ≡ b) → e.broker ≡ b
  by true q h' more = let same : x ≡ e = cc in rw (← same) (eqb-true x.broker b q)
  by false q h' more = more h'

-- a broker is known where it is among the brokers of the entries
pub is_some-entry_of : (b : ℕ) (es : List Entry) → is_some (entry_of es b) ≡ has (brokers_of es) b
is_some-entry_of b [] = refl
is_some-entry_of b (e ∷ es) = by (e.broker == b) (is_some-entry_of b es) where
  by : (c : Bool) → is_some (entry_of es b) ≡ has (brokers_of es) b → is_some (cond c (Some e) (entry_of es b)) ≡ (c || has (brokers_of es) b)
  by true more = refl
  by false more = more

pub has-member : (es : List Entry) (k : ℕ) (d : Entry) → k < length es → has (brokers_of es) (get_or es k d).broker ≡ true
has-member [] k d l = absurd (omega arith)
has-member (e ∷ es) zero d l = or_left (e.broker == e.broker) (has (brokers_of es) e.broker) (eq-eqb e.broker e.broker refl)
has-member (e ∷ es) (suc k) d l = or_right (e.broker == (get_or es k d).broker) (has (brokers_of es) (get_or es k d).broker) (has-member es k d (omega arith))

-- where no broker stands twice, each entry is the one of its broker
pub entry_at : (es : List Entry) (k : ℕ) (d : Entry) → distinct (brokers_of es) ≡ true → k < length es → entry_of es (get_or es k d).broker ≡ Some (get_or es k d)
entry_at [] k d once l = absurd (omega arith)
entry_at (e ∷ es) zero d once l = rw (eq-eqb e.broker e.broker refl) refl
entry_at (e ∷ es) (suc k) d once l =
    let parts = and_parts _ (distinct (brokers_of es)) once in
    let out : has (brokers_of es) e.broker ≡ false = not-true (has (brokers_of es) e.broker) parts.0 in
    let member : has (brokers_of es) (get_or es k d).broker ≡ true = has-member es k d (omega arith) in
    let other : (e.broker == (get_or es k d).broker) ≡ false = ne_eqb e.broker (get_or es k d).broker (λ same. true≢false (sym member ∙ ap (has (brokers_of es)) (sym same) ∙ out)) in
    rw other (entry_at es k d parts.1 (omega arith))

-- the number of an entry that is found, in entries of which nothing is counted
pub empty_number : (f : Entry → ℕ) → ((b : ℕ) → f (empty_entry b) ≡ 0) → (b : ℕ) (brokers : List ℕ) → option_map_or f (entry_of (map empty_entry brokers) b) 0 ≡ 0
empty_number f h b [] = refl
empty_number f h b (x ∷ xs) = by (x == b) (empty_number f h b xs) where
  by : (c : Bool) → option_map_or f (entry_of (map empty_entry xs) b) 0 ≡ 0 → option_map_or f (cond c (Some (empty_entry x)) (entry_of (map empty_entry xs) b)) 0 ≡ 0
  by true more = h x
  by false more = more

pub empty_known : (b : ℕ) (brokers : List ℕ) → is_some (entry_of (map empty_entry brokers) b) ≡ has brokers b
empty_known b [] = refl
empty_known b (x ∷ xs) = by (x == b) (empty_known b xs) where
  by : (c : Bool) → is_some (entry_of (map empty_entry xs) b) ≡ has xs b → is_some (cond c (Some (empty_entry x)) (entry_of (map empty_entry xs) b)) ≡ (c || has xs b)
  by true more = refl
  by false more = more

pub brokers_of-empty : (brokers : List ℕ) → brokers_of (map empty_entry brokers) ≡ brokers
brokers_of-empty [] = refl
brokers_of-empty (x ∷ xs) = ap (λ (ys : List ℕ). x ∷ ys) (brokers_of-empty xs)

pub brokers_of-mapped : (f : Entry → Entry) → ((e : Entry) → (f e).broker ≡ e.broker) → (es : List Entry) → brokers_of (map f es) ≡ brokers_of es
brokers_of-mapped f h [] = refl
brokers_of-mapped f h (e ∷ es) = ap (λ (n : ℕ). n ∷ brokers_of (map f es)) (h e) ∙ ap (λ (ys : List ℕ). e.broker ∷ ys) (brokers_of-mapped f h es)
