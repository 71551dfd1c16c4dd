-- A task that enters or leaves, by the entries of all brokers.
use Rattle.std.proofs.Common.{◌≡◌, ℕ, ◌+◌, ◌-◌, ◌<◌, ◌≤◌, ◌^◌, Bool, true, false, not, cond, List, map, take, drop, ◌++◌, length, get_or, arith, refl, sym, ap, ◌∙◌, inl, inr}
use Rattle.std.specs.Prelude.{is_some, Option, Some, None}
use Rattle.std.specs.List.{All, list_all}
use Rattle.std.specs.Option.{option_map, option_map_or}
use Rattle.std.proofs.lemmas.Bool.{cases_Bool, not-true, true≢false}
use Rattle.exec_terms.proofs.Mapped.{map_old}
use Rattle.plan_terms.specs.Belongs.{distinct}
use Rattle.plan_terms.specs.Cluster.{has}
use Rattle.plan_terms.proofs.MemberLemmas.{list_all-member}
use Rattle.cap_ledger.specs.declared.entry.Entry.{Entry}
use Rattle.cap_ledger.specs.Entries.{entered, left, HasEntryRoom, IsEntryCounted}
use Rattle.plan_terms.specs.Change.{gains, differ}
use Rattle.cap_ledger.specs.Ledger.{Ledger, entry_of, knows, adding_of, removing_of, one_if, IsKnownList, HasRoom, IsCounted, Enters, IsEmpty}
use Rattle.cap_ledger.proofs.Find.{brokers_of, find-mapped, found, entry_at, empty_number, empty_known}
use Rattle.cap_ledger.specs.Entries.{empty_entry}

-- the numbers of the entry at a place are those of its broker
adding_at : (l : Ledger) (k : ℕ) (d : Entry) → distinct (brokers_of l.entries) ≡ true → k < length l.entries → adding_of l (get_or l.entries k d).broker ≡ (get_or l.entries k d).adding
unfolding adding_of
adding_at l k d once m = rw (entry_at l.entries k d once m) refl

removing_at : (l : Ledger) (k : ℕ) (d : Entry) → distinct (brokers_of l.entries) ≡ true → k < length l.entries → removing_of l (get_or l.entries k d).broker ≡ (get_or l.entries k d).removing
unfolding removing_of
removing_at l k d once m = rw (entry_at l.entries k d once m) refl

room_of : (c : Bool) (n m : ℕ) → m ≡ n → n < 2 ^ 32 → (c ≡ true → m + 1 < 2 ^ 32) → n + cond c 1 0 < 2 ^ 32
room_of true n m e f h = omega (arith, h refl, e)
room_of false n m e f h = omega (arith, f)

counted_of : (c : Bool) (n m : ℕ) → m ≡ n → (c ≡ true → 1 ≤ m) → cond c 1 0 ≤ n
counted_of true n m e h = omega (arith, h refl, e)
counted_of false n m e h = omega arith

-- the entries have room
pub all_have_room : (before after : List ℕ) (l : Ledger) → distinct (brokers_of l.entries) ≡ true → HasRoom before after l → All (HasEntryRoom before after) l.entries
all_have_room before after l once room = λ k d m.
    let e : Entry = get_or l.entries k d in
    record {
      adding = λ g. omega (arith, room.adding e.broker g, adding_at l k d once m);
      removing = λ g. omega (arith, room.removing e.broker g, removing_at l k d once m);
    }

pub all_counted : (before after : List ℕ) (l : Ledger) → distinct (brokers_of l.entries) ≡ true → IsCounted before after l → All (IsEntryCounted before after) l.entries
all_counted before after l once counted = λ k d m.
    let e : Entry = get_or l.entries k d in
    record {
      adding = λ g. omega (arith, counted.adding e.broker g, adding_at l k d once m);
      removing = λ g. omega (arith, counted.removing e.broker g, removing_at l k d once m);
    }

-- the same, of the entry that a loop has come to
pub HasEntryRoom-at : (before after : List ℕ) (xs cur : List Entry) (i : ℕ) (d : Entry) → i < length xs → cur ≡ map (entered before after) (take i xs) ++ drop i xs
    → All (HasEntryRoom before after) xs → HasEntryRoom before after (get_or cur i d)
HasEntryRoom-at before after xs cur i d l e all = rw (map_old (entered before after) xs cur i d l e) (all i d l)

pub IsEntryCounted-at : (before after : List ℕ) (xs cur : List Entry) (i : ℕ) (d : Entry) → i < length xs → cur ≡ map (left before after) (take i xs) ++ drop i xs
    → All (IsEntryCounted before after) xs → IsEntryCounted before after (get_or cur i d)
IsEntryCounted-at before after xs cur i d l e all = rw (map_old (left before after) xs cur i d l e) (all i d l)

-- a broker that is unknown is gained by no list of known ones
not_gained : (l : Ledger) (before after : List ℕ) (b : ℕ) → knows l b ≡ false → list_all (knows l) after ≡ true → gains before after b ≡ false
not_gained l before after b unknown all = elim (cases_Bool (has after b)) as (λ _. gains before after b ≡ false) [
  | inl m ↦ absurd (true≢false (sym (list_all-member (knows l) b after all m) ∙ unknown))
  | inr m ↦ rw m refl
]

taken_back : (c : Bool) (n : ℕ) → (c ≡ true → 1 ≤ n) → n ≡ (n - cond c 1 0) + cond c 1 0
taken_back true n h = omega (arith, h refl)
taken_back false n h = omega arith

-- the entry of broker b, where all entries change
module _ (l l' : Ledger) (f : Entry → Entry) (keeps : (e : Entry) → (f e).broker ≡ e.broker) (is : l'.entries ≡ map f l.entries) (b : ℕ) where
  entry_changed : entry_of l'.entries b ≡ option_map f (entry_of l.entries b)
  entry_changed = rw is (find-mapped f keeps b l.entries)

  known_changed : knows l' b ≡ knows l b
  unfolding knows
  known_changed = rw entry_changed (by (entry_of l.entries b)) where
    by : (o : Option Entry) → is_some (option_map f o) ≡ is_some o
    by None = refl
    by (Some e) = refl

module _ (before after : List ℕ) (l l' : Ledger) (known : IsKnownList l before) (known' : IsKnownList l after) where
  pub entered_all : l'.entries ≡ map (entered before after) l.entries → l'.replica ≡ l.replica + one_if (differ before after) → l'.leader ≡ l.leader + one_if (not (differ before after))
      → Enters before after l l'
  unfolding adding_of removing_of knows
  entered_all is r m = record {
    known = λ b. known_changed l l' (entered before after) (λ e. refl) is b;
    adding = λ b. rw (entry_changed l l' (entered before after) (λ e. refl) is b) (adding_by b (entry_of l.entries b) refl);
    removing = λ b. rw (entry_changed l l' (entered before after) (λ e. refl) is b) (removing_by b (entry_of l.entries b) refl);
    replica = r;
    leader = m;
  } where
    adding_by : (b : ℕ) (o : Option Entry) → entry_of l.entries b ≡ o
        → option_map_or (λ e. e.adding) (option_map (entered before after) o) 0 ≡ option_map_or (λ e. e.adding) o 0 + one_if (gains before after b)
    adding_by b None h = rw (not_gained l before after b (ap is_some h) known'.known) refl
    adding_by b (Some e) h = rw (found b l.entries e h) refl

    removing_by : (b : ℕ) (o : Option Entry) → entry_of l.entries b ≡ o
        → option_map_or (λ e. e.removing) (option_map (entered before after) o) 0 ≡ option_map_or (λ e. e.removing) o 0 + one_if (gains after before b)
    removing_by b None h = rw (not_gained l after before b (ap is_some h) known.known) refl
    removing_by b (Some e) h = rw (found b l.entries e h) refl

  pub left_all : IsCounted before after l → l'.entries ≡ map (left before after) l.entries → l'.replica ≡ l.replica - one_if (differ before after) → l'.leader ≡ l.leader - one_if (not (differ before after))
      → Enters before after l' l
  unfolding adding_of removing_of knows
  left_all counted is r m = record {
    known = λ b. sym (known_changed l l' (left before after) (λ e. refl) is b);
    adding = λ b. rw (entry_changed l l' (left before after) (λ e. refl) is b) (adding_by b (entry_of l.entries b) refl);
    removing = λ b. rw (entry_changed l l' (left before after) (λ e. refl) is b) (removing_by b (entry_of l.entries b) refl);
    replica = rw r (taken_back (differ before after) l.replica counted.replica);
    leader = rw m (taken_back (not (differ before after)) l.leader (λ h. counted.leader (not-true (differ before after) h)));
  } where
    adding_by : (b : ℕ) (o : Option Entry) → entry_of l.entries b ≡ o
        → option_map_or (λ e. e.adding) o 0 ≡ option_map_or (λ e. e.adding) (option_map (left before after) o) 0 + one_if (gains before after b)
    adding_by b None h = rw (not_gained l before after b (ap is_some h) known'.known) refl
    adding_by b (Some e) h = rw (found b l.entries e h) (taken_back (gains before after b) e.adding (λ g. rw h at (counted.adding b g)))

    removing_by : (b : ℕ) (o : Option Entry) → entry_of l.entries b ≡ o
        → option_map_or (λ e. e.removing) o 0 ≡ option_map_or (λ e. e.removing) (option_map (left before after) o) 0 + one_if (gains after before b)
    removing_by b None h = rw (not_gained l after before b (ap is_some h) known.known) refl
    removing_by b (Some e) h = rw (found b l.entries e h) (taken_back (gains after before b) e.removing (λ g. rw h at (counted.removing b g)))

-- nothing is counted of new entries
pub IsEmpty-new : (brokers : List ℕ) (entries : List Entry) → entries ≡ map empty_entry brokers → IsEmpty brokers (record { entries = entries; replica = 0; leader = 0 })
unfolding adding_of removing_of knows
IsEmpty-new brokers entries e = rw e (record {
  known = λ b. empty_known b brokers;
  adding = λ b. empty_number (λ x. x.adding) (λ x. refl) b brokers;
  removing = λ b. empty_number (λ x. x.removing) (λ x. refl) b brokers;
  replica = refl;
  leader = refl;
})

pub room_for : (c : Bool) (n : ℕ) → n < 2 ^ 32 → (c ≡ true → n + 1 < 2 ^ 32) → n + cond c 1 0 < 2 ^ 32
room_for true n f h = h refl
room_for false n f h = omega (arith, f)

pub some_left : (c : Bool) (n : ℕ) → (c ≡ true → 1 ≤ n) → cond c 1 0 ≤ n
some_left true n h = h refl
some_left false n h = omega arith
