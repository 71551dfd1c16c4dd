-- Groups of tasks: what a full cap says of one, and what a task that is put in or ends does to them.
use Rattle.std.proofs.Common.{◌≡◌, ◌∙◌, ℕ, ◌+◌, ◌-◌, ◌<◌, ◌≤◌, Bool, true, false, cond, not, ◌&&◌, ◌||◌, List, [], ◌∷◌, length, get_or, set, refl, sym, ap, arith, inl, inr, Option, Some, None, nat_eq, nat_lt, zero-add, ◌++◌}
use Rattle.std.specs.Prelude.{find}
use Rattle.std.specs.List.{list_any, list_all, filter, position, count_by}
use Rattle.std.proofs.lemmas.Bool.{cases_Bool, cases_eq, cases_lt, and_parts, or_left, or_right, or_from, false≢true}
use Rattle.std.proofs.lemmas.Bool.Decides.{nat_tests}
use Rattle.std.proofs.lemmas.List.{get_or-set_same, get_or-set_other, length-set, length_push, get_or_append_left, get_or_past, get_or_read}
use Rattle.std.proofs.lemmas.List.Sums.{position_or_len_is, sum_by-cons, sum_by-set}
use Rattle.std.proofs.Math.Seq.{get_or-append_seam}
use Rattle.plan_terms.specs.Cluster.{has}
use Rattle.plan_terms.specs.declared.settings.Caps.{Caps}
use Rattle.plan_terms.specs.Change.{differ}
use Rattle.cap_ledger.specs.Ledger.{Ledger, adding_of, removing_of, fits_in}
use Rattle.task_planner.specs.declared.group.Key.{Key}
use Rattle.task_planner.specs.declared.slot.Slot.{Slot}
use Rattle.task_planner.specs.Queue.{ended, fits_slot, moves, no_slot, slot_at}
use Rattle.task_planner.specs.Groups.{AreApart, AreGroups, AreGroupsTo, Files, Filing, IsFiled, IsGroup, IsListed, first_without, group_at, is_open, key_by, key_of, no_group}

-- the first member that passes is one of those that pass
record IsFound (p : ℕ → Bool) (xs : List ℕ) (b : ℕ) : Type 0 where
  any : list_any p xs ≡ true
  among : (q : ℕ → Bool) → list_all q (filter p xs) ≡ true → q b ≡ true

found : (p : ℕ → Bool) (xs : List ℕ) (b : ℕ) → find p xs ≡ Some b → IsFound p xs b
found p [] b e = absurd (cc)
found p (x ∷ xs) b e = by (λ k. found p xs b k) (p x) refl where
  by : (find p xs ≡ Some b → IsFound p xs b) → (c : Bool) → p x ≡ c → IsFound p (x ∷ xs) b
  by rec true h =
      let one : cond (p x) (Some x) (find p xs) ≡ Some b = e in
      let it : Some x ≡ Some b = rw h at one in
      let same : x ≡ b = cc in
      record {
        any = or_left (p x) (list_any p xs) h;
        among = λ q all.
            let here : list_all q (cond (p x) (x ∷ filter p xs) (filter p xs)) ≡ true = all in
            let first : (q x && list_all q (filter p xs)) ≡ true = rw h at here in
            rw (← same) (and_parts (q x) (list_all q (filter p xs)) first).0;
      }
  by rec false h =
      let one : cond (p x) (Some x) (find p xs) ≡ Some b = e in
      let rest = rec (rw h at one) in
      record {
        any = or_right (p x) (list_any p xs) rest.any;
        among = λ q all. let here : list_all q (cond (p x) (x ∷ filter p xs) (filter p xs)) ≡ true = all in rest.among q (rw h at here);
      }

unfound : (p : ℕ → Bool) (xs : List ℕ) → find p xs ≡ None → list_any p xs ≡ false
unfound p [] e = refl
unfound p (x ∷ xs) e = by (λ k. unfound p xs k) (p x) refl where
  by : (find p xs ≡ None → list_any p xs ≡ false) → (c : Bool) → p x ≡ c → list_any p (x ∷ xs) ≡ false
  by rec true h =
      let one : cond (p x) (Some x) (find p xs) ≡ None = e in
      let it : Some x ≡ None = rw h at one in
      absurd (cc)
  by rec false h = let one : cond (p x) (Some x) (find p xs) ≡ None = e in or_from (p x) (list_any p xs) h (rec (rw h at one))

lead_from : (a b : Bool) → (a || b) ≡ true → b ≡ false → a ≡ true
lead_from true b h e = refl
lead_from false b h e = sym e ∙ h

both : (a b : Bool) → a ≡ true → b ≡ true → (a && b) ≡ true
both a b h k = rw (h, k) refl

-- a task that fits has a group for which the caps leave room
pub open-fits : (caps : Caps) (l : Ledger) (lead : Bool) (s : Slot) → fits_slot caps l lead s ≡ true → is_open caps l lead (key_of s) ≡ true
unfolding fits_in
open-fits caps l lead s h = by (first_without s.after s.before) refl (first_without s.before s.after) refl where
  pass : ((s.waits && fits_in l caps s.before s.after) ≡ true) × ((lead || differ s.before s.after) ≡ true)
  pass = and_parts (s.waits && fits_in l caps s.before s.after) (lead || differ s.before s.after) h

  room : fits_in l caps s.before s.after ≡ true
  room = (and_parts s.waits (fits_in l caps s.before s.after) pass.0).1

  by : (r : Option ℕ) → first_without s.after s.before ≡ r → (a : Option ℕ) → first_without s.before s.after ≡ a → is_open caps l lead (key_by r a) ≡ true
  by (Some b) e a g =
      let one = found (λ x. not (has s.after x)) s.before b e in
      let apart : differ s.before s.after ≡ true = or_right (list_any (λ x. not (has s.before x)) s.after) _ one.any in
      let parts = and_parts _ (nat_lt l.replica caps.cluster) (rw apart at room) in
      let all = (and_parts _ (list_all (λ x. nat_lt (removing_of l x) caps.broker) (filter (λ x. not (has s.after x)) s.before)) parts.0).1 in
      both (nat_lt (removing_of l b) caps.broker) (nat_lt l.replica caps.cluster) (one.among (λ x. nat_lt (removing_of l x) caps.broker) all) parts.1
  by None e (Some b) g =
      let one = found (λ x. not (has s.before x)) s.after b g in
      let apart : differ s.before s.after ≡ true = or_left (list_any (λ x. not (has s.before x)) s.after) _ one.any in
      let parts = and_parts _ (nat_lt l.replica caps.cluster) (rw apart at room) in
      let all = (and_parts (list_all (λ x. nat_lt (adding_of l x) caps.broker) (filter (λ x. not (has s.before x)) s.after)) _ parts.0).0 in
      both (nat_lt (adding_of l b) caps.broker) (nat_lt l.replica caps.cluster) (one.among (λ x. nat_lt (adding_of l x) caps.broker) all) parts.1
  by None e None g =
      let alike : differ s.before s.after ≡ false =
      or_from _ _ (unfound (λ x. not (has s.before x)) s.after g) (unfound (λ x. not (has s.after x)) s.before e) in
      both lead (nat_lt l.leader caps.leader) (lead_from lead (differ s.before s.after) pass.1 alike) (rw alike at room)

-- the least task that passes is the first one
pub first-is : (p : Slot → Bool) (slots : List Slot) (best : ℕ) → best ≤ length slots → (best < length slots → p (slot_at slots best) ≡ true)
    → ((i : ℕ) → i < length slots → p (slot_at slots i) ≡ true → best ≤ i) → position p slots ≡ cond (nat_lt best (length slots)) (Some best) None
first-is p slots best within here least = ap (λ n. cond (nat_lt n (length slots)) (Some n) None) (position_or_len_is p slots best no_slot within before here) where
  before : (k : ℕ) → k < best → p (slot_at slots k) ≡ false
  before k l = elim (cases_Bool (p (slot_at slots k))) as (λ _. p (slot_at slots k) ≡ false) [
    | inl e ↦ absurd (omega (arith, least k (omega arith) e))
    | inr e ↦ e
  ]

-- no task moves replicas exactly where their number is 0
pub none-counted : (p : Slot → Bool) (slots : List Slot) → not (list_any p slots) ≡ nat_eq (count_by p slots) 0
none-counted p [] = refl
none-counted p (x ∷ xs) = by (none-counted p xs) (p x) refl where
  by : not (list_any p xs) ≡ nat_eq (count_by p xs) 0 → (b : Bool) → p x ≡ b → not (p x || list_any p xs) ≡ nat_eq (count_by p (x ∷ xs)) 0
  by rest true e = rw (sum_by-cons (λ y. cond (p y) 1 0) x xs, e) (grind (arith, nat_tests))
  by rest false e = rw (sum_by-cons (λ y. cond (p y) 1 0) x xs, e, zero-add) rest

-- some task passes exactly where their number is not 0
pub some-counted : (p : Slot → Bool) (slots : List Slot) → nat_lt 0 (count_by p slots) ≡ list_any p slots
some-counted p [] = refl
some-counted p (x ∷ xs) = by (some-counted p xs) (p x) refl where
  by : nat_lt 0 (count_by p xs) ≡ list_any p xs → (b : Bool) → p x ≡ b → nat_lt 0 (count_by p (x ∷ xs)) ≡ (p x || list_any p xs)
  by rest true e = rw (sum_by-cons (λ y. cond (p y) 1 0) x xs, e) (grind (arith, nat_tests))
  by rest false e = rw (sum_by-cons (λ y. cond (p y) 1 0) x xs, e, zero-add) rest

-- one that waited ends: there is one less
pub waiting-left : (slots : List Slot) (i : ℕ) (x y : Slot) (waiting : ℕ) → i < length slots → x ≡ get_or slots i x → (slot_at slots i).waits ≡ true → y ≡ ended x → waiting ≡ count_by (λ s. s.waits) slots
    → (1 ≤ waiting) × (waiting - 1 ≡ count_by (λ s. s.waits) (set slots i y))
waiting-left slots i x y waiting l read waits is counted =
    let here : (get_or slots i x).waits ≡ true = ap (λ (s : Slot). s.waits) (sym read ∙ get_or_read slots i x l read no_slot) ∙ waits in
    let was : ◌≡◌ {A = ℕ} (cond (get_or slots i x).waits 1 0) 1 = ap (λ (b : Bool). one_if b) here in
    let now : ◌≡◌ {A = ℕ} (cond y.waits 1 0) 0 = ap (λ (s : Slot). one_if s.waits) is in
    let sum = sum_by-set (λ (s : Slot). one_if s.waits) slots i y x l in
    (omega (arith, sum, was, now, counted), omega (arith, sum, was, now, counted)) where
      one_if : Bool → ℕ
      one_if b = cond b 1 0

-- a task that fits waits
pub fits-waits : (caps : Caps) (l : Ledger) (lead : Bool) (s : Slot) → fits_slot caps l lead s ≡ true → s.waits ≡ true
fits-waits caps l lead s h = (and_parts s.waits (fits_in l caps s.before s.after) (and_parts (s.waits && fits_in l caps s.before s.after) (lead || differ s.before s.after) h).0).0

-- a group of no task
pub IsGroup-none : (slots : List Slot) → IsGroup slots no_group
IsGroup-none slots = record { rising = λ a b l m. absurd (omega arith); known = λ a l. absurd (omega arith); keyed = λ a l. absurd (omega arith) }

-- a task ends
module _ (slots : List Slot) (i : ℕ) (l : i < length slots) where
  ended-at : (t : ℕ) → key_of (slot_at (set slots i (ended (slot_at slots i))) t) ≡ key_of (slot_at slots t)
  ended-at t = elim (cases_eq t i) as (λ _. key_of (slot_at (set slots i (ended (slot_at slots i))) t) ≡ key_of (slot_at slots t)) [
    | inl e ↦ rw (e, get_or-set_same slots i (ended (slot_at slots i)) no_slot l) refl
    | inr ne ↦ ap key_of (get_or-set_other slots i t (ended (slot_at slots i)) no_slot (λ e. ne e))
  ]

  pub IsGroup-ended : (f : Filing) → IsGroup slots f → IsGroup (set slots i (ended (slot_at slots i))) f
  IsGroup-ended f h = record {
    rising = h.rising;
    known = λ a m. rw length-set (h.known a m);
    keyed = λ a m. ended-at (get_or f.tasks a 0) ∙ h.keyed a m;
  }

  -- a task that waits still waited before
  waited : (t : ℕ) → (slot_at (set slots i (ended (slot_at slots i))) t).waits ≡ true → (slot_at slots t).waits ≡ true
  waited t w = elim (cases_eq t i) as (λ _. (slot_at slots t).waits ≡ true) [
    | inl e ↦ let none : false ≡ true = rw (e, get_or-set_same slots i (ended (slot_at slots i)) no_slot l) at w in absurd (cc)
    | inr ne ↦ rw (get_or-set_other slots i t (ended (slot_at slots i)) no_slot (λ e. ne e)) at w
  ]

  -- it counts among those that move replicas, where it does
  pub moves-counted : cond (moves (slot_at slots i)) 1 0 ≤ count_by moves slots
  moves-counted = omega (arith, sum_by-set (λ (s : Slot). cond (moves s) 1 0) slots i (ended (slot_at slots i)) no_slot l)

  -- the groups where the one with its key has passed over some that wait no longer
  module _ (groups : List Filing) (movers : ℕ) (h : AreGroups slots groups movers) where
    pub AreGroups-ended : (left : ℕ) → left + cond (moves (slot_at slots i)) 1 0 ≡ movers → AreGroups (set slots i (ended (slot_at slots i))) groups left
    AreGroups-ended left e = record {
      few = rw length-set h.few;
      apart = h.apart;
      each = λ g. IsGroup-ended (group_at groups g) (h.each g);
      filed = λ t m w. h.filed t (rw length-set at m) (waited t w);
      movers_are =
          let none : moves (ended (slot_at slots i)) ≡ false = refl in
          let sum = sum_by-set (λ (s : Slot). cond (moves s) 1 0) slots i (ended (slot_at slots i)) no_slot l in
          omega (arith, sum, e, h.movers_are);
    }

pub AreGroups-advanced : (slots : List Slot) (groups : List Filing) (movers place : ℕ) (f : Filing) → place < length groups → AreGroups slots groups movers
    → f.key ≡ (group_at groups place).key → f.tasks ≡ (group_at groups place).tasks
    → ((i : ℕ) → (slot_at slots i).waits ≡ true → IsListed (group_at groups place) i → IsListed f i)
    → AreGroups slots (set groups place f) movers
AreGroups-advanced slots groups movers place f l h key tasks kept = record { few = h.few; each = each; filed = filed; apart = apart; movers_are = h.movers_are } where
  same : (g : ℕ) → (group_at (set groups place f) g).key ≡ (group_at groups g).key
  same g = elim (cases_eq g place) as (λ _. (group_at (set groups place f) g).key ≡ (group_at groups g).key) [
    | inl e ↦ rw (e, get_or-set_same groups place f no_group l) key
    | inr ne ↦ ap (λ (x : Filing). x.key) (get_or-set_other groups place g f no_group (λ e. ne e))
  ]

  apart : AreApart (set groups place f)
  apart g k m n e = h.apart g k m (rw length-set at n) (sym (same g) ∙ e ∙ same k)

  each : (g : ℕ) → IsGroup slots (group_at (set groups place f) g)
  each g = elim (cases_eq g place) as (λ _. IsGroup slots (group_at (set groups place f) g)) [
    | inl e ↦ rw (e, get_or-set_same groups place f no_group l) (record {
      rising = rw tasks (h.each place).rising;
      known = rw tasks (h.each place).known;
      keyed = rw (key, tasks) (h.each place).keyed;
    })
    | inr ne ↦ rw (get_or-set_other groups place g f no_group (λ e. ne e)) (h.each g)
  ]

  filed : (i : ℕ) → i < length slots → (slot_at slots i).waits ≡ true → IsFiled (set groups place f) i
  filed i m w = let at = h.filed i m w in elim (cases_eq at.group place) as (λ _. IsFiled (set groups place f) i) [
    | inl e ↦ record { group = place; known = rw length-set l; listed = rw (get_or-set_same groups place f no_group l) (kept i w (rw e at at.listed)) }
    | inr ne ↦ record { group = at.group; known = rw length-set at.known; listed = rw (get_or-set_other groups place at.group f no_group (λ e. ne e)) at.listed }
  ]

-- the groups of no task, and of one task more
pub AreGroupsTo-none : (slots : List Slot) → AreGroupsTo slots 0 []
AreGroupsTo-none slots = record { each = λ g. IsGroup-none slots; apart = λ g h l m e. absurd (omega arith); fresh = λ g. refl; below = λ g a l. absurd (omega arith); filed = λ i l. absurd (omega arith) }

pub AreGroupsTo-more : (slots : List Slot) (n : ℕ) (groups new : List Filing) → n < length slots → AreGroupsTo slots n groups → Files (key_of (slot_at slots n)) n groups new → AreGroupsTo slots (n + 1) new
AreGroupsTo-more slots n groups new l h f = record { each = each; apart = f.apart h.apart; fresh = fresh; below = below; filed = filed } where
  old : List ℕ
  old = (group_at groups f.place).tasks

  long : length (group_at new f.place).tasks ≡ length old + 1
  long = ap length f.tasks_are ∙ length_push old n

  first : (a : ℕ) → a < length old → get_or (group_at new f.place).tasks a 0 ≡ get_or old a 0
  first a m = ap (λ xs. get_or xs a 0) f.tasks_are ∙ get_or_append_left old (n ∷ []) 0 a m

  last : get_or (group_at new f.place).tasks (length old) 0 ≡ n
  last = ap (λ xs. get_or xs (length old) 0) f.tasks_are ∙ get_or-append_seam old n [] 0

  here : IsGroup slots (group_at new f.place)
  here = record {
    rising = λ a b m k. elim (cases_lt b (length old)) as (λ _. get_or (group_at new f.place).tasks a 0 ≤ get_or (group_at new f.place).tasks b 0) [
      | inl s ↦ omega (arith, first a (omega arith), first b s, (h.each f.place).rising a b m s)
      | inr s ↦ let e : b ≡ length old = omega (arith, long) in elim (cases_lt a (length old)) as (λ _. get_or (group_at new f.place).tasks a 0 ≤ get_or (group_at new f.place).tasks b 0) [
        | inl r ↦ rw (e, last) (omega (arith, first a r, h.below f.place a r))
        | inr r ↦ let d : a ≡ b = omega arith in rw d (omega arith)
      ]
    ];
    known = λ a m. elim (cases_lt a (length old)) as (λ _. get_or (group_at new f.place).tasks a 0 < length slots) [
      | inl s ↦ omega (arith, first a s, (h.each f.place).known a s)
      | inr s ↦ let e : a ≡ length old = omega (arith, long) in rw (e, last) l
    ];
    keyed = λ a m. elim (cases_lt a (length old)) as (λ _. key_of (slot_at slots (get_or (group_at new f.place).tasks a 0)) ≡ (group_at new f.place).key) [
      | inl s ↦ rw (first a s, f.key_is) ((h.each f.place).keyed a s ∙ f.same_key (omega arith))
      | inr s ↦ let e : a ≡ length old = omega (arith, long) in rw (e, last, f.key_is) refl
    ];
  }

  each : (g : ℕ) → IsGroup slots (group_at new g)
  each g = elim (cases_eq g f.place) as (λ _. IsGroup slots (group_at new g)) [
    | inl e ↦ rw e here
    | inr ne ↦ rw (f.others g ne) (h.each g)
  ]

  fresh : (g : ℕ) → (group_at new g).head ≡ 0
  fresh g = elim (cases_eq g f.place) as (λ _. (group_at new g).head ≡ 0) [
    | inl e ↦ rw e (f.head_is ∙ h.fresh f.place)
    | inr ne ↦ rw (f.others g ne) (h.fresh g)
  ]

  below : (g a : ℕ) → a < length (group_at new g).tasks → get_or (group_at new g).tasks a 0 < n + 1
  below g a m = elim (cases_eq g f.place) as (λ _. get_or (group_at new g).tasks a 0 < n + 1) [
    | inl e ↦ let k : a < length (group_at new f.place).tasks = rw e at m in elim (cases_lt a (length old)) as (λ _. get_or (group_at new g).tasks a 0 < n + 1) [
      | inl s ↦ rw e (omega (arith, first a s, h.below f.place a s))
      | inr s ↦ let d : a ≡ length old = omega (arith, long) in rw (e, d, last) (omega arith)
    ]
    | inr ne ↦ rw (f.others g ne) (omega (arith, h.below g a (rw (f.others g ne) at m)))
  ]

  moved : (i : ℕ) → IsListed (group_at groups f.place) i → IsListed (group_at new f.place) i
  moved i p = record { place = p.place; from = rw f.head_is p.from; within = omega (arith, long, p.within); is = first p.place p.within ∙ p.is }

  filed : (i : ℕ) → i < n + 1 → IsFiled new i
  filed i m = elim (cases_lt i n) as (λ _. IsFiled new i) [
    | inl s ↦ let at = h.filed i s in elim (cases_eq at.group f.place) as (λ _. IsFiled new i) [
      | inl e ↦ record { group = f.place; known = f.known; listed = moved i (rw e at at.listed) }
      | inr ne ↦ record { group = at.group; known = omega (arith, at.known, f.kept); listed = rw (f.others at.group ne) at.listed }
    ]
    | inr s ↦ let e : i ≡ n = omega arith in record {
      group = f.place;
      known = f.known;
      listed = record { place = length old; from = rw (f.head_is, h.fresh f.place) (omega arith); within = omega (arith, long); is = last ∙ sym e };
    }
  ]

-- a group for which the caps leave no room has no task that fits
pub closed-none : (caps : Caps) (l : Ledger) (lead : Bool) (slots : List Slot) (f : Filing) → IsGroup slots f → is_open caps l lead f.key ≡ false
    → (i : ℕ) → IsListed f i → fits_slot caps l lead (slot_at slots i) ≡ true → ⊥
closed-none caps l lead slots f h shut i p fit =
    let key : key_of (slot_at slots i) ≡ f.key = rw p.is at (h.keyed p.place p.within) in
    let room : is_open caps l lead f.key ≡ true = rw key at (open-fits caps l lead (slot_at slots i) fit) in
    false≢true (sym shut ∙ room)

-- the least task that is filed and fits is the first that fits
pub first-filed : (caps : Caps) (l : Ledger) (lead : Bool) (slots : List Slot) (groups : List Filing) (movers best : ℕ) → AreGroups slots groups movers → best ≤ length slots
    → (best < length slots → fits_slot caps l lead (slot_at slots best) ≡ true) → ((i : ℕ) → IsFiled groups i → fits_slot caps l lead (slot_at slots i) ≡ true → best ≤ i)
    → position (fits_slot caps l lead) slots ≡ cond (nat_lt best (length slots)) (Some best) None
first-filed caps l lead slots groups movers best h within here least =
    first-is (fits_slot caps l lead) slots best within here (λ i m fit. least i (h.filed i m (fits-waits caps l lead (slot_at slots i) fit)) fit)

-- the tasks and their groups after one ended, before its group passes over it
pub AreGroups-without : (slots : List Slot) (i : ℕ) (x y : Slot) (groups : List Filing) (movers n : ℕ) → i < length slots → x ≡ get_or slots i x → y ≡ ended x → n ≡ cond (moves x) 1 0
    → AreGroups slots groups movers → AreGroups (set slots i y) groups (movers - n)
AreGroups-without slots i x y groups movers n l read is one h =
    let slot : x ≡ slot_at slots i = get_or_read slots i x l read no_slot in
    let end : y ≡ ended (slot_at slots i) = is ∙ ap ended slot in
    let count : n ≡ cond (moves (slot_at slots i)) 1 0 = one ∙ ap (λ s. cond (moves s) 1 0) slot in
    rw end (AreGroups-ended slots i l groups movers h (movers - n) (omega (arith, count, h.movers_are, moves-counted slots i l)))

-- one task more in its group, or in a new one
pub Files-known : (key : Key) (task place : ℕ) (groups : List Filing) (x y : Filing) → place < length groups → x ≡ get_or groups place x → (group_at groups place).key ≡ key
    → y ≡ record x { tasks = x.tasks ++ task ∷ [] } → Files key task groups (set groups place y)
Files-known key task place groups x y l read keyed is =
    let here : x ≡ group_at groups place = get_or_read groups place x l read no_group in
    let now : group_at (set groups place y) place ≡ y = get_or-set_same groups place y no_group l in
    let same : y.key ≡ (group_at groups place).key = ap (λ (f : Filing). f.key) is ∙ ap (λ (f : Filing). f.key) here in
    record {
      place = place;
      known = rw length-set l;
      kept = rw length-set (omega arith);
      key_is = ap (λ (f : Filing). f.key) now ∙ same ∙ keyed;
      tasks_are = ap (λ (f : Filing). f.tasks) now ∙ ap (λ (f : Filing). f.tasks) is ∙ ap (λ (f : Filing). f.tasks ++ task ∷ []) here;
      head_is = ap (λ (f : Filing). f.head) now ∙ ap (λ (f : Filing). f.head) is ∙ ap (λ (f : Filing). f.head) here;
      same_key = λ _. keyed;
      others = λ g ne. get_or-set_other groups place g y no_group (λ e. ne e);
      apart = λ h g k m n e. h g k m (rw length-set at n) (sym (stays g) ∙ e ∙ stays k);
    } where
      stays : (g : ℕ) → (group_at (set groups place y) g).key ≡ (group_at groups g).key
      stays g = elim (cases_eq g place) as (λ _. (group_at (set groups place y) g).key ≡ (group_at groups g).key) [
        | inl e ↦ rw (e, get_or-set_same groups place y no_group l)
            (ap (λ (f : Filing). f.key) is ∙ ap (λ (f : Filing). f.key) (get_or_read groups place x l read no_group))
        | inr ne ↦ ap (λ (x : Filing). x.key) (get_or-set_other groups place g y no_group (λ e. ne e))
      ]

pub Files-new : (key : Key) (task : ℕ) (groups : List Filing) (y : Filing) → ((g : ℕ) → g < length groups → (group_at groups g).key ≡ key → ⊥)
    → y ≡ record { key = key; tasks = task ∷ []; head = 0 } → Files key task groups (groups ++ y ∷ [])
Files-new key task groups y none is = record {
  place = length groups;
  known = omega (arith, length_push groups y);
  kept = omega (arith, length_push groups y);
  key_is = ap (λ (f : Filing). f.key) last ∙ ap (λ (f : Filing). f.key) is;
  tasks_are = ap (λ (f : Filing). f.tasks) last ∙ ap (λ (f : Filing). f.tasks) is ∙ ap (λ (f : Filing). f.tasks ++ task ∷ []) (sym past);
  head_is = ap (λ (f : Filing). f.head) last ∙ ap (λ (f : Filing). f.head) is ∙ ap (λ (f : Filing). f.head) (sym past);
  same_key = λ some. absurd (omega (arith, some, ap (λ (f : Filing). length f.tasks) past));
  others = others;
  apart = apart;
} where
  last : group_at (groups ++ y ∷ []) (length groups) ≡ y
  last = get_or-append_seam groups y [] no_group

  past : group_at groups (length groups) ≡ no_group
  past = get_or_past groups (length groups) no_group (omega arith)

  before : (g : ℕ) → g < length groups → group_at (groups ++ y ∷ []) g ≡ group_at groups g
  before g l = get_or_append_left groups (y ∷ []) no_group g l

  others : (g : ℕ) → (g ≡ length groups → ⊥) → group_at (groups ++ y ∷ []) g ≡ group_at groups g
  others g ne = elim (cases_lt g (length groups)) as (λ _. group_at (groups ++ y ∷ []) g ≡ group_at groups g) [
    | inl l ↦ before g l
    | inr l ↦
        let far : length groups < g = elim (cases_lt (length groups) g) as (λ _. length groups < g) [ inl m ↦ m | inr m ↦ absurd (ne (omega arith)) ] in
        get_or_past (groups ++ y ∷ []) g no_group (omega (arith, length_push groups y)) ∙ sym (get_or_past groups g no_group (omega arith))
  ]

  apart : AreApart groups → AreApart (groups ++ y ∷ [])
  apart h g k m n e = elim (cases_lt k (length groups)) as (λ _. ⊥) [
    | inl l ↦ h g k m l (ap (λ (f : Filing). f.key) (sym (before g (omega arith))) ∙ e ∙ ap (λ (f : Filing). f.key) (before k l))
    | inr l ↦
        let end : k ≡ length groups = omega (arith, length_push groups y) in
        none g (omega arith) (ap (λ (f : Filing). f.key) (sym (before g (omega arith))) ∙ e ∙ ap (λ (x : ℕ). (group_at (groups ++ y ∷ []) x).key) end ∙ ap (λ (f : Filing). f.key) last ∙ ap (λ (f : Filing). f.key) is)
  ]
