-- What one step of a change keeps.
use Rattle.std.proofs.Common.{◌≡◌, ◌∙◌, ℕ, zero, suc, ◌+◌, ◌*◌, ◌<◌, ◌≤◌, Bool, true, false, not, ◌&&◌, ◌||◌, cond, List, [], ◌∷◌, ◌++◌, map, take, length, get_or, set, refl, sym, ap, arith, length-append}
use Rattle.std.specs.Prelude.{◌==◌, Option, Some, None, option_map, find, is_some}
use Rattle.std.specs.List.{count_by, list_all}
use Rattle.std.proofs.lemmas.Bool.{true≢false, false≢true, and_from, eq-eqb}
use Rattle.std.proofs.lemmas.List.{length-set, get_or_default, get_or-map, get_or-set_same, take_more, map-append}
use Rattle.plan_terms.proofs.FaultLemmas.{few_parts}
use Rattle.factor_change.specs.Resized.{with_member}
use Rattle.factor_change.proofs.Least.{no_broker}
use Rattle.std.proofs.lemmas.List.Elements.{All-set}
use Rattle.std.proofs.lemmas.List.Folds.{list_any-append, list_all-append}
use Rattle.std.proofs.lemmas.List.Sums.{sum_by-cons, sum_by-set, count_by-le-length}
use Rattle.plan_terms.specs.Belongs.{AreReplicaLists, Belongs, IsReplicaList, distinct}
use Rattle.plan_terms.specs.Cluster.{Cluster, Lists, list_of, has, broker_of, is_known}
use Rattle.plan_terms.specs.Load.{count}
use Rattle.plan_terms.specs.States.{is_dead}
use Rattle.plan_terms.specs.declared.cluster.Broker.{Broker}
use Rattle.factor_change.specs.Choice.{is_least, may_join, next_member}
use Rattle.factor_change.specs.Kept.{IsDraft}

-- what is found is there, and passes
pub record IsThere {X : Type 0} (p : X → Bool) (xs : List X) (x : X) : Type 0 where
  pub place : ℕ
  pub within : place < length xs
  pub here : get_or xs place x ≡ x
  pub passes : p x ≡ true

pub found_there : {X : Type 0} (p : X → Bool) (xs : List X) (x : X) → find p xs ≡ Some x → IsThere p xs x
found_there p [] x e = cc
found_there p (y ∷ ys) x e = by (p y) refl e (λ h. found_there p ys x h) where
  by : (b : Bool) → p y ≡ b → cond b (Some y) (find p ys) ≡ Some x → (find p ys ≡ Some x → IsThere p ys x) → IsThere p (y ∷ ys) x
  by true q h more = let same : y ≡ x = cc in record { place = 0; within = omega arith; here = same; passes = ap p (sym same) ∙ q }
  by false q h more = let t = more h in record { place = suc t.place; within = omega (arith, t.within); here = t.here; passes = t.passes }

-- the id of a broker of the cluster is known
id_known : (bs : List Broker) (b d : Broker) (k : ℕ) → k < length bs → get_or bs k d ≡ b → is_some (broker_of bs b.id) ≡ true
id_known [] b d k l e = absurd (omega arith)
id_known (x ∷ xs) b d zero l e = ap (λ c. is_some (cond c (Some x) (broker_of xs b.id))) (eq-eqb x.id b.id (ap (λ (y : Broker). y.id) e))
id_known (x ∷ xs) b d (suc k) l e = by (x.id == b.id) (id_known xs b d k (omega (arith, l)) e) where
  by : (c : Bool) → is_some (broker_of xs b.id) ≡ true → is_some (cond c (Some x) (broker_of xs b.id)) ≡ true
  by true h = refl
  by false h = h

-- a broker that becomes a member is of the cluster, and wasn't one
pub record Joins (c : Cluster) (list : List ℕ) (b : ℕ) : Type 0 where
  pub broker : Broker
  pub is : broker.id ≡ b
  pub known : is_known c b ≡ true
  pub new : has list b ≡ false
  pub lives : is_dead broker.state ≡ false
  pub place : ℕ
  pub within : place < length c.brokers
  pub here : get_or c.brokers place broker ≡ broker

pub and_both : (a b : Bool) → (a && b) ≡ true → (a ≡ true) × (b ≡ true)
and_both true b h = (refl, h)
and_both false b h = absurd (false≢true h)

pub not_true : (b : Bool) → not b ≡ true → b ≡ false
not_true true h = absurd (false≢true h)
not_true false h = refl

pub next_joins : (c : Cluster) (lists : Lists) (list : List ℕ) (b : ℕ) → next_member c lists list ≡ Some b → Joins c list b
unfolding next_member
next_joins c lists list b e = by (find (is_least c lists list) c.brokers) refl e where
  by : (o : Option Broker) → find (is_least c lists list) c.brokers ≡ o → option_map (λ (x : Broker). x.id) o ≡ Some b → Joins c list b
  by None q h = cc
  by (Some x) q h =
      let t = found_there (is_least c lists list) c.brokers x q in
      let same : x.id ≡ b = cc in
      let may = and_both (not (is_dead x.state)) (not (has list x.id)) (and_both (may_join list x) _ t.passes).0 in
      record {
        broker = x;
        is = same;
        known = ap (is_known c) (sym same) ∙ id_known c.brokers x x t.place t.within t.here;
        new = ap (has list) (sym same) ∙ not_true (has list x.id) may.1;
        lives = not_true (is_dead x.state) may.0;
        place = t.place;
        within = t.within;
        here = t.here;
      }

-- one member more
pub distinct_more : (list : List ℕ) (b : ℕ) → distinct list ≡ true → has list b ≡ false → distinct (list ++ b ∷ []) ≡ true
distinct_more [] b d h = refl
distinct_more (x ∷ xs) b d h =
    let parts = and_both (not (has xs x)) (distinct xs) d in
    let away : ((x == b) ≡ false) × (has xs b ≡ false) = apart (x == b) (has xs b) h in
    and_from (not (has (xs ++ b ∷ []) x)) (distinct (xs ++ b ∷ []))
    (ap not (list_any-append (λ y. y == x) xs (b ∷ []) ∙ ap (λ (v : Bool). v || ((b == x) || false)) (not_true (has xs x) parts.0) ∙ ap (λ (v : Bool). v || false) (turned x b away.0)))
    (distinct_more xs b parts.1 away.1)
  where
    apart : (a c : Bool) → (a || c) ≡ false → (a ≡ false) × (c ≡ false)
    apart true c h = absurd (true≢false h)
    apart false c h = (refl, h)

    turned : (x b : ℕ) → (x == b) ≡ false → (b == x) ≡ false
    turned x b e = grind arith

pub replicas_more : (list : List ℕ) (b : ℕ) → IsReplicaList list → length list < 8 → has list b ≡ false → IsReplicaList (list ++ b ∷ [])
replicas_more list b r l h = record {
  some = omega (arith, length-append list (b ∷ []));
  few = omega (arith, l, length-append list (b ∷ []));
  once = distinct_more list b r.once h;
}

pub known_more : (p : ℕ → Bool) (list : List ℕ) (b : ℕ) → list_all p list ≡ true → p b ≡ true → list_all p (list ++ b ∷ []) ≡ true
known_more p list b h k = list_all-append p list (b ∷ []) ∙ and_from (list_all p list) (p b && true) h (and_from (p b) true k refl)

-- the first members alone
pub has_take : (list : List ℕ) (n b : ℕ) → has list b ≡ false → has (take n list) b ≡ false
has_take [] zero b h = refl
has_take [] (suc n) b h = refl
has_take (x ∷ xs) zero b h = refl
has_take (x ∷ xs) (suc n) b h = by (x == b) h (λ q. has_take xs n b q) where
  by : (c : Bool) → (c || has xs b) ≡ false → (has xs b ≡ false → has (take n xs) b ≡ false) → (c || has (take n xs) b) ≡ false
  by true q more = absurd (true≢false q)
  by false q more = more q

distinct_take : (list : List ℕ) (n : ℕ) → distinct list ≡ true → distinct (take n list) ≡ true
distinct_take [] zero d = refl
distinct_take [] (suc n) d = refl
distinct_take (x ∷ xs) zero d = refl
distinct_take (x ∷ xs) (suc n) d =
    let parts = and_both (not (has xs x)) (distinct xs) d in
    and_from (not (has (take n xs) x)) (distinct (take n xs)) (ap not (has_take xs n x (not_true (has xs x) parts.0))) (distinct_take xs n parts.1)

pub length_take : (list : List ℕ) (n : ℕ) → n ≤ length list → length (take n list) ≡ n
length_take [] zero l = refl
length_take [] (suc n) l = absurd (omega arith)
length_take (x ∷ xs) zero l = refl
length_take (x ∷ xs) (suc n) l = ap suc (length_take xs n (omega (arith, l)))

pub replicas_take : (list : List ℕ) (n : ℕ) → IsReplicaList list → 1 ≤ n → n ≤ length list → IsReplicaList (take n list)
replicas_take list n r some l = record {
  some = omega (arith, some, length_take list n l);
  few = omega (arith, r.few, length_take list n l, l);
  once = distinct_take list n r.once;
}

pub known_take : (p : ℕ → Bool) (list : List ℕ) (n : ℕ) → list_all p list ≡ true → list_all p (take n list) ≡ true
known_take p [] zero h = refl
known_take p [] (suc n) h = refl
known_take p (x ∷ xs) zero h = refl
known_take p (x ∷ xs) (suc n) h = let parts = and_both (p x) (list_all p xs) h in and_from (p x) (list_all p (take n xs)) parts.0 (known_take p xs n parts.1)

-- another list of a partition
pub belongs_set : (c : Cluster) (lists : Lists) (p : ℕ) (list : List ℕ) → Belongs c lists → IsReplicaList list → list_all (is_known c) list ≡ true → Belongs c (set lists p list)
belongs_set c lists p list h r k = record {
  one_each = length-set lists p list ∙ h.one_each;
  lists_are = All-set IsReplicaList lists p list r h.lists_are;
  known = All-set (λ l. list_all (is_known c) l ≡ true) lists p list k h.known;
}

-- a broker has at most eight replicas for each partition
pub count_few : (b : ℕ) (lists : Lists) → AreReplicaLists lists → count b lists ≤ 8 * length lists
count_few b [] h = omega arith
count_few b (l ∷ ls) h =
    omega (arith, sum_by-cons (λ list. count_by (λ x. x == b) list) l ls, count_by-le-length (λ x. x == b) l, (h 0 l (omega arith)).few, count_few b ls (λ k d m. h (suc k) d (omega (arith, m))))

-- the count of a broker after one list became another
pub count_set : (b : ℕ) (lists : Lists) (p : ℕ) (list : List ℕ) → p < length lists
    → count b (set lists p list) + count_by (λ x. x == b) (list_of lists p) ≡ count b lists + count_by (λ x. x == b) list
count_set b lists p list l = sum_by-set (λ xs. count_by (λ x. x == b) xs) lists p list [] l

pub count_part : (b : ℕ) (lists : Lists) (p : ℕ) → p < length lists → count_by (λ x. x == b) (list_of lists p) ≤ count b lists
count_part b [] p l = absurd (omega arith)
count_part b (x ∷ xs) zero l = omega (arith, sum_by-cons (λ list. count_by (λ y. y == b) list) x xs)
count_part b (x ∷ xs) (suc p) l = omega (arith, sum_by-cons (λ list. count_by (λ y. y == b) list) x xs, count_part b xs p (omega (arith, l)))

-- the table's numbers are small
pub counted_few : (c : Cluster) (lists : Lists) (counts : List ℕ) (k d : ℕ) → IsDraft c lists counts → k < length c.brokers → get_or counts k d ≤ 80000
counted_few c lists counts k d h l =
    let b : Broker = get_or c.brokers k no_broker in
    let is : get_or counts k d ≡ count b.id lists = ap (λ (ns : List ℕ). get_or ns k d) h.counted ∙ get_or-map (λ (x : Broker). count x.id lists) c.brokers k no_broker d l in
    omega (arith, is, count_few b.id lists h.belongs.lists_are, h.belongs.one_each, few_parts c h.case)

-- one number more
pub counts_more : (f : Broker → ℕ) (bs : List Broker) (k : ℕ) (xs : List ℕ) (r : ℕ) → k < length bs → xs ≡ map f (take k bs) → r ≡ f (get_or bs k no_broker) → xs ++ r ∷ [] ≡ map f (take (k + 1) bs)
counts_more f bs k xs r l e q = rw (take_more bs k no_broker l, map-append f (take k bs) (get_or bs k no_broker ∷ []), e, q) refl

-- the number of a broker after one list became another
pub recount_is : (c : Cluster) (lists : Lists) (counts : List ℕ) (p k d r : ℕ) (list : List ℕ) → IsDraft c lists counts → p < length lists → k < length c.brokers
    → r + count_by (λ x. x == (get_or c.brokers k no_broker).id) (list_of lists p) ≡ get_or counts k d + count_by (λ x. x == (get_or c.brokers k no_broker).id) list
    → r ≡ count (get_or c.brokers k no_broker).id (set lists p list)
recount_is c lists counts p k d r list h l m e =
    let b : Broker = get_or c.brokers k no_broker in
    let is : get_or counts k d ≡ count b.id lists = ap (λ (ns : List ℕ). get_or ns k d) h.counted ∙ get_or-map (λ (x : Broker). count x.id lists) c.brokers k no_broker d m in
    omega (arith, e, is, count_set b.id lists p list l)

pub recount_at : (c : Cluster) (lists : Lists) (counts : List ℕ) (p k d r : ℕ) (list : List ℕ) (x : Broker) → IsDraft c lists counts → p < length lists → k < length c.brokers
    → x ≡ get_or c.brokers k x → d ≡ get_or counts k d → r + count_by (λ y. y == x.id) (list_of lists p) ≡ d + count_by (λ y. y == x.id) list
    → r ≡ count (get_or c.brokers k no_broker).id (set lists p list)
recount_at c lists counts p k d r list x h l m e f g =
    let same : get_or c.brokers k no_broker ≡ x = get_or_default c.brokers k no_broker x m ∙ sym e in
    recount_is c lists counts p k d r list h l m (rw (same, sym f) g)

-- one member more, or none
pub member_long : (lists : Lists) (p : ℕ) (o : Option ℕ) → length (with_member lists p o) ≡ length lists
member_long lists p None = refl
member_long lists p (Some b) = length-set lists p (list_of lists p ++ b ∷ [])

pub member_short : (lists : Lists) (p : ℕ) (o : Option ℕ) → p < length lists → length (list_of (with_member lists p o) p) ≤ length (list_of lists p) + 1
member_short lists p None l = omega arith
member_short lists p (Some b) l = omega (arith, ap (λ (x : List ℕ). length x) (get_or-set_same lists p (list_of lists p ++ b ∷ []) [] l), length-append (list_of lists p) (b ∷ []))

-- what a list is put for
pub record IsFit (c : Cluster) (list : List ℕ) : Type 0 where
  pub replicas : IsReplicaList list
  pub known : list_all (is_known c) list ≡ true

pub longer_fits : (c : Cluster) (lists : Lists) (counts : List ℕ) (p b : ℕ) (list new : List ℕ) → IsDraft c lists counts → p < length lists → list ≡ list_of lists p → length (list_of lists p) < 8
    → next_member c lists list ≡ Some b → new ≡ list ++ b ∷ [] → IsFit c new
longer_fits c lists counts p b list new h l e short is made =
    let j : Joins c list b = next_joins c lists list b is in
    let r : IsReplicaList list = rw e (h.belongs.lists_are p [] l) in
    let k : list_all (is_known c) list ≡ true = rw e (h.belongs.known p [] l) in
    rw made (record { replicas = replicas_more list b r (rw e short) j.new; known = known_more (is_known c) list b k j.known })

pub prefix_fits : (c : Cluster) (lists : Lists) (counts : List ℕ) (p n : ℕ) (list new : List ℕ) → IsDraft c lists counts → p < length lists → list ≡ list_of lists p → 1 ≤ n → n ≤ length list
    → new ≡ take n list → IsFit c new
prefix_fits c lists counts p n list new h l e some short made =
    let r : IsReplicaList list = rw e (h.belongs.lists_are p [] l) in
    let k : list_all (is_known c) list ≡ true = rw e (h.belongs.known p [] l) in
    rw made (record { replicas = replicas_take list n r some short; known = known_take (is_known c) list n k })
