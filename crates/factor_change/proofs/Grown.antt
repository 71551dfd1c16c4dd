-- A list that grows: live brokers that weren't members stand at its end, as many as asked where there are so many.
use Rattle.std.proofs.Common.{◌≡◌, ◌∙◌, ℕ, zero, suc, ◌+◌, ◌<◌, ◌≤◌, Bool, true, false, not, ◌&&◌, ◌||◌, cond, List, [], ◌∷◌, ◌++◌, length, get_or, set, refl, sym, ap, arith, length-append, append_assoc, append-nil}
use Rattle.std.specs.Prelude.{◌==◌, Option, Some, None}
use Rattle.std.specs.Option.{option_map_or}
use Rattle.std.specs.List.{count_by, list_all}
use Rattle.std.proofs.lemmas.Bool.{true≢false, false≢true, eqb-true, eq-eqb, ne_eqb}
use Rattle.std.proofs.lemmas.List.{get_or-map, get_or-set_same, set-get_or, set-set}
use Rattle.std.proofs.lemmas.List.Folds.{list_any-append}
use Rattle.std.proofs.lemmas.List.Sums.{sum_by-cons}
use Rattle.plan_terms.specs.Belongs.{distinct}
use Rattle.plan_terms.specs.Cluster.{Cluster, Lists, list_of, has, id_at, is_known}
use Rattle.factor_change.specs.Laws.{HasDistinctIds}
use Rattle.plan_terms.specs.Legal.{is_live}
use Rattle.plan_terms.specs.States.{is_dead}
use Rattle.plan_terms.specs.declared.cluster.Broker.{Broker}
use Rattle.factor_change.specs.Choice.{IsFirstLeast, joins_at, may_join, next_member, precedes_at}
use Rattle.factor_change.specs.Resized.{grown, with_member}
use Rattle.factor_change.proofs.Keeps.{Joins, distinct_more, known_more, next_joins}
use Rattle.factor_change.proofs.Least.{find_at, no_broker, least_exists, least_is, precedes_by, precedes_never, precedes_trans}

-- a test that passes at one place at most
count_one : {X : Type 0} (p : X → Bool) (d : X) (xs : List X) → ((i j : ℕ) → i < length xs → j < length xs → p (get_or xs i d) ≡ true → p (get_or xs j d) ≡ true → i ≡ j) → count_by p xs ≤ 1
count_one p d [] h = omega arith
count_one p d (x ∷ xs) h = by (p x) refl (count_one p d xs (λ i j l m a b. let e : suc i ≡ suc j = h (suc i) (suc j) (omega (arith, l)) (omega (arith, m)) a b in omega (arith, e))) where
  none : (ys : List _) → ((j : ℕ) → j < length ys → p (get_or ys j d) ≡ false) → count_by p ys ≡ 0
  none [] k = refl
  none (y ∷ ys) k = omega (arith, sum_by-cons (λ z. cond (p z) 1 0) y ys, ap (λ (v : Bool). cond {A = ℕ} v 1 0) (k 0 (omega arith)), none ys (λ j m. k (suc j) (omega (arith, m))))

  off : p x ≡ true → (j : ℕ) → j < length xs → (v : Bool) → p (get_or xs j d) ≡ v → v ≡ false
  off e j m true q = let z : 0 ≡ suc j = h 0 (suc j) (omega arith) (omega (arith, m)) e q in absurd (omega (arith, z))
  off e j m false q = refl

  by : (v : Bool) → p x ≡ v → count_by p xs ≤ 1 → count_by p (x ∷ xs) ≤ 1
  by true e tail = omega (arith, sum_by-cons (λ z. cond (p z) 1 0) x xs, ap (λ (v : Bool). cond {A = ℕ} v 1 0) e, none xs (λ j m. off e j m (p (get_or xs j d)) refl))
  by false e tail = omega (arith, sum_by-cons (λ z. cond (p z) 1 0) x xs, ap (λ (v : Bool). cond {A = ℕ} v 1 0) e, tail)

-- one id stands at one place
once : (c : Cluster) (d : Broker) (b : ℕ) → HasDistinctIds c → (i j : ℕ) → i < length c.brokers → j < length c.brokers → (get_or c.brokers i d).id ≡ b → (get_or c.brokers j d).id ≡ b → i ≡ j
once c d b is i j l m e f =
    is i j l m (get_or-map (λ (x : Broker). x.id) c.brokers i d 0 l ∙ e ∙ sym f ∙ sym (get_or-map (λ (x : Broker). x.id) c.brokers j d 0 m))

-- a member more takes one broker at most from those that may join
one_fewer : (list : List ℕ) (b : ℕ) (bs : List Broker) → count_by (may_join list) bs ≤ count_by (may_join (list ++ b ∷ [])) bs + count_by (λ x. b == x.id) bs
one_fewer list b [] = omega arith
one_fewer list b (x ∷ xs) =
    omega (
      arith,
      sum_by-cons (λ y. cond (may_join list y) 1 0) x xs,
      sum_by-cons (λ y. cond (may_join (list ++ b ∷ []) y) 1 0) x xs,
      sum_by-cons (λ (y : Broker). cond (b == y.id) 1 0) x xs,
      here (is_dead x.state) (has list x.id) (b == x.id) (list_any-append (λ y. y == x.id) list (b ∷ [])),
      one_fewer list b xs,
    )
  where
    here : (dead old new : Bool) → has (list ++ b ∷ []) x.id ≡ (old || (new || false)) → cond (not dead && not old) 1 0 ≤ cond (not dead && not (has (list ++ b ∷ []) x.id)) 1 0 + cond {A = ℕ} new 1 0
    here true old new e = omega arith
    here false true new e = omega arith
    here false false true e = omega arith
    here false false false e = rw e (omega arith)

-- who joins is a live broker of the cluster
joins_live : (c : Cluster) (list : List ℕ) (b : ℕ) → HasDistinctIds c → Joins c list b → is_live c b ≡ true
joins_live c list b is j =
    ap (λ (o : Option Broker). option_map_or (λ x. not (is_dead x.state)) o false)
    (find_at (λ (x : Broker). x.id == b) j.broker c.brokers j.place j.within (eq-eqb _ b (ap (λ (x : Broker). x.id) j.here ∙ j.is))
    (λ k m. ne_eqb (get_or c.brokers k j.broker).id b (λ e. absurd (omega (arith, m, once c j.broker b is k j.place (omega (arith, m, j.within)) j.within e (ap (λ (x : Broker). x.id) j.here ∙ j.is)))))
    ∙ ap Some j.here)
    ∙ ap not j.lives

-- where some broker may join, one does
none_joins : (c : Cluster) (lists : Lists) (list : List ℕ) → next_member c lists list ≡ None → count_by (may_join list) c.brokers ≡ 0
none_joins c lists list e = by (least_exists (joins_at c list) (precedes_at c lists list) (precedes_trans c lists list) (precedes_by c lists list) (precedes_never c lists list) (length c.brokers)) where
  none : (ys : List Broker) → ((k : ℕ) → k < length ys → may_join list (get_or ys k no_broker) ≡ false) → count_by (may_join list) ys ≡ 0
  none [] h = refl
  none (y ∷ ys) h = omega (arith, sum_by-cons (λ z. cond (may_join list z) 1 0) y ys, ap (λ (v : Bool). cond {A = ℕ} v 1 0) (h 0 (omega arith)), none ys (λ j m. h (suc j) (omega (arith, m))))

  by : (o : Option ℕ) × IsFirstLeast (joins_at c list) (precedes_at c lists list) (length c.brokers) o → count_by (may_join list) c.brokers ≡ 0
  by (None, h) = none c.brokers (λ k l. sym (get_or-map (may_join list) c.brokers k no_broker false l) ∙ h k l)
  by (Some i, h) = let bad : Some (id_at c.brokers i) ≡ None = least_is c lists list (Some i) h ∙ e in cc

-- n members more at most
pub record Grows (c : Cluster) (old : List ℕ) (n : ℕ) (new : List ℕ) : Type 0 where
  pub more : List ℕ
  pub is : new ≡ old ++ more
  pub few : length more ≤ n
  pub fresh : (b : ℕ) → has more b ≡ true → (has old b ≡ false) × (is_live c b ≡ true)
  pub all : n ≤ count_by (may_join old) c.brokers → length more ≡ n
  pub room : count_by (may_join old) c.brokers ≤ count_by (may_join new) c.brokers + length more
  pub once : distinct old ≡ true → distinct new ≡ true
  pub known : list_all (is_known c) old ≡ true → list_all (is_known c) new ≡ true

pub record IsGrown (c : Cluster) (lists : Lists) (p n : ℕ) (after : Lists) : Type 0 where
  pub new : List ℕ
  pub after_is : after ≡ set lists p new
  pub grows : Grows c (list_of lists p) n new

-- one step more
step_is : (c : Cluster) (lists : Lists) (p : ℕ) → HasDistinctIds c → p < length lists → (n : ℕ) → IsGrown c lists p n (grown c p n lists) → IsGrown c lists p (suc n) (grown c p (suc n) lists)
step_is c lists p is l n was = by (next_member c (grown c p n lists) (list_of (grown c p n lists) p)) refl where
  g : Grows c (list_of lists p) n was.new
  g = was.grows

  here : list_of (grown c p n lists) p ≡ was.new
  here = ap (λ (ls : Lists). list_of ls p) was.after_is ∙ get_or-set_same lists p was.new [] l

  by : (o : Option ℕ) → next_member c (grown c p n lists) (list_of (grown c p n lists) p) ≡ o → IsGrown c lists p (suc n) (with_member (grown c p n lists) p o)
  by None e =
      let empty : count_by (may_join was.new) c.brokers ≡ 0 = ap (λ (x : List ℕ). count_by (may_join x) c.brokers) (sym here) ∙ none_joins c (grown c p n lists) (list_of (grown c p n lists) p) e in
      record {
        new = was.new;
        after_is = was.after_is;
        grows = record { more = g.more; is = g.is; few = omega (arith, g.few); fresh = g.fresh; all = λ h. absurd (omega (arith, h, g.room, g.few, empty)); room = g.room; once = g.once; known = g.known };
      }
  by (Some b) e =
      let j : Joins c was.new b = rw here at (next_joins c (grown c p n lists) (list_of (grown c p n lists) p) b e) in
      let longer : length (g.more ++ b ∷ []) ≡ length g.more + 1 = length-append g.more (b ∷ []) in
      record {
        new = was.new ++ b ∷ [];
        after_is = ap (λ (x : List ℕ). set (grown c p n lists) p (x ++ b ∷ [])) here ∙ ap (λ (ls : Lists). set ls p (was.new ++ b ∷ [])) was.after_is ∙ set-set lists p was.new (was.new ++ b ∷ []);
        grows = record {
          more = g.more ++ b ∷ [];
          is = ap (λ (x : List ℕ). x ++ b ∷ []) g.is ∙ append_assoc (list_of lists p) g.more (b ∷ []);
          few = omega (arith, g.few, longer);
          fresh = λ x h. fresh b j x (has g.more x) refl (sym (list_any-append (λ y. y == x) g.more (b ∷ [])) ∙ h);
          all = λ h. omega (arith, longer, g.all (omega (arith, h)));
          once = λ h. distinct_more was.new b (g.once h) j.new;
          known = λ h. known_more (is_known c) was.new b (g.known h) j.known;
          room = omega (arith, longer, g.room, one_fewer was.new b c.brokers, count_one (λ (x : Broker). b == x.id) j.broker c.brokers (λ i k q m v w. once c j.broker b is i k q m (sym (eqb-true b _ v)) (sym (eqb-true b _ w))));
        };
      }
    where
      fresh : (b : ℕ) → Joins c was.new b → (x : ℕ) (v : Bool) → has g.more x ≡ v → (has g.more x || ((b == x) || false)) ≡ true → (has (list_of lists p) x ≡ false) × (is_live c x ≡ true)
      fresh b j x true e h = g.fresh x e
      fresh b j x false e h =
          let same : b ≡ x = eqb-true b x (last (b == x) (ap (λ (v : Bool). v || ((b == x) || false)) (sym e) ∙ h)) in
          (ap (has (list_of lists p)) (sym same) ∙ left (has (list_of lists p) b) (has g.more b) (sym (list_any-append (λ y. y == b) (list_of lists p) g.more) ∙ ap (λ (l : List ℕ). has l b) (sym g.is) ∙ j.new), ap (is_live c) (sym same) ∙ joins_live c was.new b is j)
        where
          last : (v : Bool) → (v || false) ≡ true → v ≡ true
          last true q = refl
          last false q = absurd (false≢true q)

          left : (v w : Bool) → (v || w) ≡ false → v ≡ false
          left true w q = absurd (true≢false q)
          left false w q = refl

pub grown_is : (c : Cluster) (lists : Lists) (p : ℕ) → HasDistinctIds c → p < length lists → (n : ℕ) → IsGrown c lists p n (grown c p n lists)
grown_is c lists p is l zero = record {
  new = list_of lists p;
  after_is = sym (set-get_or lists p []);
  grows = record { more = []; is = sym (append-nil (list_of lists p)); few = omega arith; fresh = λ b h. absurd (false≢true h); all = λ h. refl; room = omega arith; once = λ h. h; known = λ h. h };
}
grown_is c lists p is l (suc n) = step_is c lists p is l n (grown_is c lists p is l n)
