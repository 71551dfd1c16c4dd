-- What the lack of a fault says.
use Rattle.std.proofs.Common.{◌≡◌, ℕ, ◌≤◌, Bool, true, false, eqb, List, [], ◌∷◌, ◌++◌, length, suc, refl, ap, ◌∙◌, arith, Option, Some, None}
use Rattle.std.specs.Prelude.{not, ◌||◌, nat_lt, if◌then◌else◌, option_map}
use Rattle.std.specs.List.{All, list_all, list_any}
use Rattle.std.proofs.lemmas.Bool.{and_from, not_from_false, or_from, ltb-false, eqb-false, ne_eqb, both_ways}
use Rattle.std.proofs.lemmas.List.Elements.{All-nil, All-cons}
use Rattle.std.proofs.lemmas.List.Folds.{list_any-append}
use Rattle.plan_terms.specs.Belongs.{Belongs, IsReplicaList, distinct}
use Rattle.plan_terms.specs.Cluster.{Cluster, Lists, has, is_known}
use Rattle.std.specs.Option.{option_or}
use Rattle.plan_terms.specs.Faults.{IsCase, broken_limit, case_fault, member_fault, list_fault, lists_fault_from, lists_fault, is_heavy, is_large, has_bad_chunks, topics}
use Rattle.plan_terms.specs.declared.cluster.Broker.{Broker}
use Rattle.plan_terms.specs.declared.cluster.Part.{Part}
use Rattle.plan_terms.specs.declared.faults.CaseFault.{CaseFault}
use Rattle.plan_terms.specs.declared.faults.CaseFault.TheVariants.{UnknownBroker, DuplicateReplica, EmptyReplicas, OverLimit}
use Rattle.plan_terms.specs.declared.faults.Limit.{Limit}
use Rattle.plan_terms.specs.declared.faults.Limit.TheVariants as limit

-- neither of two faults is there
pub option_or-None : (x y : Option CaseFault) → option_or x y ≡ None → (x ≡ None) × (y ≡ None)
option_or-None None y h = (refl, h)
option_or-None (Some e) y h = absurd cc

-- a test that would be a fault fails, and the rest has none
passes : {X : Type 0} (b : Bool) (e : X) (rest : Option X) → (if b then Some e else rest) ≡ None → (b ≡ false) × (rest ≡ None)
passes true e rest h = absurd cc
passes false e rest h = (refl, h)

known_from : (b : Bool) → not b ≡ false → b ≡ true
known_from true h = refl
known_from false h = absurd cc

-- no member stands among those before
unseen : (c : Cluster) (p y : ℕ) (seen bs : List ℕ) → member_fault c p seen bs ≡ None → has seen y ≡ true → has bs y ≡ false
unseen c p y seen [] h s = refl
unseen c p y seen (b ∷ bs) h s =
    let known = passes (not (is_known c b)) (UnknownBroker p b) _ h in
    let new = passes (has seen b) (DuplicateReplica p b) _ known.1 in
    or_from (eqb b y) (has bs y) (ne_eqb b y (λ e. let seen_too : has seen b ≡ true = rw e s in both_ways (has seen b) new.0 seen_too))
    (unseen c p y (seen ++ b ∷ []) bs new.1 (list_any-append (λ x. eqb x y) seen (b ∷ []) ∙ ap (λ t. t || (eqb b y || false)) s))

members_good : (c : Cluster) (p : ℕ) (seen bs : List ℕ) → member_fault c p seen bs ≡ None → (list_all (is_known c) bs ≡ true) × (distinct bs ≡ true)
members_good c p seen [] h = (refl, refl)
members_good c p seen (b ∷ bs) h =
    let known = passes (not (is_known c b)) (UnknownBroker p b) _ h in
    let new = passes (has seen b) (DuplicateReplica p b) _ known.1 in
    let rest = members_good c p (seen ++ b ∷ []) bs new.1 in
    let here : has (seen ++ b ∷ []) b ≡ true = list_any-append (λ x. eqb x b) seen (b ∷ []) ∙ last_found (has seen b) b in
    (and_from _ _ (known_from (is_known c b) known.0) rest.0, and_from _ _ (not_from_false _ (unseen c p b (seen ++ b ∷ []) bs new.1 here)) rest.1) where
      last_found : (t : Bool) (b : ℕ) → (t || (eqb b b || false)) ≡ true
      last_found t b = grind arith

list_good : (c : Cluster) (p : ℕ) (list : List ℕ) → list_fault c p list ≡ None → IsReplicaList list × (list_all (is_known c) list ≡ true)
unfolding list_fault
list_good c p list h =
    let some = passes (eqb (length list) 0) (EmptyReplicas p) _ h in
    let few = passes (nat_lt 8 (length list)) (OverLimit limit.Replicas) _ some.1 in
    let members = members_good c p [] list few.1 in
    let at_least : length list ≡ 0 → ⊥ = eqb-false (length list) 0 some.0 in
    let at_most = ltb-false 8 (length list) few.0 in
    (record { some = omega arith; few = at_most; once = members.1 }, members.0)

lists_good : (c : Cluster) (p : ℕ) (lists : Lists) → lists_fault_from c p lists ≡ None → All IsReplicaList lists × All (λ list. list_all (is_known c) list ≡ true) lists
lists_good c p [] h = (All-nil IsReplicaList, All-nil (λ list. list_all (is_known c) list ≡ true))
lists_good c p (list ∷ lists) h =
    let parts = option_or-None (list_fault c p list) (lists_fault_from c (suc p) lists) h in
    let first = list_good c p list parts.0 in
    let rest = lists_good c (suc p) lists parts.1 in
    (All-cons IsReplicaList list lists first.0 rest.0, All-cons (λ l. list_all (is_known c) l ≡ true) list lists first.1 rest.1)

-- lists without a fault, one for each partition, belong to the cluster
pub Belongs-faultless : (c : Cluster) (lists : Lists) → length lists ≡ length c.parts → lists_fault c lists ≡ None → Belongs c lists
unfolding lists_fault
Belongs-faultless c lists e h =
    let good = lists_good c 0 lists h in
    record { one_each = e; lists_are = good.0; known = good.1 }

limit-None : (x : Option Limit) → option_map OverLimit x ≡ None → x ≡ None
limit-None None h = refl
limit-None (Some l) h = absurd cc

-- the parts of a case without a fault
pub record WithinLimits (brokers : List Broker) (parts : List Part) : Type 0 where
  pub few_brokers : length brokers ≤ 200
  pub few_topics : length (topics parts) ≤ 1000
  pub few_parts : length parts ≤ 10000
  pub light : list_any is_heavy parts ≡ false
  pub small : list_any is_large brokers ≡ false
  pub chunked : list_any has_bad_chunks parts ≡ false

pub WithinLimits-faultless : (brokers : List Broker) (parts : List Part) → case_fault brokers parts ≡ None → WithinLimits brokers parts
unfolding case_fault broken_limit
WithinLimits-faultless brokers parts h =
    let limits = limit-None (broken_limit brokers parts) (option_or-None _ _ h).0 in
    let one = passes (nat_lt 200 (length brokers)) limit.Brokers _ limits in
    let two = passes (nat_lt 1000 (length (topics parts))) limit.Topics _ one.1 in
    let three = passes (nat_lt 10000 (length parts)) limit.Partitions _ two.1 in
    let four = passes (list_any is_heavy parts) limit.Load _ three.1 in
    let five = passes (list_any is_large brokers) limit.Capacity _ four.1 in
    let six = passes (list_any has_bad_chunks parts) limit.Chunks None five.1 in
    record {
      few_brokers = ltb-false 200 (length brokers) one.0;
      few_topics = ltb-false 1000 (length (topics parts)) two.0;
      few_parts = ltb-false 10000 (length parts) three.0;
      light = four.0;
      small = five.0;
      chunked = six.0;
    }

pub few_brokers : (c : Cluster) → IsCase c → length c.brokers ≤ 200
few_brokers c h = (WithinLimits-faultless c.brokers c.parts h.faultless).few_brokers

pub few_parts : (c : Cluster) → IsCase c → length c.parts ≤ 10000
few_parts c h = (WithinLimits-faultless c.brokers c.parts h.faultless).few_parts
