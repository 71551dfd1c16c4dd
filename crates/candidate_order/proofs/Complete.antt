-- Every legal action is in the list of candidates.
use Rattle.std.proofs.Common.{◌≡◌, ℕ, Bool, true, false, List, [], ◌∷◌, ◌++◌, length, map, get_or, refl, ◌∙◌, inl, inr, arith, eq-eqb}
use Rattle.std.specs.Prelude.{cond, ◌==◌, is_some}
use Rattle.std.specs.List.{All, filter, flat_map}
use Rattle.std.proofs.lemmas.Bool.{eqb-true, cases_eq, cases_Bool, false≢true, ne_eqb, lt-ltb}
use Rattle.std.proofs.lemmas.List.Elements.{All-tail, filter_passes}
use Rattle.plan_terms.specs.Belongs.{Belongs}
use Rattle.plan_terms.specs.Cluster.{Cluster, Lists, list_of, has, leads, is_known, broker_of}
use Rattle.plan_terms.specs.Legal.{is_legal, candidates, all_actions}
use Rattle.plan_terms.specs.Goal.{Meaning}
use Rattle.plan_terms.specs.Trace.{NoneLeft, Step}
use Rattle.plan_terms.proofs.EffectLemmas.{has-in_range, fits-legal, fits-Move, fits-Lead, fits-Swap, targets_known-legal}
use Rattle.plan_terms.proofs.MemberLemmas.{list_all-member}
use Rattle.plan_terms.specs.declared.cluster.Broker.{Broker}
use Rattle.plan_terms.specs.declared.actions.Action.{Action}
use Rattle.plan_terms.specs.declared.actions.Action.TheVariants.{Move, Lead, Swap}
use Rattle.candidate_order.specs.CandidateList.{candidates_at, replicas_of, moves_of_replica, move_list, lead_list, swap_list, candidate_list, NoStep}
use Rattle.candidate_order.specs.Exhausted.{kind_of}
use Rattle.candidate_order.specs.declared.kinds.Kind.{Kind}
use Rattle.candidate_order.specs.declared.kinds.Kind.TheVariants.{Moves, Leads, Swaps}
use Rattle.goal_terms.specs.Pairs.{giver, taker}
use Rattle.plan_terms.specs.Fits.{fits, targets_known}
use Rattle.candidate_order.proofs.OrderLemmas.{replicas-are}

-- x is a member of the list
pub data Among {X : Type 0} (x : X) : List X → Type 0 where
  here : {xs : List X} → Among x (x ∷ xs)
  later : {y : X} {xs : List X} → Among x xs → Among x (y ∷ xs)

module _ {X : Type 0} where
  left : {x : X} {xs : List X} → Among x xs → (ys : List X) → Among x (xs ++ ys)
  left here ys = here
  left (later m) ys = later (left m ys)

  right : {x : X} (xs : List X) {ys : List X} → Among x ys → Among x (xs ++ ys)
  right [] m = m
  right (y ∷ xs) m = later (right xs m)

  kept : (p : X → Bool) {x : X} {xs : List X} → Among x xs → p x ≡ true → Among x (filter p xs)
  kept p {x} (here {xs}) h = rw h here
  kept p {x} (later {y} {xs} m) h =
      elim (p y) as (λ t. Among x (cond t (y ∷ filter p xs) (filter p xs))) [ true ↦ later (kept p m h) | false ↦ kept p m h ]

  All-at : (P : X → Type 0) {x : X} {xs : List X} → Among x xs → All P xs → P x
  All-at P {x} (here {xs}) h = h 0 x (omega arith)
  All-at P {x} (later {y} {xs} m) h = All-at P m (All-tail P y xs h)

module _ {X Y : Type 0} where
  mapped : (f : X → Y) {x : X} {xs : List X} → Among x xs → Among (f x) (map f xs)
  mapped f here = here
  mapped f (later m) = later (mapped f m)

  joined : (f : X → List Y) {x : X} {y : Y} {xs : List X} → Among x xs → Among y (f x) → Among y (flat_map f xs)
  joined f (here {xs}) n = left n (flat_map f xs)
  joined f (later {y = z} m) n = right (f z) (joined f m n)

-- a known broker stands among the brokers
known-Among : (xs : List Broker) (b : ℕ) → is_some (broker_of xs b) ≡ true → (x : Broker) × Among x xs × (x.id ≡ b)
known-Among [] b h = absurd (false≢true h)
known-Among (x ∷ xs) b h = elim (cases_Bool (x.id == b)) as (λ _. (y : Broker) × Among y (x ∷ xs) × (y.id ≡ b)) [
  | inl same ↦ (x, here, eqb-true x.id b same)
  | inr other ↦
      let deeper : is_some (broker_of xs b) ≡ true = rw other at h in
      let m = known-Among xs b deeper in
      (m.0, later m.1, m.2)
]

-- a number that a list has is among it
has-Among : (xs : List ℕ) (p : ℕ) → has xs p ≡ true → Among p xs
has-Among [] p h = absurd (false≢true h)
has-Among (x ∷ xs) p h = elim (cases_eq x p) as (λ _. Among p (x ∷ xs)) [
  | inl e ↦ rw e here
  | inr n ↦ later (has-Among xs p (rw (ne_eqb x p n) at h))
]

-- the first of a list leads it, and is a member
first-leads : (list : List ℕ) (b : ℕ) → has list b ≡ true → (leads list (get_or list 0 0) ≡ true) × (has list (get_or list 0 0) ≡ true)
first-leads [] b h = absurd (false≢true h)
first-leads (x ∷ xs) b h = (eq-eqb x x refl, rw (eq-eqb x x refl) refl)

module _ (c : Cluster) (lists : Lists) (h : Belongs c lists) where
  -- a member is a broker of the cluster
  pub known-member : (p b : ℕ) → has (list_of lists p) b ≡ true → is_known c b ≡ true
  known-member p b m = list_all-member (is_known c) b (list_of lists p) (h.known p [] (has-in_range lists p b m)) m

  -- and its replica of the partition is listed
  replica : (p b : ℕ) → has (list_of lists p) b ≡ true → Among p (replicas_of c lists b)
  replica p b m = has-Among (replicas_of c lists b) p ((replicas-are c lists b).members p ∙ rw (m, lt-ltb p (length lists) (has-in_range lists p b m)) refl)

  move-listed : (p a b : ℕ) → has (list_of lists p) a ≡ true → is_known c b ≡ true → Among (Move p a b) (move_list c lists)
  move-listed p a b m target =
      let x = known-Among c.brokers a (known-member p a m) in
      let y = known-Among c.brokers b target in
      let own : Among p (replicas_of c lists x.0.id) = rw x.2 (replica p a m) in
      let one : Among (Move p x.0.id y.0.id) (move_list c lists) =
      joined (λ (z : Broker). flat_map (moves_of_replica c z.id) (replicas_of c lists z.id)) x.1
      (joined (moves_of_replica c x.0.id) own (mapped (λ (z : Broker). Move p x.0.id z.id) y.1)) in
      rw (x.2, y.2) at one

  lead-listed : (p b : ℕ) → has (list_of lists p) b ≡ true → Among (Lead p b) (lead_list c lists)
  lead-listed p b m =
      let first = first-leads (list_of lists p) b m in
      let a = get_or (list_of lists p) 0 0 in
      let x = known-Among c.brokers a (known-member p a first.1) in
      let y = known-Among c.brokers b (known-member p b m) in
      let own : Among p (filter (λ q. leads (list_of lists q) x.0.id) (replicas_of c lists x.0.id)) = rw x.2 (kept (λ q. leads (list_of lists q) a) (replica p a first.1) first.0) in
      let one : Among (Lead p y.0.id) (lead_list c lists) =
      joined (λ (z : Broker). flat_map (λ q. map (λ (v : Broker). Lead q v.id) c.brokers) (filter (λ q. leads (list_of lists q) z.id) (replicas_of c lists z.id))) x.1
      (joined (λ q. map (λ (v : Broker). Lead q v.id) c.brokers) own (mapped (λ (v : Broker). Lead p v.id) y.1)) in
      rw y.2 at one

  swap-listed : (p a q b : ℕ) → has (list_of lists p) a ≡ true → has (list_of lists q) b ≡ true → Among (Swap p a q b) (swap_list c lists)
  swap-listed p a q b m n =
      let x = known-Among c.brokers a (known-member p a m) in
      let y = known-Among c.brokers b (known-member q b n) in
      let own : Among p (replicas_of c lists x.0.id) = rw x.2 (replica p a m) in
      let other : Among q (replicas_of c lists y.0.id) = rw y.2 (replica q b n) in
      let one : Among (Swap p x.0.id q y.0.id) (swap_list c lists) =
      joined (λ (z : Broker). flat_map (λ r. flat_map (λ (v : Broker). map (λ s. Swap r z.id s v.id) (replicas_of c lists v.id)) c.brokers) (replicas_of c lists z.id)) x.1
      (joined (λ r. flat_map (λ (v : Broker). map (λ s. Swap r x.0.id s v.id) (replicas_of c lists v.id)) c.brokers) own
      (joined (λ (v : Broker). map (λ s. Swap p x.0.id s v.id) (replicas_of c lists v.id)) y.1 (mapped (λ s. Swap p x.0.id s y.0.id) other))) in
      rw (x.2, y.2) at one

  -- every legal action is a candidate
  pub legal-listed : (a : Action) → is_legal c lists a ≡ true → Among a (candidate_list c lists)
  unfolding candidate_list
  legal-listed (Move p a b) l =
      let fit = fits-Move lists p a b (fits-legal c lists (Move p a b) l) in
      kept (is_legal c lists) (left (left (move-listed p a b fit.source (targets_known-legal c lists (Move p a b) l)) (lead_list c lists)) (swap_list c lists)) l
  legal-listed (Lead p b) l =
      let fit = fits-Lead lists p b (fits-legal c lists (Lead p b) l) in
      kept (is_legal c lists) (left (right (move_list c lists) (lead-listed p b fit.member)) (swap_list c lists)) l
  legal-listed (Swap p a q b) l =
      let fit = fits-Swap lists p a q b (fits-legal c lists (Swap p a q b) l) in
      kept (is_legal c lists) (right (move_list c lists ++ lead_list c lists) (swap-listed p a q b fit.source fit.target)) l

  -- where no candidate is a step, none is left
  pub NoneLeft-candidates : (earlier : List Meaning) (goal : Meaning) → NoStep c earlier goal lists (candidate_list c lists) → NoneLeft c earlier goal lists
  unfolding all_actions
  NoneLeft-candidates earlier goal none = record {
    none = λ k a l. let legal = filter_passes (is_legal c lists) (candidates c.brokers (length lists)) k a l in
        record {
          fails = λ accepted lessens. All-at (λ x. Step c earlier goal lists x → ⊥) (legal-listed _ legal) none (record { legal = legal; accepted = accepted; lessens = lessens });
        };
  }

  -- every legal action is a candidate of its kind for the replicas of the broker that gives
  pub row-listed : (a : Action) → is_legal c lists a ≡ true → Among a (flat_map (candidates_at (kind_of a) c lists (giver lists a)) (replicas_of c lists (giver lists a)))
  row-listed (Move p a b) l =
      let fit = fits-Move lists p a b (fits-legal c lists (Move p a b) l) in
      let y = known-Among c.brokers b (targets_known-legal c lists (Move p a b) l) in
      let one : Among (Move p a y.0.id) (flat_map (moves_of_replica c a) (replicas_of c lists a)) =
      joined (moves_of_replica c a) (replica p a fit.source) (mapped (λ (z : Broker). Move p a z.id) y.1) in
      rw y.2 at one
  row-listed (Lead p b) l =
      let fit = fits-Lead lists p b (fits-legal c lists (Lead p b) l) in
      let first = first-leads (list_of lists p) b fit.member in
      let a = get_or (list_of lists p) 0 0 in
      let y = known-Among c.brokers b (known-member p b fit.member) in
      let lead : Among (Lead p y.0.id) (candidates_at Leads c lists a p) = rw first.0 (mapped (λ (z : Broker). Lead p z.id) y.1) in
      let one : Among (Lead p y.0.id) (flat_map (candidates_at Leads c lists a) (replicas_of c lists a)) =
      joined (candidates_at Leads c lists a) (replica p a first.1) lead in
      rw y.2 at one
  row-listed (Swap p a q b) l =
      let fit = fits-Swap lists p a q b (fits-legal c lists (Swap p a q b) l) in
      let y = known-Among c.brokers b (known-member q b fit.target) in
      let other : Among q (replicas_of c lists y.0.id) = rw y.2 (replica q b fit.target) in
      let one : Among (Swap p a q y.0.id) (flat_map (candidates_at Swaps c lists a) (replicas_of c lists a)) =
      joined (candidates_at Swaps c lists a) (replica p a fit.source)
      (joined (λ (v : Broker). map (λ s. Swap p a s v.id) (replicas_of c lists v.id)) y.1 (mapped (λ s. Swap p a s y.0.id) other)) in
      rw y.2 at one

  -- where none of these is a step, no action of the kind that the broker gives by is one
  pub row-none : (earlier : List Meaning) (goal : Meaning) (kind : Kind) (b : ℕ) → NoStep c earlier goal lists (flat_map (candidates_at kind c lists b) (replicas_of c lists b))
      → (y : Action) → kind_of y ≡ kind → giver lists y ≡ b → Step c earlier goal lists y → ⊥
  row-none earlier goal kind b none y e i s =
      All-at (λ x. Step c earlier goal lists x → ⊥) (rw (e, i) at (row-listed y s.legal)) none s

  -- both brokers of an action that fits, onto known ones, are known
  pub giver-known : (a : Action) → fits lists a ≡ true → is_known c (giver lists a) ≡ true
  giver-known (Move p a b) fit = known-member p a (fits-Move lists p a b fit).source
  giver-known (Lead p b) fit = known-member p (get_or (list_of lists p) 0 0) (first-leads (list_of lists p) b (fits-Lead lists p b fit).member).1
  giver-known (Swap p a q b) fit = known-member p a (fits-Swap lists p a q b fit).source

  pub taker-known : (a : Action) → fits lists a ≡ true → targets_known c a ≡ true → is_known c (taker a) ≡ true
  taker-known (Move p a b) fit known = known
  taker-known (Lead p b) fit known = known-member p b (fits-Lead lists p b fit).member
  taker-known (Swap p a q b) fit known = known-member q b (fits-Swap lists p a q b fit).target
