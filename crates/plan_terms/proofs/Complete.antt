-- Every legal action is listed.
use Rattle.std.proofs.Common.{◌≡◌, ℕ, ◌<◌, Bool, true, false, List, [], ◌∷◌, ◌++◌, length, map, zero, suc, subst, inl, inr, arith}
use Rattle.std.specs.Prelude.{cond, ◌==◌, is_some}
use Rattle.std.specs.List.{All, filter, flat_map}
use Rattle.std.proofs.lemmas.Bool.{eqb-true, cases_lt, cases_Bool, false≢true}
use Rattle.std.proofs.lemmas.List.Elements.{All-tail}
use Rattle.plan_terms.specs.Belongs.{Belongs}
use Rattle.plan_terms.specs.Cluster.{Cluster, Lists, list_of, has, is_known, broker_of}
use Rattle.plan_terms.specs.Legal.{is_legal, each_below, moves_from, moves_of, leads_of, swaps_with, swaps_of, candidates, all_actions}
use Rattle.plan_terms.specs.Goal.{Meaning, Lessens}
use Rattle.plan_terms.specs.Trace.{AllAccept, NoneLeft, IsUnhelpful}
use Rattle.plan_terms.proofs.EffectLemmas.{has-in_range, fits-legal, fits-Move, fits-Lead, fits-Swap, targets_known-legal}
use Rattle.plan_terms.proofs.MemberLemmas.{list_all-member}
use Rattle.plan_terms.specs.declared.cluster.Broker.{Broker}
use Rattle.plan_terms.specs.declared.actions.Action.{Action}
use Rattle.plan_terms.specs.declared.actions.Action.TheVariants.{Move, Lead, Swap}

-- x is a member of the list
pub data Among {X : Type 0} (x : X) : List X → Type 0 where
  here : {xs : List X} → Among x (x ∷ xs)
  later : {y : X} {xs : List X} → Among x xs → Among x (y ∷ xs)

module _ {X : Type 0} where
  left : {x : X} {xs : List X} → Among x xs → (ys : List X) → Among x (xs ++ ys)
  left here ys = here
  left (later m) ys = later (left m ys)

  right : {x : X} (xs : List X) {ys : List X} → Among x ys → Among x (xs ++ ys)
  right [] m = m
  right (y ∷ xs) m = later (right xs m)

  kept : (p : X → Bool) {x : X} {xs : List X} → Among x xs → p x ≡ true → Among x (filter p xs)
  kept p {x} (here {xs}) h = rw h here
  kept p {x} (later {y} {xs} m) h =
      elim (p y) as (λ t. Among x (cond t (y ∷ filter p xs) (filter p xs))) [ true ↦ later (kept p m h) | false ↦ kept p m h ]

  All-at : (P : X → Type 0) {x : X} {xs : List X} → Among x xs → All P xs → P x
  All-at P {x} (here {xs}) h = h 0 x (omega arith)
  All-at P {x} (later {y} {xs} m) h = All-at P m (All-tail P y xs h)

  below : {x : X} (f : ℕ → List X) (i n : ℕ) → i < n → Among x (f i) → Among x (each_below f n)
  below f i zero l m = absurd (omega arith)
  below {x} f i (suc n) l m = elim (cases_lt i n) as (λ _. Among x (each_below f n ++ f n)) [
    | inl less ↦ left (below f i n less m) (f n)
    | inr more ↦ let e : i ≡ n = omega arith in right (each_below f n) (subst (λ (k : ℕ). Among x (f k)) e m)
  ]

module _ {X Y : Type 0} where
  mapped : (f : X → Y) {x : X} {xs : List X} → Among x xs → Among (f x) (map f xs)
  mapped f here = here
  mapped f (later m) = later (mapped f m)

  joined : (f : X → List Y) {x : X} {y : Y} {xs : List X} → Among x xs → Among y (f x) → Among y (flat_map f xs)
  joined f (here {xs}) n = left n (flat_map f xs)
  joined f (later {y = z} m) n = right (f z) (joined f m n)

-- a known broker stands among the brokers
known-Among : (xs : List Broker) (b : ℕ) → is_some (broker_of xs b) ≡ true → (x : Broker) × Among x xs × (x.id ≡ b)
known-Among [] b h = absurd (false≢true h)
known-Among (x ∷ xs) b h = elim (cases_Bool (x.id == b)) as (λ _. (y : Broker) × Among y (x ∷ xs) × (y.id ≡ b)) [
  | inl same ↦ (x, here, eqb-true x.id b same)
  | inr other ↦
      let deeper : is_some (broker_of xs b) ≡ true = rw other at h in
      let m = known-Among xs b deeper in
      (m.0, later m.1, m.2)
]

module _ (c : Cluster) (n : ℕ) where
  Move-candidate : (p a b : ℕ) → p < n → is_known c a ≡ true → is_known c b ≡ true → Among (Move p a b) (candidates c.brokers n)
  Move-candidate p a b l known target =
      let x = known-Among c.brokers a known in
      let y = known-Among c.brokers b target in
      let one : Among (Move p x.0.id y.0.id) (moves_of c.brokers p) = joined (λ (z : Broker). moves_from c.brokers p z.id) x.1 (mapped (λ (z : Broker). Move p x.0.id z.id) y.1) in
      let same : Among (Move p a b) (moves_of c.brokers p) = rw (x.2, y.2) at one in
      left (left (below (moves_of c.brokers) p n l same) _) _

  Lead-candidate : (p b : ℕ) → p < n → is_known c b ≡ true → Among (Lead p b) (candidates c.brokers n)
  Lead-candidate p b l target =
      let y = known-Among c.brokers b target in
      let one : Among (Lead p y.0.id) (leads_of c.brokers p) = mapped (λ (z : Broker). Lead p z.id) y.1 in
      let same : Among (Lead p b) (leads_of c.brokers p) = rw y.2 at one in
      left (right (each_below (moves_of c.brokers) n) (below (leads_of c.brokers) p n l same)) _

  Swap-candidate : (p a q b : ℕ) → p < n → q < n → is_known c a ≡ true → is_known c b ≡ true → Among (Swap p a q b) (candidates c.brokers n)
  Swap-candidate p a q b l m known target =
      let x = known-Among c.brokers a known in
      let y = known-Among c.brokers b target in
      let last : Among (Swap p x.0.id q y.0.id) (swaps_with c.brokers p x.0.id q) = mapped (λ (z : Broker). Swap p x.0.id q z.id) y.1 in
      let one : Among (Swap p x.0.id q y.0.id) (swaps_of c.brokers n p) = joined (λ (z : Broker). each_below (swaps_with c.brokers p z.id) n) x.1 (below (swaps_with c.brokers p x.0.id) q n m last) in
      let same : Among (Swap p a q b) (swaps_of c.brokers n p) = rw (x.2, y.2) at one in
      right (each_below (moves_of c.brokers) n ++ each_below (leads_of c.brokers) n) (below (swaps_of c.brokers n) p n l same)

module _ (c : Cluster) (lists : Lists) (h : Belongs c lists) where
  -- a member is a broker of the cluster
  known-member : (p b : ℕ) → has (list_of lists p) b ≡ true → is_known c b ≡ true
  known-member p b m = list_all-member (is_known c) b (list_of lists p) (h.known p [] (has-in_range lists p b m)) m

  candidate : (a : Action) → is_legal c lists a ≡ true → Among a (candidates c.brokers (length lists))
  candidate (Move p a b) l =
      let fit = fits-Move lists p a b (fits-legal c lists (Move p a b) l) in
      Move-candidate c (length lists) p a b fit.within (known-member p a fit.source) (targets_known-legal c lists (Move p a b) l)
  candidate (Lead p b) l =
      let fit = fits-Lead lists p b (fits-legal c lists (Lead p b) l) in
      Lead-candidate c (length lists) p b fit.within (known-member p b fit.member)
  candidate (Swap p a q b) l =
      let fit = fits-Swap lists p a q b (fits-legal c lists (Swap p a q b) l) in
      Swap-candidate c (length lists) p a q b fit.first fit.second (known-member p a fit.source) (known-member q b fit.target)

  -- every legal action is listed
  pub listed : (a : Action) → is_legal c lists a ≡ true → Among a (all_actions c lists)
  unfolding all_actions
  listed a l = kept (is_legal c lists) (candidate a l) l

  -- where none is left, no legal action that the earlier goals accept lessens the goal
  pub NoneLeft-legal : (earlier : List Meaning) (goal : Meaning) → NoneLeft c earlier goal lists
      → (a : Action) → is_legal c lists a ≡ true → AllAccept earlier lists a → Lessens goal lists a → ⊥
  NoneLeft-legal earlier goal none a legal accepted lessens = (All-at (IsUnhelpful earlier goal lists) (listed a legal) none.none).fails accepted lessens
