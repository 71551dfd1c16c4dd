-- Members changed one after another.
use Rattle.std.proofs.Common.{◌≡◌, ◌∙◌, ℕ, zero, suc, ◌+◌, ◌<◌, List, [], ◌∷◌, ◌++◌, map, length, get_or, take, drop, refl, sym, ap, arith, add-one}
use Rattle.load_model.specs.Changed.{with_state, with_excluded}
use Rattle.plan_terms.specs.Cluster.{Cluster}
use Rattle.plan_terms.specs.declared.cluster.Broker.{Broker}
use Rattle.plan_terms.specs.declared.cluster.BrokerState.{BrokerState}
use Rattle.plan_terms.specs.declared.cluster.Part.{Part}
use Rattle.std.specs.Prelude.{Bool}
use Rattle.core_cases.specs.Changes.{changed_at}

-- the first i members are changed, and then the next one is
pub changed-front : {X : Type 0} (f : X → X) (xs : List X) (i : ℕ) → i < length xs → changed_at f (map f (take i xs) ++ drop i xs) i ≡ map f (take (suc i) xs) ++ drop (suc i) xs
changed-front f [] i l = absurd (omega arith)
changed-front f (x ∷ xs) zero l = refl
changed-front f (x ∷ xs) (suc i) l = ap (λ ys. f x ∷ ys) (changed-front f xs i (omega arith))

-- a broker that is given the state that it is to have
pub with_state_is : (g : Broker → BrokerState) (bs : List Broker) (i : ℕ) (b : Broker) → i < length bs → b ≡ get_or bs i b → with_state bs i (g b) ≡ changed_at (λ x. record x { state = g x }) bs i
with_state_is g [] i b l e = absurd (omega arith)
with_state_is g (x ∷ xs) zero b l e = ap (λ (y : Broker). record x { state = g y } ∷ xs) e
with_state_is g (x ∷ xs) (suc i) b l e = ap (λ ys. x ∷ ys) (with_state_is g xs i b (omega arith) e)

-- a partition that is excluded, where it is to be
pub with_excluded_is : (g : Part → Bool) (ps : List Part) (i : ℕ) (p : Part) → i < length ps → p ≡ get_or ps i p → with_excluded ps i (g p) ≡ changed_at (λ x. record x { excluded = g x }) ps i
with_excluded_is g [] i p l e = absurd (omega arith)
with_excluded_is g (x ∷ xs) zero p l e = ap (λ (y : Part). record x { excluded = g y } ∷ xs) e
with_excluded_is g (x ∷ xs) (suc i) p l e = ap (λ ys. x ∷ ys) (with_excluded_is g xs i p (omega arith) e)

module _ (c k new : Cluster) (i : ℕ) where
  -- one broker more is changed
  pub brokers_step : (f : Broker → Broker) → i < length c.brokers → k ≡ record c { brokers = map f (take i c.brokers) ++ drop i c.brokers }
      → new ≡ record k { brokers = changed_at f k.brokers i } → new ≡ record c { brokers = map f (take (i + 1) c.brokers) ++ drop (i + 1) c.brokers }
  brokers_step f l before step =
      step ∙ ap (λ (x : Cluster). record x { brokers = changed_at f x.brokers i }) before
      ∙ ap (λ (bs : List Broker). record c { brokers = bs }) (changed-front f c.brokers i l ∙ ap (λ n. map f (take n c.brokers) ++ drop n c.brokers) (sym (add-one i)))

  -- one partition more is
  pub parts_step : (f : Part → Part) → i < length c.parts → k ≡ record c { parts = map f (take i c.parts) ++ drop i c.parts }
      → new ≡ record k { parts = changed_at f k.parts i } → new ≡ record c { parts = map f (take (i + 1) c.parts) ++ drop (i + 1) c.parts }
  parts_step f l before step =
      step ∙ ap (λ (x : Cluster). record x { parts = changed_at f x.parts i }) before
      ∙ ap (λ (ps : List Part). record c { parts = ps }) (changed-front f c.parts i l ∙ ap (λ n. map f (take n c.parts) ++ drop n c.parts) (sym (add-one i)))

-- an exclusion changes no number of partitions
pub length-with_excluded : (ps : List Part) (i : ℕ) (e : Bool) → length (with_excluded ps i e) ≡ length ps
length-with_excluded [] i e = refl
length-with_excluded (p ∷ ps) zero e = refl
length-with_excluded (p ∷ ps) (suc i) e = ap suc (length-with_excluded ps i e)
