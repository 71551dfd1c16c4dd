-- Sums over the brokers that aren't lost, one broker after another.
use Rattle.std.specs.Prelude.{if◌then◌else◌, cond}
use Rattle.std.proofs.Common.{◌≡◌, ℕ, ◌+◌, ◌<◌, true, false, List, ◌∷◌, length, get_or, drop, suc, arith, inl, inr, add-one, drop-cons}
use Rattle.std.specs.List.{sum_by}
use Rattle.std.proofs.lemmas.Bool.{cases_Bool}
use Rattle.std.proofs.lemmas.List.Sums.{sum_by-cons}
use Rattle.plan_terms.specs.States.{is_dead}
use Rattle.goal_terms.specs.PerBroker.{is_unit, unit_brokers}
use Rattle.plan_terms.specs.declared.cluster.Broker.{Broker}

-- the sum over the units, from the i-th broker on
units-sum-suc : (f : Broker → ℕ) (xs : List Broker) (i : ℕ) (d : Broker) → i < length xs
    → sum_by f (unit_brokers (drop i xs)) ≡ (if is_unit (get_or xs i d) then f (get_or xs i d) else 0) + sum_by f (unit_brokers (drop (suc i) xs))
units-sum-suc f xs i d l = rw (drop-cons xs i d l) (head (get_or xs i d) (drop (suc i) xs)) where
  head : (x : Broker) (ys : List Broker) → sum_by f (unit_brokers (x ∷ ys)) ≡ (if is_unit x then f x else 0) + sum_by f (unit_brokers ys)
  head x ys = elim (cases_Bool (is_unit x)) as (λ _. sum_by f (cond (is_unit x) (x ∷ unit_brokers ys) (unit_brokers ys)) ≡ (if is_unit x then f x else 0) + sum_by f (unit_brokers ys)) [
    | inl e ↦ rw e (sum_by-cons f x (unit_brokers ys))
    | inr e ↦ rw e (omega arith)
  ]

-- a broker that isn't lost is added
pub units-sum-unit : (f : Broker → ℕ) (xs : List Broker) (i : ℕ) (d : Broker) → i < length xs → is_dead (get_or xs i d).state ≡ false
    → sum_by f (unit_brokers (drop i xs)) ≡ f (get_or xs i d) + sum_by f (unit_brokers (drop (i + 1) xs))
units-sum-unit f xs i d l h = rw add-one (rw h at (units-sum-suc f xs i d l))

-- a lost one isn't
pub units-sum-lost : (f : Broker → ℕ) (xs : List Broker) (i : ℕ) (d : Broker) → i < length xs → is_dead (get_or xs i d).state ≡ true
    → sum_by f (unit_brokers (drop i xs)) ≡ sum_by f (unit_brokers (drop (i + 1) xs))
units-sum-lost f xs i d l h = rw add-one (omega (arith, rw h at (units-sum-suc f xs i d l)))
