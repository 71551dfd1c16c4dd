-- Where no broker has died since the opening, the present cluster is the file's, with the loads of its samples.
use Rattle.std.proofs.Common.{◌≡◌, ℕ, Bool, true, false, not, cond, List, [], ◌∷◌, map, refl, sym, ap, ◌∙◌, ◌⊎◌, inl, inr}
use Rattle.std.specs.Prelude.{◌==◌, ◌&&◌}
use Rattle.std.specs.List.{filter}
use Rattle.std.proofs.lemmas.Bool.{and_parts, or_cases, or_left, or_right, eq-eqb, eqb-true, false≢true, true≢false, not-true}
use Rattle.plan_terms.specs.Belongs.{distinct}
use Rattle.plan_terms.specs.Cluster.{has}
use Rattle.plan_terms.specs.Faults.{IsCase}
use Rattle.plan_terms.specs.States.{is_dead}
use Rattle.plan_terms.specs.declared.cluster.Broker.{Broker}
use Rattle.plan_terms.specs.declared.cluster.BrokerState.{BrokerState}
use Rattle.plan_terms.specs.declared.cluster.BrokerState.TheVariants.{Alive, Dead as Lost, New, Demoted}
use Rattle.cluster_json.specs.File.{Meaning}
use Rattle.exec_terms.specs.Runs.{hosts_of, opening}
use Rattle.exec_terms.specs.Stops.{has_died}
use Rattle.exec_terms.specs.declared.brokers.Host.{Host}
use Rattle.user_tasks.specs.Asks.{AskView}
use Rattle.core_terms.specs.Asked.{case_of}
use Rattle.core_terms.specs.Input.{accepted, loaded_parts}
use Rattle.core_terms.specs.State.{broker_now, present}
use Rattle.executor_core.proofs.Brokers.{ids, ids_once, lost_ids}
use Rattle.request_runs.specs.Runs.{cluster_asked, without_share}

-- the brokers of a file when it is opened
abbrev pub hosts_at : Meaning → List Host
hosts_at file = (opening file.cluster file.lists file.caps).hosts

-- a broker that is dead at the opening is one of those that are lost
died_there : (all dead : List ℕ) (b : ℕ) → has_died (hosts_of all dead) b ≡ true → has dead b ≡ true
died_there [] dead b h = absurd (false≢true h)
died_there (x ∷ xs) dead b h = elim (or_cases ((x == b) && has dead x) (has_died (hosts_of xs dead) b) h) [
  | inl e ↦ let p = and_parts (x == b) (has dead x) e in rw (eqb-true x b p.0) at p.1
  | inr r ↦ died_there xs dead b r
]

lost_cases : (x : Broker) (xs : List Broker) (b : ℕ) → has (lost_ids (x ∷ xs)) b ≡ true → ((x.id ≡ b) × (is_dead x.state ≡ true)) ⊎ (has (lost_ids xs) b ≡ true)
lost_cases x xs b h = by (is_dead x.state) refl h where
  by : (c : Bool) → is_dead x.state ≡ c → has (ids (cond c (x ∷ filter (λ (y : Broker). is_dead y.state) xs) (filter (λ (y : Broker). is_dead y.state) xs))) b ≡ true
      → ((x.id ≡ b) × (is_dead x.state ≡ true)) ⊎ (has (lost_ids xs) b ≡ true)
  by true d h' = elim (or_cases (x.id == b) (has (lost_ids xs) b) h') [
    | inl e ↦ inl (eqb-true x.id b e, d)
    | inr r ↦ inr r
  ]
  by false d h' = inr h'

has-lost : (xs : List Broker) (b : ℕ) → has (lost_ids xs) b ≡ true → has (ids xs) b ≡ true
has-lost [] b h = absurd (false≢true h)
has-lost (x ∷ xs) b h = elim (lost_cases x xs b h) [
  | inl p ↦ or_left (x.id == b) (has (ids xs) b) (eq-eqb x.id b p.0)
  | inr r ↦ or_right (x.id == b) (has (ids xs) b) (has-lost xs b r)
]

lost_is : (s : BrokerState) → is_dead s ≡ true → Lost ≡ s
lost_is Alive h = absurd (false≢true h)
lost_is Lost h = refl
lost_is New h = absurd (false≢true h)
lost_is Demoted h = absurd (false≢true h)

-- the brokers, of which only those died that are lost in the file
brokers_stay : (hosts : List Host) (xs : List Broker) → distinct (ids xs) ≡ true
    → ((b : ℕ) → has (ids xs) b ≡ true → has_died hosts b ≡ true → has (lost_ids xs) b ≡ true) → map (broker_now hosts) xs ≡ xs
brokers_stay hosts [] once h = refl
brokers_stay hosts (x ∷ xs) once h = both (broker_now hosts x) (map (broker_now hosts) xs) (first (has_died hosts x.id) refl) (brokers_stay hosts xs parts.1 rest) where
  parts : (not (has (ids xs) x.id) ≡ true) × (distinct (ids xs) ≡ true)
  parts = and_parts (not (has (ids xs) x.id)) (distinct (ids xs)) once

  new : (b : ℕ) → x.id ≡ b → has (ids xs) b ≡ true → ⊥
  new b e k = true≢false (sym (rw (← e) at k) ∙ not-true (has (ids xs) x.id) parts.0)

  first : (c : Bool) → has_died hosts x.id ≡ c → record x { state = cond c Lost x.state } ≡ x
  first false e = refl
  first true e = elim (lost_cases x xs x.id (h x.id (or_left (x.id == x.id) (has (ids xs) x.id) (eq-eqb x.id x.id refl)) e)) [
    | inl p ↦ ap (λ (s : BrokerState). record x { state = s }) (lost_is x.state p.1)
    | inr r ↦ absurd (new x.id refl (has-lost xs x.id r))
  ]

  rest : (b : ℕ) → has (ids xs) b ≡ true → has_died hosts b ≡ true → has (lost_ids xs) b ≡ true
  rest b k d = elim (lost_cases x xs b (h b (or_right (x.id == b) (has (ids xs) b) k) d)) [
    | inl p ↦ absurd (new b p.0 k)
    | inr r ↦ r
  ]

  both : (y : Broker) (ys : List Broker) → y ≡ x → ys ≡ xs → y ∷ ys ≡ x ∷ xs
  both y ys e f = cc

-- what a planner is given in the end: the cluster that is planned for
pub case_is : (m : Meaning) (ask : AskView) → IsCase m.cluster
    → case_of ask (present (without_share m) (hosts_at (without_share m)) (accepted m.rules m.samples)) ≡ cluster_asked ask m
unfolding present loaded_parts
case_is m ask case = ap (λ (bs : List Broker). case_of ask (record m.cluster { brokers = bs; parts = loaded_parts m (accepted m.rules m.samples) }))
    (brokers_stay (hosts_at m) m.cluster.brokers (ids_once m.cluster case) (λ b k d. died_there (ids m.cluster.brokers) (lost_ids m.cluster.brokers) b d))
