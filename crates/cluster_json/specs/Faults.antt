-- What is wrong with a cluster file, and where.
use Rattle.plan_terms.specs.Bytes.{slash}
use Rattle.std.specs.Prelude.{ℕ, List, ◌∷◌, ◌++◌, Result, Ok, Err, decimal}
use Rattle.plan_terms.specs.declared.faults.CaseFault.{CaseFault}

-- the first fault of a file; a path is a JSON pointer
pub data Fault : Type 0 where
  not_json : Fault
  wrong_shape : (path : List ℕ) → Fault
  bad_number : (path : List ℕ) → Fault
  bad_topic : (path : List ℕ) → Fault
  missing_capacity : (broker : ℕ) → Fault
  bad_config : (name : List ℕ) → Fault
  unsupported_version : Fault
  unsupported : (path : List ℕ) → Fault
  no_case : CaseFault → Fault

-- what a part of the file means, or its first fault
abbrev pub Read : Type 0 → Type 0
Read A = Result A Fault

infixl 10 ◌>>=◌
abbrev pub ◌>>=◌ : {A B : Type 0} → Read A → (A → Read B) → Read B
(Ok x) >>= f = f x
(Err e) >>= f = Err e

-- the fault, seen from one step further out
abbrev pub deeper : List ℕ → Fault → Fault
deeper step not_json = not_json
deeper step (wrong_shape path) = wrong_shape (step ++ path)
deeper step (bad_number path) = bad_number (step ++ path)
deeper step (bad_topic path) = bad_topic (step ++ path)
deeper step (missing_capacity broker) = missing_capacity broker
deeper step (bad_config name) = bad_config name
deeper step unsupported_version = unsupported_version
deeper step (unsupported path) = unsupported (step ++ path)
deeper step (no_case fault) = no_case fault

-- what stands behind a step of the path
abbrev pub under : {A : Type 0} → List ℕ → Read A → Read A
under step (Ok x) = Ok x
under step (Err e) = Err (deeper step e)

-- the step to the member of this name
abbrev pub member_step : List ℕ → List ℕ
member_step name = slash ∷ name

-- the step to the item at this index
abbrev pub index_step : ℕ → List ℕ
index_step i = slash ∷ decimal i
