-- What bytes mean as a trace.
use Rattle.std.specs.Prelude.{ℕ, Bool, true, false, List, [], ◌∷◌, ◌==◌, ◌^◌, nat_lt, bytes_eq, codes, if◌then◌else◌, Option, Some, None, option_map, option_and_then}
use Rattle.std.specs.Str.{is_utf8}
use Rattle.serde_json.specs.Data.{Data, Items, no_items, item}
use Rattle.serde_json.specs.Find.{get, as_number, as_u64, as_str, as_array}
use Rattle.serde_json.specs.Read.{read}
use Rattle.plan_terms.specs.declared.actions.Action.{Action}
use Rattle.plan_terms.specs.declared.actions.Action.TheVariants.{Move, Lead, Swap}
use Rattle.goal_set.specs.Read.{kind_called}
use Rattle.goal_set.specs.declared.kinds.GoalKind.{GoalKind}
use Rattle.goal_set.specs.declared.trace.Turned.{Turned}
use Rattle.plan_check.specs.Text.{TraceView}

infixl 10 ◌>>=◌
abbrev pub ◌>>=◌ : {A B : Type 0} → Option A → (A → Option B) → Option B
o >>= f = option_and_then f o

-- what each item means, where each has a meaning
abbrev pub all_of : {A : Type 0} → (Data → Option A) → Items → Option (List A)
all_of f no_items = Some []
all_of f (item d ds) = option_and_then (λ x. option_map (λ xs. x ∷ xs) (all_of f ds)) (f d)

-- a whole number below 2^32
unfoldable pub number_at : Data → Option ℕ
number_at d = do
  n ← as_number d >>= as_u64
  if nat_lt n (2 ^ 32) then Some n else None

-- the action of a name and its numbers
abbrev pub action_named : List ℕ → List ℕ → Option Action
action_named name (p ∷ b ∷ []) = if bytes_eq name (codes "LEAD") then Some (Lead p b) else None
action_named name (p ∷ a ∷ b ∷ []) = if bytes_eq name (codes "MOVE") then Some (Move p a b) else None
action_named name (p ∷ a ∷ q ∷ b ∷ []) = if bytes_eq name (codes "SWAP") then Some (Swap p a q b) else None
action_named name _ = None

-- a name, and whole numbers behind it
unfoldable pub action_items : Items → Option Action
action_items no_items = None
action_items (item d ds) = do
  name ← as_str d
  numbers ← all_of number_at ds
  action_named name numbers

unfoldable pub action_at : Data → Option Action
action_at d = as_array d >>= action_items

unfoldable pub actions_at : Data → Option (List Action)
actions_at d = as_array d >>= all_of action_at

unfoldable pub goal_at : Data → Option GoalKind
goal_at d = as_str d >>= kind_called

-- an object of `actions` and `goal`
unfoldable pub turn_at : Data → Option Turned
turn_at d = do
  actions ← get (codes "actions") d >>= actions_at
  goal ← get (codes "goal") d >>= goal_at
  Some (record { goal = goal; actions = actions })

unfoldable pub turns_at : Data → Option (List Turned)
turns_at d = as_array d >>= all_of turn_at

abbrev pub result_named : List ℕ → Option Bool
result_named name = if bytes_eq name (codes "PLANNED") then Some true else (if bytes_eq name (codes "FAILED") then Some false else None)

-- whether each goal had its turn
unfoldable pub result_at : Data → Option Bool
result_at d = as_str d >>= result_named

-- the number 1
unfoldable pub version_at : Data → Option (Unit {0})
version_at d = do
  n ← as_number d >>= as_u64
  if n == 1 then Some tt else None

-- an object of `result`, `turns` and `version`; other members mean nothing
unfoldable pub trace_at : Data → Option TraceView
trace_at d = do
  planned ← get (codes "result") d >>= result_at
  turns ← get (codes "turns") d >>= turns_at
  version ← get (codes "version") d >>= version_at
  Some (record { turns = turns; planned = planned })

-- the trace that the bytes are, if they are one
unfoldable pub trace_of : List ℕ → Option TraceView
trace_of bytes = if is_utf8 bytes then read bytes >>= trace_at else None
