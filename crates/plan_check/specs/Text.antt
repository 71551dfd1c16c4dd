-- The text of a trace.
use Rattle.std.specs.Prelude.{ℕ, Bool, List, [], ◌∷◌, codes, map, if◌then◌else◌}
use Rattle.serde_json.specs.Data.{Data, string, array, object, member, no_members}
use Rattle.serde_json.specs.View.{items_of}
use Rattle.serde_json.specs.Written.{compact_text}
use Rattle.plain_json.specs.Numbers.{number_data}
use Rattle.plan_terms.specs.declared.actions.Action.{Action}
use Rattle.plan_terms.specs.declared.actions.Action.TheVariants.{Move, Lead, Swap}
use Rattle.goal_set.specs.Kinds.{name_of}
use Rattle.goal_set.specs.declared.trace.Trace.{Trace}
use Rattle.goal_set.specs.declared.trace.Turned.{Turned}

-- what a trace tells
pub record TraceView : Type 0 where
  pub turns : List Turned
  pub planned : Bool

abbrev pub trace_view : Trace → TraceView
trace_view trace = record { turns = trace.turns.items; planned = trace.planned }

-- an action: its name, and its partitions and brokers
abbrev pub action_data : Action → Data
action_data (Move p a b) = array (items_of (string (codes "MOVE") ∷ number_data p ∷ number_data a ∷ number_data b ∷ []))
action_data (Lead p b) = array (items_of (string (codes "LEAD") ∷ number_data p ∷ number_data b ∷ []))
action_data (Swap p a q b) = array (items_of (string (codes "SWAP") ∷ number_data p ∷ number_data a ∷ number_data q ∷ number_data b ∷ []))

abbrev pub turn_data : Turned → Data
turn_data t = object (member (codes "actions") (array (items_of (map action_data t.actions))) (member (codes "goal") (string (name_of t.goal)) no_members))

abbrev pub result_name : Bool → List ℕ
result_name planned = if planned then codes "PLANNED" else codes "FAILED"

-- the whole: how the trace ended, its turns, and version 1 of the form
abbrev pub trace_data : TraceView → Data
trace_data t = object (member (codes "result") (string (result_name t.planned))
    (member (codes "turns") (array (items_of (map turn_data t.turns)))
    (member (codes "version") (number_data 1) no_members)))

-- a trace as a text, compact, with keys in the order of their bytes
unfoldable pub trace_text : TraceView → List ℕ
trace_text t = compact_text (trace_data t)
