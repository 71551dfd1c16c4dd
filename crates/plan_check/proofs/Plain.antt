-- A trace has no float, and nests no deeper than the reader goes.
use Rattle.std.proofs.Common.{◌≡◌, ◌≤◌, ◌||◌, false, List, [], ◌∷◌, map, refl, ap, arith}
use Rattle.serde_json.specs.Data.{depth, items_depth}
use Rattle.serde_json.specs.View.{items_of}
use Rattle.serde_json.specs.Written.{has_float, items_have_float}
use Rattle.plan_terms.specs.declared.actions.Action.{Action}
use Rattle.plan_terms.specs.declared.actions.Action.TheVariants.{Move, Lead, Swap}
use Rattle.goal_set.specs.declared.trace.Turned.{Turned}
use Rattle.plan_check.specs.Text.{TraceView, action_data, turn_data, trace_data}

action_no_float : (a : Action) → has_float (action_data a) ≡ false
action_no_float (Move p a b) = refl
action_no_float (Lead p b) = refl
action_no_float (Swap p a q b) = refl

action_depth : (a : Action) → depth (action_data a) ≡ 1
action_depth (Move p a b) = refl
action_depth (Lead p b) = refl
action_depth (Swap p a q b) = refl

actions_no_float : (as' : List Action) → items_have_float (items_of (map action_data as')) ≡ false
actions_no_float [] = refl
actions_no_float (a ∷ as') = rw (action_no_float a) (actions_no_float as')

actions_depth : (as' : List Action) → items_depth (items_of (map action_data as')) ≤ 1
actions_depth [] = omega arith
actions_depth (a ∷ as') = omega (arith, action_depth a, actions_depth as')

turns_no_float : (ts : List Turned) → items_have_float (items_of (map turn_data ts)) ≡ false
turns_no_float [] = refl
turns_no_float (t ∷ ts) = rw (actions_no_float t.actions) (turns_no_float ts)

turns_depth : (ts : List Turned) → items_depth (items_of (map turn_data ts)) ≤ 3
turns_depth [] = omega arith
turns_depth (t ∷ ts) = omega (arith, actions_depth t.actions, turns_depth ts)

pub trace_no_float : (t : TraceView) → has_float (trace_data t) ≡ false
trace_no_float t = ap (λ b. b || false) (turns_no_float t.turns)

pub trace_depth : (t : TraceView) → depth (trace_data t) ≤ 127
trace_depth t = omega (arith, turns_depth t.turns)
