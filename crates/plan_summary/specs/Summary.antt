-- What is told of a run of the planner.
use Rattle.std.specs.Prelude.{ℕ, List, [], ◌∷◌, ◌++◌, length, codes, decimal}
use Rattle.std.specs.List.{flat_map}
use Rattle.plan_terms.specs.Change.{proposals}
use Rattle.plan_terms.specs.Cluster.{Cluster, Lists}
use Rattle.plan_terms.specs.Goal.{measure}
use Rattle.plan_terms.specs.Trace.{after_turns}
use Rattle.goal_set.specs.Kept.{PlanView, FailureView, actions_of, kinds_of}
use Rattle.goal_set.specs.Kinds.{meaning_of, name_of}
use Rattle.goal_set.specs.declared.kinds.GoalKind.{GoalKind}
use Rattle.plan_terms.specs.Bytes.{line_feed, blank}

-- a goal with its measure at the start and at the end, in one line
abbrev pub goal_line : Cluster → Lists → Lists → GoalKind → List ℕ
goal_line c start end g = name_of g ++ blank ∷ decimal (measure (meaning_of g c) start) ++ blank ∷ decimal (measure (meaning_of g c) end) ++ line_feed ∷ []

-- one line for each goal, in order
abbrev pub goal_lines : Cluster → Lists → Lists → List GoalKind → List ℕ
goal_lines c start end goals = flat_map (goal_line c start end) goals

-- the summary of a plan: how many partitions' lists it changes, and each goal
unfoldable pub plan_summary : PlanView → List ℕ
plan_summary p = codes "planned" ++ line_feed ∷ (codes "proposals " ++ decimal (length (proposals p.start p.end)) ++ line_feed ∷ goal_lines p.case p.start p.end (kinds_of p.trace))

-- the summary of a failure: the goal that failed, the last one that had its turn; no proposal; and each goal that had its turn
unfoldable pub failure_summary : GoalKind → FailureView → List ℕ
failure_summary goal f =
    codes "failed " ++ name_of goal ++ line_feed ∷ (codes "proposals 0" ++ line_feed ∷ goal_lines f.case f.start (after_turns (actions_of f.trace) f.start) (kinds_of f.trace))
