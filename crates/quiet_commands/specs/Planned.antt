-- What `plan` makes: the text of a plan or its trace, or the goal that fails.
use Rattle.std.specs.Prelude.{◌≡◌, ℕ, Bool, true, false, List, [], ◌∷◌, ◌++◌, codes, decimal}
use Rattle.serde_json.specs.Data.{string, object, member, no_members}
use Rattle.serde_json.specs.Written.{compact_text}
use Rattle.plan_terms.specs.Change.{proposals}
use Rattle.proposal_set.specs.Text.{reassignment_text}
use Rattle.goal_set.specs.Kept.{PlanView, FailureView, kinds_of}
use Rattle.goal_set.specs.Kinds.{name_of}
use Rattle.goal_set.specs.declared.kinds.GoalKind.{GoalKind}
use Rattle.goal_optimizer.specs.Outcomes.{IsPlanOf, IsFailureOf}
use Rattle.plan_check.specs.Text.{trace_text, trace_view}
use Rattle.quiet_commands.specs.Ends.{goal_line}
use Rattle.quiet_commands.specs.Input.{ClusterLists}
use Rattle.quiet_commands.specs.declared.ends.End.{End}
use Rattle.quiet_commands.specs.declared.ends.End.TheVariants.{Done, GoalFailed}
use Rattle.plan_terms.specs.Bytes.{line_feed}

-- the text of a plan: its proposals; or its trace, where that is asked for
unfoldable pub plan_text : Bool → ClusterLists → PlanView → List ℕ
plan_text true file plan = trace_text (trace_view plan.trace) ++ line_feed ∷ []
plan_text false file plan = reassignment_text file.cluster.parts (proposals file.lists plan.end) ++ line_feed ∷ []

-- the JSON of a goal that failed, with its measure as a text
unfoldable pub failure_json : List ℕ → ℕ → List ℕ
failure_json name left = compact_text (object (member (codes "failed") (string name) (member (codes "measure") (string (decimal left)) no_members)))

-- the text of a failure: the goal and how far it stays broken; or its trace, where that is asked for
unfoldable pub failure_text : Bool → GoalKind → FailureView → List ℕ
failure_text true goal failure = trace_text (trace_view failure.trace) ++ line_feed ∷ []
failure_text false goal failure = failure_json (name_of goal) failure.left ++ line_feed ∷ []

-- the text of a failure, and the line that names its goal: that of its last turn
abbrev pub IsFailed : Bool → FailureView → List ℕ → End → Type 0
IsFailed trace failure text (GoalFailed line) =
    (goal : GoalKind) × (met : List GoalKind) × (kinds_of failure.trace ≡ met ++ goal ∷ []) × (text ≡ failure_text trace goal failure) × (line.items ≡ goal_line goal)
IsFailed trace failure text _ = ⊥

-- the text of a plan for the cluster, the lists and the goals
pub record IsPlanText (trace : Bool) (file : ClusterLists) (goals : List GoalKind) (text : List ℕ) : Type 0 where
  pub plan : PlanView
  pub planned : IsPlanOf file.cluster file.lists goals plan
  pub spelled : text ≡ plan_text trace file plan

-- the text of a failure for them, and its line
pub record IsFailureText (trace : Bool) (file : ClusterLists) (goals : List GoalKind) (text : List ℕ) (end : End) : Type 0 where
  pub failure : FailureView
  pub failed : IsFailureOf file.cluster file.lists goals failure
  pub told : IsFailed trace failure text end

-- what planning makes, and how the run ends
abbrev pub IsPlanned : Bool → ClusterLists → List GoalKind → List ℕ → End → Type 0
IsPlanned trace file goals text Done = IsPlanText trace file goals text
IsPlanned trace file goals text (GoalFailed line) = IsFailureText trace file goals text (GoalFailed line)
IsPlanned trace file goals text _ = ⊥
