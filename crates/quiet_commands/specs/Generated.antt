-- What `gen` makes of the cluster that it made from a seed: the summary of a plan or of a failure; or the cluster file itself.
use Rattle.std.specs.Prelude.{◌≡◌, ℕ, Bool, true, false, List, [], ◌∷◌, ◌++◌}
use Rattle.goal_set.specs.Kept.{PlanView, FailureView, kinds_of}
use Rattle.goal_set.specs.declared.kinds.GoalKind.{GoalKind}
use Rattle.goal_optimizer.specs.Outcomes.{IsPlanOf, IsFailureOf}
use Rattle.plan_summary.specs.Summary.{plan_summary, failure_summary}
use Rattle.quiet_commands.specs.Ends.{goal_line}
use Rattle.quiet_commands.specs.Input.{ClusterLists}
use Rattle.quiet_commands.specs.declared.ends.End.{End}
use Rattle.quiet_commands.specs.declared.ends.End.TheVariants.{Done, GoalFailed}
use Rattle.plan_terms.specs.Bytes.{line_feed}

-- the summary of a plan for the cluster, the lists and the goals
pub record IsPlanSummary (file : ClusterLists) (goals : List GoalKind) (text : List ℕ) : Type 0 where
  pub plan : PlanView
  pub planned : IsPlanOf file.cluster file.lists goals plan
  pub spelled : text ≡ plan_summary plan

-- the summary of a failure, and the line that names its goal: that of its last turn
abbrev pub IsSummedUp : FailureView → List ℕ → End → Type 0
IsSummedUp failure text (GoalFailed line) =
    (goal : GoalKind) × (met : List GoalKind) × (kinds_of failure.trace ≡ met ++ goal ∷ []) × (text ≡ failure_summary goal failure) × (line.items ≡ goal_line goal)
IsSummedUp failure text _ = ⊥

-- the summary of a failure for them, and its line
pub record IsFailureSummary (file : ClusterLists) (goals : List GoalKind) (text : List ℕ) (end : End) : Type 0 where
  pub failure : FailureView
  pub failed : IsFailureOf file.cluster file.lists goals failure
  pub told : IsSummedUp failure text end

-- what planning makes, and how the run ends
abbrev pub IsSummary : ClusterLists → List GoalKind → List ℕ → End → Type 0
IsSummary file goals text Done = IsPlanSummary file goals text
IsSummary file goals text (GoalFailed line) = IsFailureSummary file goals text (GoalFailed line)
IsSummary file goals text _ = ⊥

-- the cluster file itself, where it is asked for; else the summary of a plan
abbrev IsDone : Bool → List ℕ → ClusterLists → List GoalKind → List ℕ → Type 0
IsDone true made file goals text = text ≡ made ++ line_feed ∷ []
IsDone false made file goals text = IsSummary file goals text Done

-- what is made of a cluster file that was made from a seed, and how the run ends
abbrev pub IsGenerated : Bool → List ℕ → ClusterLists → List GoalKind → List ℕ → End → Type 0
IsGenerated whole made file goals text Done = IsDone whole made file goals text
IsGenerated whole made file goals text (GoalFailed line) = (whole ≡ false) × IsSummary file goals text (GoalFailed line)
IsGenerated whole made file goals text _ = ⊥
