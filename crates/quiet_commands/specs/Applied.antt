-- What `apply` makes: the lists that a request leaves which was carried out, or the goal that fails.
use Rattle.std.specs.Prelude.{◌≡◌, ℕ, false, List, [], ◌∷◌, ◌++◌}
use Rattle.cluster_gate.specs.declared.memory.MemoryCluster.{MemoryCluster}
use Rattle.cluster_json.specs.File.{Meaning}
use Rattle.control_core.specs.Books.{BookView, state_of}
use Rattle.core_terms.specs.Asked.{goals_of}
use Rattle.exec_terms.specs.Machine.{lists_now}
use Rattle.goal_optimizer.specs.Outcomes.{IsPlanOf}
use Rattle.goal_set.specs.Kept.{PlanView}
use Rattle.proposal_set.specs.Text.{assignment_text}
use Rattle.request_runs.specs.Runs.{IsRun, without_share}
use Rattle.user_tasks.specs.Asks.{AskView}
use Rattle.quiet_commands.specs.Input.{planned_for}
use Rattle.quiet_commands.specs.Planned.{IsFailureText}
use Rattle.quiet_commands.specs.declared.ends.End.{End}
use Rattle.quiet_commands.specs.declared.ends.End.TheVariants.{Done, GoalFailed}
use Rattle.plan_terms.specs.Bytes.{line_feed}

-- the text of all lists behind the journal of a book that carried the request out, which are those of a plan's end
pub record IsAppliedText (m : Meaning) (ask : AskView) (text : List ℕ) : Type 0 where
  pub book : BookView MemoryCluster
  pub run : IsRun (without_share m) ask book
  pub plan : PlanView
  pub planned : IsPlanOf (planned_for ask m).cluster m.lists (goals_of ask) plan
  pub carried : lists_now (state_of book).desk.exec ≡ plan.end
  pub spelled : text ≡ assignment_text (planned_for ask m).cluster.parts plan.end ++ line_feed ∷ []

-- the text of the goal that failed it, behind the journal of such a book, which left the lists as they were
pub record IsGivenUpText (m : Meaning) (ask : AskView) (text : List ℕ) (end : End) : Type 0 where
  pub book : BookView MemoryCluster
  pub run : IsRun (without_share m) ask book
  pub failed : IsFailureText false (planned_for ask m) (goals_of ask) text end
  pub kept : lists_now (state_of book).desk.exec ≡ m.lists

-- what carrying a request out makes, and how the run ends
abbrev pub IsApplied : Meaning → AskView → List ℕ → End → Type 0
IsApplied m ask text Done = IsAppliedText m ask text
IsApplied m ask text (GoalFailed line) = IsGivenUpText m ask text (GoalFailed line)
IsApplied m ask text _ = ⊥
