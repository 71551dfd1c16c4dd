-- What a planner is given.
use Rattle.std.specs.Prelude.{List}
use Rattle.plan_terms.specs.Cluster.{Cluster, Lists}
use Rattle.goal_set.specs.declared.kinds.GoalKind.{GoalKind}

-- the cluster of the request, the lists to begin with, and the goals in the order of their turns
pub record ProblemView : Type 0 where
  pub case : Cluster
  pub start : Lists
  pub goals : List GoalKind
