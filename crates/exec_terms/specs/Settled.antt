-- The settled list of a partition: its list, with the old one while its task has not come to the new one.
use Rattle.std.specs.Prelude.{ℕ, List, ◌∷◌, [], length, Option, Some, None}
use Rattle.std.specs.List.{position}
use Rattle.plan_terms.specs.Cluster.{Lists, list_of}
use Rattle.plan_terms.specs.Legal.{each_below}
use Rattle.exec_terms.specs.Words.{is_on}
use Rattle.exec_terms.specs.Machine.{State, task_at}
use Rattle.exec_terms.specs.declared.phase.Phase.{Phase}
use Rattle.exec_terms.specs.declared.phase.Phase.TheVariants.{Pending, InProgress, Aborting, Aborted, Completed, Dead}

-- the settled list of a task's partition, by its phase
abbrev pub settled_in : Phase → List ℕ → List ℕ → List ℕ
settled_in Pending before after = before
settled_in InProgress before after = before
settled_in Aborting before after = before
settled_in Aborted before after = before
settled_in Completed before after = after
settled_in Dead before after = before

-- the settled list of partition p, by the place of its task
abbrev pub settled_by : State → ℕ → Option ℕ → List ℕ
settled_by s p None = list_of s.base p
settled_by s p (Some i) = settled_in (task_at s.tasks i).phase (task_at s.tasks i).before (task_at s.tasks i).after

-- the settled list of partition p
abbrev pub settled : State → ℕ → List ℕ
settled s p = settled_by s p (position (is_on p) s.tasks)

-- the settled lists of all partitions
abbrev pub settled_lists : State → Lists
settled_lists s = each_below (λ p. settled s p ∷ []) (length s.base)
