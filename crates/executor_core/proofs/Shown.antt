-- Lists of partitions are short: at most eight members, and twice as many while a task is in flight.
use Rattle.std.proofs.Common.{◌≡◌, ℕ, ◌<◌, ◌≤◌, Bool, List, length, get_or, not, arith, length-append}
use Rattle.std.specs.List.{All}
use Rattle.std.proofs.lemmas.List.Elements.{All-get_or}
use Rattle.std.proofs.lemmas.List.Sums.{length-filter, count_by-le-length}
use Rattle.plan_terms.specs.Change.{added, union}
use Rattle.plan_terms.specs.Cluster.{Lists, has}
use Rattle.exec_terms.specs.Words.{list_in, list_shown}
use Rattle.exec_terms.specs.Valid.{IsTask}
use Rattle.exec_terms.specs.declared.brokers.Host.{Host}
use Rattle.exec_terms.specs.declared.task.Task.{Task}
use Rattle.exec_terms.specs.declared.phase.Phase.{Phase}
use Rattle.exec_terms.specs.declared.phase.Phase.TheVariants.{Pending, InProgress, Aborting, Aborted, Completed, Dead}

union-few : (before after : List ℕ) → length before ≤ 8 → length after ≤ 8 → length (union before after) ≤ 16
union-few before after b a =
    let adds = λ (x : ℕ). not (has before x) in
    omega (arith, length-append before (added before after), length-filter adds after, count_by-le-length adds after)

list_in-few : (phase : Phase) (before after : List ℕ) → length before ≤ 8 → length after ≤ 8 → length (list_in phase before after) ≤ 16
list_in-few Pending before after b a = omega arith
list_in-few InProgress before after b a = union-few before after b a
list_in-few Aborting before after b a = union-few before after b a
list_in-few Aborted before after b a = omega arith
list_in-few Completed before after b a = omega arith
list_in-few Dead before after b a = omega arith

-- the list of a partition whose task is a valid one
pub list_shown-few : (base : Lists) (hosts : List Host) (stopped : Bool) (leases : ℕ) (tasks : List Task) (i : ℕ) (task : Task) → i < length tasks → task ≡ get_or tasks i task
    → All (IsTask base hosts stopped leases) tasks → length (list_shown task) ≤ 16
list_shown-few base hosts stopped leases tasks i task h is each =
    let valid = rw (← is) at (All-get_or (IsTask base hosts stopped leases) tasks i task h each) in
    list_in-few task.phase task.before task.after valid.before_is.few valid.after_is.few
