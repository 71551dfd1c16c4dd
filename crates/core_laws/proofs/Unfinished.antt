-- No event of the executor but a launch begins a task.
use Rattle.std.proofs.Common.{◌≡◌, Bool, true, false, ◌||◌, List, [], ◌∷◌, arith, refl}
use Rattle.std.specs.List.{sum_by}
use Rattle.std.proofs.lemmas.Bool.{true≢false}
use Rattle.std.proofs.lemmas.List.Sums.{sum_by-cons}
use Rattle.exec_terms.specs.Words.{is_unfinished}
use Rattle.exec_terms.specs.Machine.{State, any_unfinished}
use Rattle.exec_terms.specs.Valid.{IsValid, work_in, work_of_task}
use Rattle.exec_terms.specs.Runs.{Event, IsLaunch, after_event}
use Rattle.exec_terms.specs.declared.phase.Phase.{Phase}
use Rattle.exec_terms.specs.declared.phase.Phase.TheVariants.{Pending, InProgress, Aborting, Aborted, Completed, Dead}
use Rattle.exec_terms.specs.declared.task.Task.{Task}
use Rattle.exec_terms.proofs.WorkLeft.{none_left_is_done}
use Rattle.exec_terms.proofs.Gives.{no_event_raises}

-- a task that has ended has no work left
no_work_in : (p : Phase) (t : Task) → is_unfinished p ≡ false → work_in p t ≡ 0
no_work_in Pending t h = absurd (true≢false h)
no_work_in InProgress t h = absurd (true≢false h)
no_work_in Aborting t h = absurd (true≢false h)
no_work_in Aborted t h = refl
no_work_in Completed t h = refl
no_work_in Dead t h = refl

both_false : (a b : Bool) → (a || b) ≡ false → (a ≡ false) × (b ≡ false)
both_false true b h = absurd (true≢false h)
both_false false b h = (refl, h)

-- where all have, none is left
no_work : (tasks : List Task) → any_unfinished tasks ≡ false → sum_by work_of_task tasks ≡ 0
no_work [] h = refl
no_work (t ∷ ts) h =
    let parts = both_false (is_unfinished t.phase) (any_unfinished ts) h in
    omega (arith, sum_by-cons work_of_task t ts, no_work_in t.phase t parts.0, no_work ts parts.1)

-- so no task is unfinished after the event either
pub calm : (s : State) (e : Event) → (IsLaunch e → ⊥) → IsValid s → any_unfinished s.tasks ≡ false → any_unfinished (after_event s e).tasks ≡ false
calm s e nl v h = none_left_is_done (after_event s e) (omega (arith, no_event_raises s e nl v, no_work s.tasks h))
