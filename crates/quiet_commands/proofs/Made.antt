-- What the commands make of a plan, a failure and a trace.
use Rattle.std.proofs.Common.{◌≡◌, inl, inr, ℕ, List, false, Bool, refl}
use Rattle.std.specs.Prelude.{Option, Some, None, Result, Ok, Err, IfOk, IfSome}
use Rattle.goal_set.specs.Kept.{FailureView}
use Rattle.goal_set.specs.declared.kinds.GoalKind.{GoalKind}
use Rattle.goal_optimizer.specs.Outcomes.{IsFailureOf}
use Rattle.quiet_commands.specs.Checked.{IsChecked}
use Rattle.quiet_commands.specs.Generated.{IsGenerated, IsSummary, IsSummedUp}
use Rattle.quiet_commands.specs.Input.{ClusterLists}
use Rattle.quiet_commands.specs.Planned.{IsFailed, IsPlanned}
use Rattle.quiet_commands.specs.declared.answers.Answer.{Answer}
use Rattle.quiet_commands.specs.declared.ends.End.{End}
use Rattle.quiet_commands.specs.declared.ends.End.TheVariants as end

module _ (file : ClusterLists) (goals : List GoalKind) where
  module _ (failure : FailureView) (is : IsFailureOf file.cluster file.lists goals failure) where
    failed_one : (trace : Bool) (text : List ℕ) (e : End) → IsFailed trace failure text e → IsPlanned trace file goals text e
    failed_one trace text (end.GoalFailed line) h = record { failure = failure; failed = is; told = h }
    failed_one trace text _ h = absurd h

    pub failed : {E : Type 0} (trace : Bool) (r : Result Answer E) → IfOk r (λ a. IsFailed trace failure a.text.items a.end) → IfOk r (λ a. IsPlanned trace file goals a.text.items a.end)
    failed trace (Ok a) h = failed_one trace a.text.items a.end h
    failed trace (Err e) h = h

    summed_one : (text : List ℕ) (e : End) → IsSummedUp failure text e → IsSummary file goals text e
    summed_one text (end.GoalFailed line) h = record { failure = failure; failed = is; told = h }
    summed_one text _ h = absurd h

    pub summed : {E : Type 0} (r : Result Answer E) → IfOk r (λ a. IsSummedUp failure a.text.items a.end) → IfOk r (λ a. IsSummary file goals a.text.items a.end)
    summed (Ok a) h = summed_one a.text.items a.end h
    summed (Err e) h = h

  -- a summary is what `gen` makes where its cluster file isn't asked for
  generated_one : (made text : List ℕ) (e : End) → IsSummary file goals text e → IsGenerated false made file goals text e
  generated_one made text end.Done h = h
  generated_one made text (end.GoalFailed line) h = (refl, h)
  generated_one made text _ h = absurd h

  pub summary_made : {E : Type 0} (made : List ℕ) (r : Result Answer E) → IfOk r (λ a. IsSummary file goals a.text.items a.end)
      → IfOk r (λ a. IsGenerated false made file goals a.text.items a.end)
  summary_made made (Ok a) h = generated_one made a.text.items a.end h
  summary_made made (Err e) h = h

  -- what holds of the bytes that were loaded holds of those that are told
  check_told_one : (told : Option (List ℕ)) (bytes text : List ℕ) (e : End) → IfSome told (λ t. bytes ≡ t) → IsChecked (Some bytes) file goals text e → IsChecked told file goals text e
  check_told_one None bytes text end.Done same h = record { good = tt; spelled = h.spelled }
  check_told_one (Some t) bytes text end.Done same h = rw same at h
  check_told_one None bytes text end.TraceRefused same h = record {
    bad = tt;
    why = elim h.why [ inl none ↦ inl (record { none = tt; spelled = none.spelled }) | inr some ↦ inr (record { turn = some.turn; action = some.action; kind = some.kind; faulty = tt; spelled = some.spelled }) ];
  }
  check_told_one (Some t) bytes text end.TraceRefused same h = rw same at h
  check_told_one told bytes text _ same h = absurd h

  pub check_view : (told : Option (List ℕ)) (bytes : List ℕ) (a : Answer) → IfSome told (λ t. bytes ≡ t) → IsChecked (Some bytes) file goals a.text.items a.end → IsChecked told file goals a.text.items a.end
  check_view told bytes a same h = check_told_one told bytes a.text.items a.end same h
