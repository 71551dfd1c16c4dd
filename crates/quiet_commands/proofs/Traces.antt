-- Two traces that tell the same are both good or neither.
use Rattle.std.proofs.Common.{◌≡◌, inl, inr, ℕ, List, ap, sym, ◌∙◌}
use Rattle.std.specs.Prelude.{Option, Some, unwrap_or}
use Rattle.goal_set.specs.declared.kinds.GoalKind.{GoalKind}
use Rattle.goal_set.specs.declared.trace.Trace.{Trace}
use Rattle.plan_check.specs.Judged.{IsGood}
use Rattle.plan_check.specs.Meaning.{trace_of}
use Rattle.plan_check.specs.Text.{TraceView, trace_view}
use Rattle.quiet_commands.specs.Checked.{IsGoodTrace, checked}
use Rattle.quiet_commands.specs.Input.{ClusterLists}

module _ (file : ClusterLists) (goals : List GoalKind) where
  good-same : (t u : Trace) → trace_view t ≡ trace_view u → IsGood (checked file goals t) → IsGood (checked file goals u)
  good-same t u same (inl p) =
      let turns = ap (λ (v : TraceView). v.turns) same in
      let planned = ap (λ (v : TraceView). v.planned) same in
      inl (record {
        planned_is = rw planned at p.planned_is;
        in_order = rw turns at p.in_order;
        planned = rw turns at p.planned;
        end_is = rw turns at p.end_is;
        start_belongs = p.start_belongs;
        end_belongs = rw turns at p.end_belongs;
      })
  good-same t u same (inr (left, f)) =
      let turns = ap (λ (v : TraceView). v.turns) same in
      let planned = ap (λ (v : TraceView). v.planned) same in
      inr (
        left,
        record {
          unplanned = rw planned at f.unplanned;
          untried = f.untried;
          in_order = rw turns at f.in_order;
          place = f.place;
          place_is = rw turns at f.place_is;
          failed = rw turns at f.failed;
          start_belongs = f.start_belongs;
        },
      )

  -- bytes are one trace, so where that isn't good, they are no good trace
  pub bad-other : (bytes : List ℕ) (t : Trace) → trace_of bytes ≡ Some (trace_view t) → (IsGood (checked file goals t) → ⊥) → IsGoodTrace file goals bytes → ⊥
  bad-other bytes t read bad h = bad (good-same h.trace t (ap (λ (o : Option TraceView). unwrap_or o (trace_view t)) (sym h.read ∙ read)) h.good)
