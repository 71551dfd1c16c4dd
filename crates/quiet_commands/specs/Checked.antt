-- What `check` makes of the bytes of a trace: that it is good, or its first fault.
use Rattle.std.specs.Prelude.{◌≡◌, ◌⊎◌, ℕ, List, [], ◌∷◌, ◌++◌, Option, Some, None, IfSome, codes, decimal}
use Rattle.goal_set.specs.declared.kinds.GoalKind.{GoalKind}
use Rattle.goal_set.specs.declared.trace.Trace.{Trace}
use Rattle.plan_check.specs.Judged.{Checked, IsGood, IsFirstFault}
use Rattle.plan_check.specs.Meaning.{trace_of}
use Rattle.plan_check.specs.Names.{fault_name}
use Rattle.plan_check.specs.Text.{trace_view}
use Rattle.plan_check.specs.declared.faults.FaultKind.{FaultKind}
use Rattle.quiet_commands.specs.Input.{ClusterLists}
use Rattle.quiet_commands.specs.declared.ends.End.{End}
use Rattle.quiet_commands.specs.declared.ends.End.TheVariants.{Done, TraceRefused}
use Rattle.plan_terms.specs.Bytes.{line_feed, blank}

-- a trace, with what it is checked for
abbrev pub checked : ClusterLists → List GoalKind → Trace → Checked
checked file goals trace = record { case = file.cluster; start = file.lists; goals = goals; trace = trace }

-- the bytes are a good trace
pub record IsGoodTrace (file : ClusterLists) (goals : List GoalKind) (bytes : List ℕ) : Type 0 where
  pub trace : Trace
  pub read : trace_of bytes ≡ Some (trace_view trace)
  pub good : IsGood (checked file goals trace)

-- the bytes are a trace, whose first fault this is
pub record IsFaultyTrace (file : ClusterLists) (goals : List GoalKind) (bytes : List ℕ) (turn action : ℕ) (kind : FaultKind) : Type 0 where
  pub trace : Trace
  pub read : trace_of bytes ≡ Some (trace_view trace)
  pub fault : IsFirstFault (checked file goals trace) turn action kind

-- where the bytes are told, they are a good trace; and the text says so
pub record IsGoodText (told : Option (List ℕ)) (file : ClusterLists) (goals : List GoalKind) (text : List ℕ) : Type 0 where
  pub good : IfSome told (λ bytes. IsGoodTrace file goals bytes)
  pub spelled : text ≡ codes "good" ++ line_feed ∷ []

-- where the bytes are told, they are no trace; and the text says so
pub record IsNoTraceText (told : Option (List ℕ)) (text : List ℕ) : Type 0 where
  pub none : IfSome told (λ bytes. trace_of bytes ≡ None)
  pub spelled : text ≡ codes "fault 0 0 NOT_A_TRACE" ++ line_feed ∷ []

-- the place of a fault, and its name
abbrev pub fault_text : ℕ → ℕ → List ℕ → List ℕ
fault_text turn action name = codes "fault " ++ decimal turn ++ blank ∷ (decimal action ++ blank ∷ name)

-- where the bytes are told, they are a trace that has a fault; and the text says what the first is
pub record IsFaultyText (told : Option (List ℕ)) (file : ClusterLists) (goals : List GoalKind) (text : List ℕ) : Type 0 where
  pub turn : ℕ
  pub action : ℕ
  pub kind : FaultKind
  pub faulty : IfSome told (λ bytes. IsFaultyTrace file goals bytes turn action kind)
  pub spelled : text ≡ fault_text turn action (fault_name kind) ++ line_feed ∷ []

-- where the bytes are told, they are no good trace; and the text says why
pub record IsFaultText (told : Option (List ℕ)) (file : ClusterLists) (goals : List GoalKind) (text : List ℕ) : Type 0 where
  pub bad : IfSome told (λ bytes. IsGoodTrace file goals bytes → ⊥)
  pub why : IsNoTraceText told text ⊎ IsFaultyText told file goals text

-- what checking a trace makes, and how the run ends
abbrev pub IsChecked : Option (List ℕ) → ClusterLists → List GoalKind → List ℕ → End → Type 0
IsChecked told file goals text Done = IsGoodText told file goals text
IsChecked told file goals text TraceRefused = IsFaultText told file goals text
IsChecked told file goals text _ = ⊥
