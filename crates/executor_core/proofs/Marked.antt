-- What the index of the tasks says of them, and where they change.
use Rattle.std.proofs.Common.{◌≡◌, ℕ, ◌+◌, ◌<◌, ◌≤◌, Bool, true, false, ◌&&◌, cond, List, [], ◌∷◌, map, set, length, get_or, arith, refl, sym, ap, ◌∙◌, zero, suc, count_by, ◌⊎◌, inl, inr}
use Rattle.std.specs.Prelude.{Option, Some, None, Ok, nat_lt}
use Rattle.std.specs.List.{position}
use Rattle.std.proofs.Math.Path.{fun_ext}
use Rattle.std.proofs.lemmas.Bool.{true≢false, false_from_ne_true, lt-ltb, le-ltb, cases_lt}
use Rattle.std.proofs.lemmas.Option.{none-some, same_Some}
use Rattle.std.proofs.lemmas.List.{map-set, length-map, get_or_default, get_or_past}
use Rattle.std.proofs.lemmas.List.Sums.{position_or_len_is}
use Rattle.std.proofs.lemmas.List.Quantifiers.{position-Some}
use Rattle.plan_terms.specs.declared.lists.Proposal.{Proposal}
use Rattle.exec_terms.specs.declared.task.Task.{Task}
use Rattle.exec_terms.specs.declared.phase.Phase.TheVariants.{Aborting}
use Rattle.exec_terms.specs.declared.work.Lease.{Lease}
use Rattle.exec_terms.specs.declared.work.WorkKind.{WorkKind}
use Rattle.exec_terms.specs.declared.work.Work.TheVariants.{Cancel}
use Rattle.exec_terms.specs.declared.replies.Given.{Given}
use Rattle.exec_terms.specs.Words.{is_aborting, is_in_progress, is_free, has_number, holds, holds_for, needs, next_step}
use Rattle.exec_terms.specs.Machine.{State, no_task, task_at, may_start, given, or_start, or_step, or_cancel, next_work, with_lease, task_of}
use Rattle.exec_terms.specs.Leases.{one_failed}
use Rattle.exec_terms.specs.Stops.{killed_by}
use Rattle.exec_terms.specs.Valid.{IsValid}
use Rattle.exec_terms.proofs.WorkLeft.{position-None, same_place, holds_too}
use Rattle.task_index.specs.Leases.{is_number, lease_at, IsNext}
use Rattle.task_index.specs.Index.{Marks, wants_cancel, may_go_on, number_of, number_in, marks_of, no_marks, marked_at}
use Rattle.executor_core.proofs.Fitting.{position-map}

pub marks-set : (tasks : List Task) (i : ℕ) (y : Task) (m m' : Marks) → m ≡ marks_of tasks → m' ≡ marked_at m i y → m' ≡ marks_of (set tasks i y)
marks-set tasks i y m m' was is = is ∙ ap (λ (k : Marks). marked_at k i y) was ∙ same where
  same : marked_at (marks_of tasks) i y ≡ marks_of (set tasks i y)
  same = rw (map-set wants_cancel tasks i y, map-set may_go_on tasks i y, map-set number_in tasks i y) refl

-- nothing is known of new tasks
pub marks-new : (chunks : List ℕ) (ps : List Proposal) → marks_of (map (task_of chunks) ps) ≡ no_marks (length ps)
marks-new chunks [] = refl
marks-new chunks (p ∷ ps) = let more = marks-new chunks ps in record_is (marks_of (map (task_of chunks) ps)) (no_marks (length ps)) more where
  record_is : (m n : Marks) → m ≡ n → ◌≡◌ {A = Marks} (record { to_cancel = false ∷ m.to_cancel; to_go_on = false ∷ m.to_go_on; leases = None ∷ m.leases }) (record { to_cancel = false ∷ n.to_cancel; to_go_on = false ∷ n.to_go_on; leases = None ∷ n.leases })
  record_is m n e = rw e refl

-- the first task that wants its cancel, and the first that may go on
module _ (tasks : List Task) (m : Marks) (is : m ≡ marks_of tasks) where
  pub cancel_is : position (λ up. up) m.to_cancel ≡ position (λ t. is_aborting t.phase && is_free t.lease) tasks
  cancel_is = ap (λ (k : Marks). position (λ up. up) k.to_cancel) is ∙ position-map (λ up. up) wants_cancel tasks

  pub step_is : position (λ up. up) m.to_go_on ≡ position (λ t. is_in_progress t.phase && is_free t.lease) tasks
  step_is = ap (λ (k : Marks). position (λ up. up) k.to_go_on) is ∙ position-map (λ up. up) may_go_on tasks

  pub holder_is : (n : ℕ) → position (is_number n) m.leases ≡ position (holds n) tasks
  holder_is n = ap (λ (k : Marks). position (is_number n) k.leases) is ∙ position-map (is_number n) number_in tasks ∙ ap (λ (p : Task → Bool). position p tasks) (fun_ext (λ (t : Task). by t.lease)) where
    by : (o : Option Lease) → is_number n (number_of o) ≡ has_number n o
    by None = refl
    by (Some l) = refl

-- the task that has a lease for a kind of work is the one that has it, or none
module _ (tasks : List Task) (n : ℕ) (kind : WorkKind) (one : count_by (holds n) tasks ≤ 1) where
  pub for_found : (i : ℕ) (x : Task) → Some i ≡ position (holds n) tasks → x ≡ get_or tasks i x → holds_for n kind x ≡ true → Some i ≡ position (holds_for n kind) tasks
  for_found i x at read is =
      let f = position-Some (holds n) tasks i x (sym at) in
      let before : (k : ℕ) → k < i → holds_for n kind (get_or tasks k x) ≡ false = λ k less. false_from_ne_true _ (λ h. true≢false (sym (holds_too n kind (get_or tasks k x).lease h) ∙ f.2 k less)) in
      let first = position_or_len_is (holds_for n kind) tasks i x (omega (arith, f.0)) before (λ _. ap (holds_for n kind) (sym read) ∙ is) in
      rw (first, lt-ltb _ _ f.0) refl

  none : ((k : ℕ) → k < length tasks → holds_for n kind (task_at tasks k) ≡ false) → None ≡ position (holds_for n kind) tasks
  none h =
      let first = position_or_len_is (holds_for n kind) tasks (length tasks) no_task (omega arith) h (λ l. absurd (omega arith)) in
      rw (first, le-ltb (length tasks) (length tasks) (omega arith)) refl

  pub for_other : (i : ℕ) (x : Task) → Some i ≡ position (holds n) tasks → x ≡ get_or tasks i x → holds_for n kind x ≡ false → None ≡ position (holds_for n kind) tasks
  for_other i x at read is = none (λ k l. false_from_ne_true _ (λ h.
      let f = position-Some (holds n) tasks i x (sym at) in
      let g : get_or tasks k x ≡ task_at tasks k = default k l in
      let here : i ≡ k = same_place (holds n) tasks i k x f.0 l f.1 (rw g (holds_too n kind (task_at tasks k).lease h)) one in
      true≢false (sym h ∙ ap (holds_for n kind) (sym g ∙ ap (λ (j : ℕ). get_or tasks j x) (sym here) ∙ sym read) ∙ is))) where
        default : (k : ℕ) → k < length tasks → get_or tasks k x ≡ task_at tasks k
        default k l = get_or_default tasks k x no_task l

  pub for_none : None ≡ position (holds n) tasks → None ≡ position (holds_for n kind) tasks
  for_none at = none (λ k l. false_from_ne_true _ (λ h. true≢false (sym (holds_too n kind (task_at tasks k).lease h) ∙ position-None (holds n) tasks k no_task (sym at) l)))

-- the leases that are out
lease-is : (tasks : List Task) (j : ℕ) → lease_at (map number_in tasks) j ≡ number_in (task_at tasks j)
lease-is [] j = refl
lease-is (t ∷ ts) zero = refl
lease-is (t ∷ ts) (suc j) = lease-is ts j

numbered : (o : Option Lease) (m : ℕ) → number_of o ≡ Some m → (l : Lease) × (o ≡ Some l) × (l.number ≡ m)
numbered None m e = absurd (none-some m e)
numbered (Some l) m e = (l, refl, same_Some l.number m e)

-- a task whose lease ended has none
pub next_none : (leases : List (Option ℕ)) (i : ℕ) (y : Task) → y.lease ≡ None → (n : ℕ) → number_in y ≡ Some n → IsNext leases i n
next_none leases i y none n is = absurd (none-some n (sym (ap number_of none) ∙ is))

-- the lease that is given has the next number
given_lease : (s : State) (g : Given) → next_work s ≡ Ok g → g.lease ≡ s.leases + 1
unfolding next_work
given_lease s g e = by_cancel (position (λ t. is_aborting t.phase && is_free t.lease) s.tasks) e where
  by_start : (o : Option ℕ) → or_start s o ≡ Ok g → g.lease ≡ s.leases + 1
  by_start None e = cc
  by_start (Some i) e = let same : g ≡ given s i (next_step (task_at s.tasks i)) true = cc in rw same refl

  by_step : (o : Option ℕ) → or_step s o ≡ Ok g → g.lease ≡ s.leases + 1
  by_step None e = by_start (position (may_start s.caps s.tasks) s.tasks) e
  by_step (Some i) e = let same : g ≡ given s i (next_step (task_at s.tasks i)) false = cc in rw same refl

  by_cancel : (o : Option ℕ) → or_cancel s o ≡ Ok g → g.lease ≡ s.leases + 1
  by_cancel None e = by_step (position (λ t. is_in_progress t.phase && is_free t.lease) s.tasks) e
  by_cancel (Some i) e = let same : g ≡ given s i Cancel false = cc in rw same refl

pub next_lent : (s : State) (m : Marks) (g : Given) (x y : Task) → IsValid s → m ≡ marks_of s.tasks → next_work s ≡ Ok g → y ≡ with_lease g.lease g.work x → (n : ℕ) → number_in y ≡ Some n → IsNext m.leases g.task n
next_lent s m g x y v is next lent n named = record { above = λ _ j k out. above j k (sym (lease-is s.tasks j) ∙ ap (λ (ms : Marks). lease_at ms.leases j) (sym is) ∙ out) } where
  number : n ≡ s.leases + 1
  number = same_Some n g.lease (sym named ∙ ap number_in lent) ∙ given_lease s g next

  above : (j k : ℕ) → number_in (task_at s.tasks j) ≡ Some k → k < n
  above j k out = by (cases_lt j (length s.tasks)) where
    by : (j < length s.tasks) ⊎ (length s.tasks ≤ j) → k < n
    by (inl l) =
        let h = numbered (task_at s.tasks j).lease k out in
        omega (arith, number, h.2, ((v.each j no_task l).lease h.0 h.1).given)
    by (inr past) = absurd (none-some k (sym (ap number_in (get_or_past s.tasks j no_task past)) ∙ out))

-- stops and deaths give no lease and end none
pub numbers-same : (f : Task → Task) → ((t : Task) → (f t).lease ≡ t.lease) → (tasks : List Task) → map number_in (map f tasks) ≡ map number_in tasks
numbers-same f h [] = refl
numbers-same f h (t ∷ ts) = rw (h t) (ap (λ (ns : List (Option ℕ)). number_in t ∷ ns) (numbers-same f h ts))

pub killed_lease : (b : ℕ) (t : Task) → (killed_by b t).lease ≡ t.lease
killed_lease b t = by (needs t b) refl where
  by : (c : Bool) → needs t b ≡ c → (killed_by b t).lease ≡ t.lease
  by true e = rw e refl
  by false e = rw e refl

-- the index has a place for each task
pub marks_known : (tasks : List Task) (m : Marks) (i : ℕ) → m ≡ marks_of tasks → i < length tasks → i < length m.leases
marks_known tasks m i is l = omega (arith, ap (λ (k : Marks). length k.leases) is, length-map tasks number_in)

pub failed_lease : (x : Task) → (one_failed x).lease ≡ None
failed_lease x = by (nat_lt (x.faults + 1) 3) where
  by : (c : Bool) → (cond c (record x { faults = x.faults + 1; lease = None }) (record x { faults = x.faults + 1; phase = Aborting; doomed = true; lease = None })).lease ≡ None
  by true = refl
  by false = refl
