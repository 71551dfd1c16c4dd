-- What a call of the executor needs of the model: places in range, and the state afterwards by its fields.
use Rattle.std.proofs.Common.{◌≡◌, ℕ, ◌+◌, ◌^◌, ◌<◌, ◌≤◌, Bool, true, false, not, ◌&&◌, cond, List, length, get_or, set, arith, refl, sym, subst, ◌∙◌}
use Rattle.std.specs.Prelude.{◌==◌, nat_lt, Option, Some, None, Result, Ok, Err}
use Rattle.std.specs.List.{position}
use Rattle.std.proofs.lemmas.Bool.{and_from, eq-eqb, true≢false}
use Rattle.std.proofs.lemmas.List.{get_or_read}
use Rattle.std.proofs.lemmas.List.Quantifiers.{position-Some}
use Rattle.exec_terms.specs.declared.phase.Phase.TheVariants.{InProgress, Aborting}
use Rattle.exec_terms.specs.declared.work.WorkKind.{WorkKind}
use Rattle.exec_terms.specs.declared.work.WorkKind.TheVariants.{Copy as ForCopy}
use Rattle.exec_terms.specs.declared.work.Work.TheVariants.{Cancel}
use Rattle.exec_terms.specs.declared.replies.Given.{Given}
use Rattle.exec_terms.specs.declared.replies.Idle.{Idle}
use Rattle.exec_terms.specs.declared.work.Lease.{Lease}
use Rattle.exec_terms.specs.declared.replies.Left.{Left}
use Rattle.exec_terms.specs.declared.replies.Faults.{Faults}
use Rattle.exec_terms.specs.declared.replies.LeaseFault.{LeaseFault}
use Rattle.exec_terms.specs.declared.replies.LeaseFault.TheVariants.{Stale, AbortAsked}
use Rattle.exec_terms.specs.declared.task.Task.{Task}
use Rattle.exec_terms.specs.Words.{is_in_progress, is_aborting, is_free, is_for, is_cancel, holds, holds_for, copies, copies_left, next_step}
use Rattle.exec_terms.specs.Machine.{State, no_task, task_at, may_start, given, or_start, or_step, or_cancel, next_work, with_lease, with_task, taken}
use Rattle.exec_terms.specs.Leases.{tested, test_lease, released, end_lease, ended, one_copied, one_failed, cancelled, phase_cancelled, held_for, held, reply_by}
use Rattle.exec_terms.specs.Valid.{IsValid}
use Rattle.exec_terms.proofs.Copies.{few_copies}
use Rattle.exec_terms.proofs.WorkLeft.{position-None, same_place, holds_too}
use Rattle.exec_terms.proofs.Events.{holder, in_progress, next_step-copy}

-- the work that is given is of a task of the list
pub given_known : (s : State) (g : Given) → ◌≡◌ {A = Result Given Idle} (Ok g) (next_work s) → g.task < length s.tasks
unfolding next_work
given_known s g e = by_cancel (position (λ t. is_aborting t.phase && is_free t.lease) s.tasks) refl e where
  by_start : (o : Option ℕ) → position (may_start s.caps s.tasks) s.tasks ≡ o → ◌≡◌ {A = Result Given Idle} (Ok g) (or_start s o) → g.task < length s.tasks
  by_start None q e = cc
  by_start (Some i) q e = let same : g ≡ given s i (next_step (task_at s.tasks i)) true = cc in rw same (position-Some (may_start s.caps s.tasks) s.tasks i no_task q).0

  by_step : (o : Option ℕ) → position (λ t. is_in_progress t.phase && is_free t.lease) s.tasks ≡ o → ◌≡◌ {A = Result Given Idle} (Ok g) (or_step s o) → g.task < length s.tasks
  by_step None q e = by_start (position (may_start s.caps s.tasks) s.tasks) refl e
  by_step (Some i) q e = let same : g ≡ given s i (next_step (task_at s.tasks i)) false = cc in rw same (position-Some (λ t. is_in_progress t.phase && is_free t.lease) s.tasks i no_task q).0

  by_cancel : (o : Option ℕ) → position (λ t. is_aborting t.phase && is_free t.lease) s.tasks ≡ o → ◌≡◌ {A = Result Given Idle} (Ok g) (or_cancel s o) → g.task < length s.tasks
  by_cancel None q e = by_step (position (λ t. is_in_progress t.phase && is_free t.lease) s.tasks) refl e
  by_cancel (Some i) q e = let same : g ≡ given s i Cancel false = cc in rw same (position-Some (λ t. is_aborting t.phase && is_free t.lease) s.tasks i no_task q).0

-- the state after a take that gave work
pub taken_is : (s : State) (g : Given) (x y : Task) → ◌≡◌ {A = Result Given Idle} (Ok g) (next_work s)
    → x ≡ get_or s.tasks g.task x → y ≡ with_lease g.lease g.work x
    → record s { tasks = set s.tasks g.task y; leases = g.lease } ≡ taken s (next_work s)
taken_is s g x y e read is =
    let r : x ≡ get_or s.tasks g.task no_task = get_or_read s.tasks g.task x (given_known s g e) read no_task in
    rw (← e, is, r) refl

pub taken_none : (s : State) (r : Idle) → ◌≡◌ {A = Result Given Idle} (Err r) (next_work s) → s ≡ taken s (next_work s)
taken_none s r e = rw (← e) refl

-- a lease that is worth its task: the task is of the list, and it holds the lease for this kind of work
pub record IsWorth (s : State) (lease : ℕ) (kind : WorkKind) (i : ℕ) : Type 0 where
  pub known : i < length s.tasks
  pub held : Lease
  pub holds : (task_at s.tasks i).lease ≡ Some held
  pub for : is_for kind held.work ≡ true
  pub goes_on : (is_aborting (task_at s.tasks i).phase && not (is_cancel kind)) ≡ false

pub worth : (s : State) (lease : ℕ) (kind : WorkKind) (i : ℕ) → ◌≡◌ {A = Result ℕ LeaseFault} (Ok i) (test_lease s lease kind) → IsWorth s lease kind i
unfolding test_lease
worth s lease kind i e = by (position (holds_for lease kind) s.tasks) refl e where
  by : (o : Option ℕ) → position (holds_for lease kind) s.tasks ≡ o → ◌≡◌ {A = Result ℕ LeaseFault} (Ok i) (tested s kind o) → IsWorth s lease kind i
  by None q e = cc
  by (Some j) q e = on (is_aborting (task_at s.tasks j).phase && not (is_cancel kind)) refl e where
    p : (j < length s.tasks) × (holds_for lease kind (task_at s.tasks j) ≡ true) × ((k : ℕ) → k < j → holds_for lease kind (task_at s.tasks k) ≡ false)
    p = position-Some (holds_for lease kind) s.tasks j no_task q

    h : (l : Lease) × ((task_at s.tasks j).lease ≡ Some l) × (is_for kind l.work ≡ true)
    h = holder lease kind (task_at s.tasks j).lease p.1

    on : (c : Bool) → (is_aborting (task_at s.tasks j).phase && not (is_cancel kind)) ≡ c → ◌≡◌ {A = Result ℕ LeaseFault} (Ok i) (cond c (Err AbortAsked) (Ok j)) → IsWorth s lease kind i
    on true a e = cc
    on false a e =
        let same : i ≡ j = cc in
        rw same (record { known = p.0; held = h.0; holds = h.1; for = h.2; goes_on = a })

-- a lease that a task holds for this kind of work, and that isn't to be undone, is worth its task
pub test_is : (s : State) (i : ℕ) (l : Lease) (kind : WorkKind) → IsValid s → i < length s.tasks → (task_at s.tasks i).lease ≡ Some l → is_for kind l.work ≡ true
    → is_aborting (task_at s.tasks i).phase ≡ false → test_lease s l.number kind ≡ Ok i
unfolding test_lease
test_is s i l kind v m e k p = by (position (holds_for l.number kind) s.tasks) refl where
  here : holds_for l.number kind (task_at s.tasks i) ≡ true
  here = rw e (and_from (l.number == l.number) (is_for kind l.work) (eq-eqb l.number l.number refl) k)

  by : (o : Option ℕ) → position (holds_for l.number kind) s.tasks ≡ o → tested s kind o ≡ Ok i
  by None q = absurd (true≢false (sym here ∙ position-None (holds_for l.number kind) s.tasks i no_task q m))
  by (Some j) q =
      let f = position-Some (holds_for l.number kind) s.tasks j no_task q in
      let same : j ≡ i = same_place (holds l.number) s.tasks j i no_task f.0 m (holds_too l.number kind (task_at s.tasks j).lease f.1) (holds_too l.number kind (task_at s.tasks i).lease here) (v.one_holder l.number) in
      rw (same, p) refl

-- the state after an event with such a lease
pub ended_is : (f : Task → Task) (s : State) (lease : ℕ) (kind : WorkKind) (i : ℕ) (x y : Task)
    → ◌≡◌ {A = Result ℕ LeaseFault} (Ok i) (test_lease s lease kind) → x ≡ get_or s.tasks i x → y ≡ f x
    → with_task s i y ≡ ended f s lease (test_lease s lease kind)
ended_is f s lease kind i x y e read is =
    let r : x ≡ get_or s.tasks i no_task = get_or_read s.tasks i x (worth s lease kind i e).known read no_task in
    rw (← e, is, r) refl

pub ended_asked : (f : Task → Task) (s : State) (lease : ℕ) (kind : WorkKind)
    → ◌≡◌ {A = Result ℕ LeaseFault} (Err AbortAsked) (test_lease s lease kind) → end_lease s lease ≡ ended f s lease (test_lease s lease kind)
ended_asked f s lease kind e = rw (← e) refl

pub ended_stale : (f : Task → Task) (s : State) (lease n : ℕ) (kind : WorkKind)
    → ◌≡◌ {A = Result ℕ LeaseFault} (Err (Stale n)) (test_lease s lease kind) → s ≡ ended f s lease (test_lease s lease kind)
ended_stale f s lease n kind e = rw (← e) refl

-- a task whose copy is to end is in progress
pub worth_goes_on : (s : State) (lease : ℕ) (i : ℕ) → IsValid s → ◌≡◌ {A = Result ℕ LeaseFault} (Ok i) (test_lease s lease ForCopy)
    → ((task_at s.tasks i).phase ≡ InProgress) × ((task_at s.tasks i).done < length (copies (task_at s.tasks i)))
worth_goes_on s lease i v e =
    let w = worth s lease ForCopy i e in
    let t = v.each i no_task w.known in
    let l = t.lease w.held w.holds in
    let p : (task_at s.tasks i).phase ≡ InProgress = in_progress (task_at s.tasks i).phase l.flies w.goes_on in
    (p, next_step-copy (task_at s.tasks i) (rw (l.next p) at w.for))

pub IsValid-same : (s s' : State) → s ≡ s' → IsValid s' → IsValid s
IsValid-same s s' e h = let P : State → Type 0 = IsValid in subst P (sym e) h

-- the state after a lease ended
pub end_lease_is : (s : State) (lease : ℕ) (tasks : List Task) (i : ℕ) (x y : Task) → tasks ≡ s.tasks → Some i ≡ position (holds lease) tasks
    → x ≡ get_or s.tasks i x → y ≡ released x → with_task s i y ≡ end_lease s lease
unfolding end_lease
end_lease_is s lease tasks i x y same at read is =
    let e : position (holds lease) s.tasks ≡ Some i = sym (rw same at at) in
    let r : x ≡ get_or s.tasks i no_task = get_or_read s.tasks i x (position-Some (holds lease) s.tasks i no_task e).0 read no_task in
    rw (e, is, r) refl

pub end_lease_none : (s : State) (lease : ℕ) (tasks : List Task) → tasks ≡ s.tasks → None ≡ position (holds lease) tasks → s ≡ end_lease s lease
unfolding end_lease
end_lease_none s lease tasks same none =
    let e : position (holds lease) s.tasks ≡ None = sym (rw same at none) in
    rw e refl

-- the reply of an event whose lease is worth its task
pub reply_is : {R : Type 0} (f : Task → R) (s : State) (lease : ℕ) (kind : WorkKind) (i : ℕ) (x : Task) (r : R)
    → ◌≡◌ {A = Result ℕ LeaseFault} (Ok i) (test_lease s lease kind) → x ≡ get_or s.tasks i x → r ≡ f x
    → ◌≡◌ {A = Result R LeaseFault} (Ok r) (reply_by f s (test_lease s lease kind))
reply_is f s lease kind i x r e read is =
    let q : x ≡ get_or s.tasks i no_task = get_or_read s.tasks i x (worth s lease kind i e).known read no_task in
    rw (← e, is, q) refl

-- what is known of a task one of whose copies ends
pub record CopyEnds (x : Task) : Type 0 where
  pub short : length x.after ≤ 8
  pub few_chunks : x.chunks ≤ 1000
  pub room : x.done + 1 < 2 ^ 32
  pub left : x.done + 1 ≤ length (copies x)
  pub faults : x.faults + 1 < 2 ^ 32

pub copy_ends : (s : State) (lease i : ℕ) (x : Task) → IsValid s → ◌≡◌ {A = Result ℕ LeaseFault} (Ok i) (test_lease s lease ForCopy)
    → x ≡ get_or s.tasks i x → CopyEnds x
copy_ends s lease i x v e read =
    let k = (worth s lease ForCopy i e).known in
    let q : x ≡ get_or s.tasks i no_task = get_or_read s.tasks i x k read no_task in
    let t = v.each i no_task k in
    let g = worth_goes_on s lease i v e in
    rw q (record {
      short = t.after_is.few;
      few_chunks = t.few_chunks;
      room = omega (arith, g.1, few_copies (task_at s.tasks i) t.after_is.few t.few_chunks);
      left = omega (arith, g.1);
      faults = omega (arith, t.faults g.0);
    })

pub left_is : (x y : Task) (n : ℕ) → y ≡ one_copied x → n ≡ copies_left y → ◌≡◌ {A = Left} (record { 0 = n }) (record { 0 = copies_left (one_copied x) })
left_is x y n e h = rw (h, e) refl

pub faults_is : (x y : Task) → y ≡ one_failed x → ◌≡◌ {A = Faults} (record { 0 = y.faults }) (record { 0 = x.faults + 1 })
faults_is x y e = rw (e, one_failed-faults x) refl where
  one_failed-faults : (x : Task) → (one_failed x).faults ≡ x.faults + 1
  one_failed-faults x = by (nat_lt (x.faults + 1) 3) where
    by : (c : Bool) → (cond c (record x { faults = x.faults + 1; lease = None }) (record x { faults = x.faults + 1; phase = Aborting; doomed = true; lease = None })).faults ≡ x.faults + 1
    by true = refl
    by false = refl

pub phase_is : (x y : Task) → y ≡ cancelled x → y.phase ≡ phase_cancelled x
phase_is x y e = rw e refl

-- the state after a lease was given back, and what a task that holds a lease holds it for
pub held_is : (s : State) (lease : ℕ) (tasks : List Task) (i : ℕ) (x : Task) → tasks ≡ s.tasks → Some i ≡ position (holds lease) tasks
    → x ≡ get_or tasks i x → held_for i x ≡ held s lease
held_is s lease tasks i x same at read =
    let e : position (holds lease) s.tasks ≡ Some i = sym (rw same at at) in
    let r : x ≡ get_or tasks i no_task = get_or_read tasks i x (position-Some (holds lease) tasks i no_task (sym at)).0 read no_task in
    rw (e, r, same) refl
