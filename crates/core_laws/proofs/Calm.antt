-- An execution that nobody stops, and in which no copy fails: each of its tasks goes on or has its new list.
use Rattle.std.proofs.Common.{◌≡◌, ℕ, ◌<◌, Bool, true, false, ◌||◌, List, [], ◌∷◌, map, set, length, get_or, refl, sym, ap, ◌∙◌, inl, inr}
use Rattle.std.specs.Prelude.{◌==◌, IsTrue, Option, Some, None, Result, Ok, Err}
use Rattle.std.specs.List.{All, list_all, position}
use Rattle.std.proofs.lemmas.Bool.{cases_lt, false≢true, true≢false, eqb-true, and_from}
use Rattle.std.proofs.lemmas.List.{ext_get_or, get_or-map, length-map, set_past}
use Rattle.std.proofs.lemmas.List.Elements.{All-head, All-map, All-set, All-tail}
use Rattle.std.proofs.lemmas.List.Quantifiers.{position-Some}
use Rattle.std.proofs.Math.Seq.{map-set_same}
use Rattle.plan_terms.specs.Cluster.{Lists, list_of}
use Rattle.plan_terms.specs.Change.{proposals}
use Rattle.plan_terms.specs.declared.lists.Proposal.{Proposal}
use Rattle.exec_terms.specs.Words.{in_flight, is_unfinished, is_completed, goes_on, is_on, holds}
use Rattle.exec_terms.specs.Machine.{State, no_task, task_at, list_by, list_now, lists_now, next_work, started, with_lease, taken, after_take, any_unfinished, first_unfinished, task_of, launched, after_launch}
use Rattle.exec_terms.specs.Leases.{test_lease, released, ended_at, end_lease, ended, one_copied, committed, cancelled, after_copied, after_commit, after_cancel}
use Rattle.exec_terms.specs.Settled.{settled, settled_by, settled_lists}
use Rattle.exec_terms.specs.Valid.{IsValid}
use Rattle.exec_terms.specs.declared.brokers.Host.{Host}
use Rattle.exec_terms.specs.declared.phase.Phase.{Phase}
use Rattle.exec_terms.specs.declared.phase.Phase.TheVariants.{Pending, InProgress, Aborting, Aborted, Completed, Dead}
use Rattle.exec_terms.specs.declared.replies.Given.{Given}
use Rattle.exec_terms.specs.declared.replies.Idle.{Idle}
use Rattle.exec_terms.specs.declared.replies.LeaseFault.{LeaseFault}
use Rattle.exec_terms.specs.declared.replies.LeaseFault.TheVariants.{Stale, AbortAsked}
use Rattle.exec_terms.specs.declared.task.Task.{Task}
use Rattle.exec_terms.specs.declared.work.WorkKind.{WorkKind}
use Rattle.exec_terms.specs.declared.work.WorkKind.TheVariants.{Copy as ForCopy, Commit as ForCommit, Cancel as ForCancel}
use Rattle.exec_terms.proofs.Calls.{worth}
use Rattle.exec_terms.proofs.Events.{next_step-no_cancel}
use Rattle.exec_terms.proofs.Gives.{none_any}
use Rattle.exec_terms.proofs.Launch.{length-each_below, get_or-each_below}
use Rattle.exec_terms.proofs.WorkLeft.{position-None}
use Rattle.exec_terms.proofs.Changes.{all_lead, unchanged}

-- the proposal that a task was made of
abbrev pub proposal_of : Task → Proposal
proposal_of t = record { part = t.part; before = t.before; after = t.after }

-- the task goes on, or has its new list
abbrev pub IsOn : Task → Type 0
IsOn t = (goes_on t.phase || is_completed t.phase) ≡ true

-- an execution of these proposals on these lists, on these brokers
pub record IsCalm (lists : Lists) (hosts : List Host) (ps : List Proposal) (s : State) : Type 0 where
  pub base_is : s.base ≡ lists
  pub hosts_are : s.hosts ≡ hosts
  pub tasks_are : map proposal_of s.tasks ≡ ps
  pub on : All IsOn s.tasks

all_on : (tasks : List Task) (i : ℕ) (u : Task) → (i < length tasks → IsOn u) → All IsOn tasks → All IsOn (set tasks i u)
all_on tasks i u ok h = elim (cases_lt i (length tasks)) as (λ _. All IsOn (set tasks i u)) [
  | inl l ↦ All-set IsOn tasks i u (ok l) h
  | inr g ↦ rw (set_past tasks i u g) h
]

started_on : (p : Phase) → (goes_on p || is_completed p) ≡ true → (goes_on (started p) || is_completed (started p)) ≡ true
started_on Pending h = refl
started_on InProgress h = refl
started_on Aborting h = h
started_on Aborted h = h
started_on Completed h = h
started_on Dead h = h

in_progress : (p : Phase) → (goes_on p || is_completed p) ≡ true → IsTrue (in_flight p) → p ≡ InProgress
in_progress Pending h f = absurd (false≢true f)
in_progress InProgress h f = refl
in_progress Aborting h f = absurd (false≢true h)
in_progress Aborted h f = absurd (false≢true h)
in_progress Completed h f = absurd (false≢true f)
in_progress Dead h f = absurd (false≢true h)

module _ (lists : Lists) (hosts : List Host) (ps : List Proposal) where
  -- one task changes, and stays on its way
  calm_task : (s : State) (i : ℕ) (u : Task) (n : ℕ) → proposal_of u ≡ proposal_of (task_at s.tasks i) → (i < length s.tasks → IsOn u)
      → IsCalm lists hosts ps s → IsCalm lists hosts ps (record s { tasks = set s.tasks i u; leases = n })
  calm_task s i u n same ok c = record {
    base_is = c.base_is;
    hosts_are = c.hosts_are;
    tasks_are = map-set_same proposal_of s.tasks i u no_task same ∙ c.tasks_are;
    on = all_on s.tasks i u ok c.on;
  }

  pub calm_take : (s : State) → IsCalm lists hosts ps s → IsCalm lists hosts ps (after_take s)
  calm_take s c = by (next_work s) where
    by : (r : Result Given Idle) → IsCalm lists hosts ps (taken s r)
    by (Err why) = c
    by (Ok g) = calm_task s g.task (with_lease g.lease g.work (task_at s.tasks g.task)) g.lease refl (λ l. started_on (task_at s.tasks g.task).phase (c.on g.task no_task l)) c

  pub calm_release : (s : State) (lease : ℕ) → IsCalm lists hosts ps s → IsCalm lists hosts ps (end_lease s lease)
  unfolding end_lease
  calm_release s lease c = by (position (holds lease) s.tasks) where
    by : (o : Option ℕ) → IsCalm lists hosts ps (ended_at s o)
    by None = c
    by (Some i) = calm_task s i (released (task_at s.tasks i)) s.leases refl (λ l. c.on i no_task l) c

  -- an event with a lease, by what it does to the task that holds the lease
  calm_ended : (f : Task → Task) (kind : WorkKind) (s : State) (lease : ℕ) → ((t : Task) → proposal_of (f t) ≡ proposal_of t)
      → ((i : ℕ) → ◌≡◌ {A = Result ℕ LeaseFault} (Ok i) (test_lease s lease kind) → IsOn (f (task_at s.tasks i)))
      → IsCalm lists hosts ps s → IsCalm lists hosts ps (ended f s lease (test_lease s lease kind))
  calm_ended f kind s lease same ok c = by (test_lease s lease kind) refl where
    by : (r : Result ℕ LeaseFault) → r ≡ test_lease s lease kind → IsCalm lists hosts ps (ended f s lease r)
    by (Ok i) e = calm_task s i (f (task_at s.tasks i)) s.leases (same (task_at s.tasks i)) (λ l. ok i e) c
    by (Err AbortAsked) e = calm_release s lease c
    by (Err (Stale n)) e = c

  pub calm_copied : (s : State) (lease : ℕ) → IsCalm lists hosts ps s → IsCalm lists hosts ps (after_copied s lease)
  calm_copied s lease c = calm_ended one_copied ForCopy s lease (λ t. refl) (λ i e. c.on i no_task (worth s lease ForCopy i e).known) c

  pub calm_commit : (s : State) (lease : ℕ) → IsCalm lists hosts ps s → IsCalm lists hosts ps (after_commit s lease)
  calm_commit s lease c = calm_ended committed ForCommit s lease (λ t. refl) (λ i e. refl) c

  -- a task in progress has no lease for a cancel
  pub calm_cancel : (s : State) (lease : ℕ) → IsValid s → IsCalm lists hosts ps s → IsCalm lists hosts ps (after_cancel s lease)
  calm_cancel s lease v c = calm_ended cancelled ForCancel s lease (λ t. refl) (λ i e.
      let w = worth s lease ForCancel i e in
      let l = (v.each i no_task w.known).lease w.held w.holds in
      let next = l.next (in_progress (task_at s.tasks i).phase (c.on i no_task w.known) l.flies) in
      absurd (true≢false (sym (rw next at w.for) ∙ next_step-no_cancel (task_at s.tasks i)))) c

-- without tasks
none_of : (tasks : List Task) → map proposal_of tasks ≡ [] → tasks ≡ []
none_of [] e = refl
none_of (t ∷ ts) e = cc

no_tasks : (lists : Lists) (hosts : List Host) (s : State) → IsCalm lists hosts [] s → s.tasks ≡ []
no_tasks lists hosts s c = none_of s.tasks c.tasks_are

base_now : (s : State) → s.tasks ≡ [] → lists_now s ≡ s.base
base_now s none = ext_get_or [] (lists_now s) s.base (length-each_below (list_now s) (length s.base)) (λ k l.
    let m : k < length s.base = rw (length-each_below (list_now s) (length s.base)) at l in
    get_or-each_below (list_now s) (length s.base) k [] m ∙ ap (λ (ts : List Task). list_by s k (position (is_on k) ts)) none)

base_settled : (s : State) → s.tasks ≡ [] → settled_lists s ≡ s.base
base_settled s none = ext_get_or [] (settled_lists s) s.base (length-each_below (settled s) (length s.base)) (λ k l.
    let m : k < length s.base = rw (length-each_below (settled s) (length s.base)) at l in
    get_or-each_below (settled s) (length s.base) k [] m ∙ ap (λ (ts : List Task). settled_by s k (position (is_on k) ts)) none)

pub lists_kept : (lists : Lists) (hosts : List Host) (s : State) → IsCalm lists hosts [] s → lists_now s ≡ lists
lists_kept lists hosts s c = base_now s (no_tasks lists hosts s c) ∙ c.base_is

pub lists_settled : (lists : Lists) (hosts : List Host) (s : State) → IsCalm lists hosts [] s → settled_lists s ≡ lists
lists_settled lists hosts s c = base_settled s (no_tasks lists hosts s c) ∙ c.base_is

-- a launch
made_of : (chunks : List ℕ) (ps : List Proposal) → map proposal_of (map (task_of chunks) ps) ≡ ps
made_of chunks [] = refl
made_of chunks (p ∷ ps) = ap (λ (qs : List Proposal). p ∷ qs) (made_of chunks ps)

pub calm_begun : (s : State) (ps : List Proposal) → IsCalm (lists_now s) s.hosts ps (launched s ps None)
calm_begun s ps = record { base_is = refl; hosts_are = refl; tasks_are = made_of s.chunks ps; on = All-map IsOn (task_of s.chunks) ps (λ k d l. refl) }

pub calm_launch : (lists : Lists) (hosts : List Host) (ps : List Proposal) (s : State) → IsCalm lists hosts [] s → IsCalm lists hosts ps (after_launch s ps)
calm_launch lists hosts ps s c = rw first made where
  first : first_unfinished s ≡ None
  first = ap (λ (ts : List Task). position (λ t. is_unfinished t.phase) ts) (no_tasks lists hosts s c)

  made : IsCalm lists hosts ps (launched s ps None)
  made = let b = calm_begun s ps in record { base_is = lists_kept lists hosts s c; hosts_are = c.hosts_are; tasks_are = b.tasks_are; on = b.on }

-- where no task is unfinished, each has its new list
completed_is : (p : Phase) → (goes_on p || is_completed p) ≡ true → is_unfinished p ≡ false → p ≡ Completed
completed_is Pending h n = absurd (true≢false n)
completed_is InProgress h n = absurd (true≢false n)
completed_is Aborting h n = absurd (true≢false n)
completed_is Aborted h n = absurd (false≢true h)
completed_is Completed h n = refl
completed_is Dead h n = absurd (false≢true h)

each_completed : (tasks : List Task) → All IsOn tasks → any_unfinished tasks ≡ false → All (λ t. t.phase ≡ Completed) tasks
each_completed tasks h none = λ k d l. completed_is (get_or tasks k d).phase (h k d l) (none_any (λ t. is_unfinished t.phase) tasks none k d l)

all_hold : {X : Type 0} (p : X → Bool) (xs : List X) → All (λ x. p x ≡ true) xs → list_all p xs ≡ true
all_hold p [] h = refl
all_hold p (x ∷ xs) h = and_from (p x) (list_all p xs) (All-head (λ y. p y ≡ true) x xs h) (all_hold p xs (All-tail (λ y. p y ≡ true) x xs h))

pub all_completed : (tasks : List Task) → All IsOn tasks → any_unfinished tasks ≡ false → list_all (λ t. is_completed t.phase) tasks ≡ true
all_completed tasks h none = all_hold (λ t. is_completed t.phase) tasks (λ k d l. rw (each_completed tasks h none k d l) refl)

no_change : Proposal
no_change = record { part = 0; before = []; after = [] }

module _ (before after : Lists) (same : length before ≡ length after) (hosts : List Host) (s : State) (c : IsCalm before hosts (proposals before after) s) (none : any_unfinished s.tasks ≡ false) where
  list_is : (p : ℕ) → p < length before → list_now s p ≡ list_of after p
  list_is p l = by (position (is_on p) s.tasks) refl where
    by : (o : Option ℕ) → position (is_on p) s.tasks ≡ o → list_by s p o ≡ list_of after p
    by None e =
        let off : All (λ q. (q.part == p) ≡ false) (map proposal_of s.tasks) = All-map (λ q. (q.part == p) ≡ false) proposal_of s.tasks (λ k d m. position-None (is_on p) s.tasks k d e m) in
        rw c.base_is (unchanged before after p l (rw c.tasks_are at off))
    by (Some i) e =
        let f = position-Some (is_on p) s.tasks i no_task e in
        let all : All (λ q. q.after ≡ list_of after q.part) (map proposal_of s.tasks) = rw c.tasks_are (all_lead before after) in
        let m : i < length (map proposal_of s.tasks) = rw length-map f.0 in
        let read : get_or (map proposal_of s.tasks) i no_change ≡ proposal_of (task_at s.tasks i) = get_or-map proposal_of s.tasks i no_task no_change f.0 in
        let leads : (task_at s.tasks i).after ≡ list_of after (task_at s.tasks i).part = rw read at (all i no_change m) in
        let here : (task_at s.tasks i).part ≡ p = eqb-true (task_at s.tasks i).part p f.1 in
        rw (each_completed s.tasks c.on none i no_task f.0) (leads ∙ ap (λ (n : ℕ). list_of after n) here)

  pub lists_carried : lists_now s ≡ after
  lists_carried = ext_get_or [] (lists_now s) after (rw (length-each_below (list_now s) (length s.base), c.base_is) same) (λ k l.
      let m : k < length s.base = rw (length-each_below (list_now s) (length s.base)) at l in
      get_or-each_below (list_now s) (length s.base) k [] m ∙ list_is k (rw c.base_is at m))
