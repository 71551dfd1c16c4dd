-- Each event leaves a valid state valid.
use Rattle.std.proofs.Common.{◌≡◌, ℕ, ◌<◌, ◌≤◌, Bool, true, false, not, ◌&&◌, cond, inl, inr, List, [], ◌∷◌, map, length, refl, sym, ◌∙◌, zero, suc}
use Rattle.std.specs.Prelude.{◌==◌, Option, Some, None, slice_get, Ok, Err}
use Rattle.std.specs.List.{All, position}
use Rattle.std.proofs.lemmas.Bool.{cases_lt, and_parts, false≢true, true≢false, false_from_ne_true}
use Rattle.std.proofs.lemmas.Option.{slice_get_within, slice_get-get_or, none-some, get_or_from_slice_get}
use Rattle.std.proofs.lemmas.List.Elements.{All-append, All-get_or, All-nil, All-push}
use Rattle.std.proofs.lemmas.List.Quantifiers.{position-Some}
use Rattle.exec_terms.specs.declared.phase.Phase.{Phase}
use Rattle.exec_terms.specs.declared.phase.Phase.TheVariants.{Pending, InProgress, Aborting, Aborted, Completed, Dead}
use Rattle.exec_terms.specs.declared.work.WorkKind.{WorkKind}
use Rattle.exec_terms.specs.declared.work.WorkKind.TheVariants.{Copy as ForCopy, Commit as ForCommit, Cancel as ForCancel}
use Rattle.exec_terms.specs.declared.work.Work.{Work}
use Rattle.exec_terms.specs.declared.work.Work.TheVariants.{Copy, Commit, Cancel}
use Rattle.exec_terms.specs.declared.work.Lease.{Lease}
use Rattle.exec_terms.specs.declared.replies.LeaseFault.TheVariants.{AbortAsked}
use Rattle.exec_terms.specs.declared.task.Task.{Task}
use Rattle.exec_terms.specs.declared.brokers.Host.{Host}
use Rattle.exec_terms.specs.Words.{is_aborting, in_flight, copies_to, copies_of, copies, next_step, or_commit, is_for, is_cancel, holds, holds_for, has_number_for}
use Rattle.plan_terms.specs.Change.{added}
use Rattle.exec_terms.specs.Machine.{State, no_task, task_at, any_unfinished}
use Rattle.exec_terms.specs.Leases.{tested, test_lease, released, ended_at, end_lease, ended, one_copied, one_failed, committed, cancelled, after_copied, after_copy_failed, after_commit, after_cancel}
use Rattle.exec_terms.specs.Stops.{stopped_by, after_stop, killed_by, can_die, after_kill, marked}
use Rattle.exec_terms.specs.Valid.{IsTask, IsValid}
use Rattle.exec_terms.proofs.Quiet.{IsQuiet, IsValid-set, IsValid-map}
use Rattle.exec_terms.proofs.QuietTasks.{quiet_released, quiet_one_copied, quiet_one_failed, quiet_committed, quiet_cancelled, quiet_stopped_by, quiet_killed_by}
use Rattle.exec_terms.proofs.TaskLemmas.{IsTask-released, IsTask-one_copied, IsTask-one_failed, IsTask-committed, IsTask-cancelled, IsTask-stopped_by, IsTask-killed_by}

-- the list of a task's copies holds copies alone
copies_to-copy : (b n : ℕ) → All (λ w. is_for ForCopy w ≡ true) (copies_to b n)
copies_to-copy b zero = All-nil (λ w. is_for ForCopy w ≡ true)
copies_to-copy b (suc n) = All-push (λ w. is_for ForCopy w ≡ true) (copies_to b n) (Copy b n) (copies_to-copy b n) refl

copies_of-copy : (bs : List ℕ) (chunks : ℕ) → All (λ w. is_for ForCopy w ≡ true) (copies_of bs chunks)
copies_of-copy [] chunks = All-nil (λ w. is_for ForCopy w ≡ true)
copies_of-copy (b ∷ bs) chunks = All-append (λ w. is_for ForCopy w ≡ true) (copies_to b chunks) (copies_of bs chunks) (copies_to-copy b chunks) (copies_of-copy bs chunks)

not_both : (w : Work) → is_for ForCopy w ≡ true → is_for ForCommit w ≡ true → false ≡ true
not_both (Copy to chunk) c m = m
not_both Commit c m = c
not_both Cancel c m = c

not_cancel : (w : Work) → is_for ForCopy w ≡ true → is_for ForCancel w ≡ true → false ≡ true
not_cancel (Copy to chunk) c m = m
not_cancel Commit c m = c
not_cancel Cancel c m = c

-- a next step that is a copy has that copy left
pub next_step-copy : (t : Task) → is_for ForCopy (next_step t) ≡ true → t.done < length (copies t)
unfolding next_step copies
next_step-copy t h = by (slice_get (copies_of (added t.before t.after) t.chunks) t.done) refl h where
  by : (o : Option Work) → slice_get (copies_of (added t.before t.after) t.chunks) t.done ≡ o → is_for ForCopy (or_commit o) ≡ true → t.done < length (copies_of (added t.before t.after) t.chunks)
  by None e h = absurd (false≢true h)
  by (Some w) e h = slice_get_within (copies_of (added t.before t.after) t.chunks) t.done w e

-- a next step that is the commit has no copy left, and no next step is a cancel
next_step_not : (kind : WorkKind) (t : Task) → ((w : Work) → is_for ForCopy w ≡ true → is_for kind w ≡ true → false ≡ true) → is_for kind (next_step t) ≡ true → length (copies t) ≤ t.done
unfolding next_step copies
next_step_not kind t apart h = by (slice_get (copies_of (added t.before t.after) t.chunks) t.done) refl h where
  by : (o : Option Work) → slice_get (copies_of (added t.before t.after) t.chunks) t.done ≡ o → is_for kind (or_commit o) ≡ true → length (copies_of (added t.before t.after) t.chunks) ≤ t.done
  by None e h = elim (cases_lt t.done (length (copies_of (added t.before t.after) t.chunks))) [
    | inl l ↦ absurd (none-some _ (sym e ∙ slice_get-get_or (copies_of (added t.before t.after) t.chunks) t.done Commit l))
    | inr g ↦ g
  ]
  by (Some w) e h = absurd (false≢true (apart w (rw (get_or_from_slice_get (copies_of (added t.before t.after) t.chunks) t.done w Commit e) at
      (All-get_or (λ w. is_for ForCopy w ≡ true) (copies_of (added t.before t.after) t.chunks) t.done Commit (slice_get_within (copies_of (added t.before t.after) t.chunks) t.done w e) (copies_of-copy (added t.before t.after) t.chunks))) h))

-- no next step is a cancel
pub next_step-no_cancel : (t : Task) → is_for ForCancel (next_step t) ≡ false
unfolding next_step copies
next_step-no_cancel t = by (slice_get (copies_of (added t.before t.after) t.chunks) t.done) refl where
  by : (o : Option Work) → slice_get (copies_of (added t.before t.after) t.chunks) t.done ≡ o → is_for ForCancel (or_commit o) ≡ false
  by None e = refl
  by (Some w) e =
      let within = slice_get_within (copies_of (added t.before t.after) t.chunks) t.done w e in
      let copy : is_for ForCopy w ≡ true = rw (get_or_from_slice_get (copies_of (added t.before t.after) t.chunks) t.done w Commit e) at
      (All-get_or (λ w. is_for ForCopy w ≡ true) (copies_of (added t.before t.after) t.chunks) t.done Commit within (copies_of-copy (added t.before t.after) t.chunks)) in
      false_from_ne_true (is_for ForCancel w) (λ h. false≢true (not_cancel w copy h))

-- what the test of a lease has found
pub holder : (n : ℕ) (kind : WorkKind) (o : Option Lease) → has_number_for n kind o ≡ true → (l : Lease) × (o ≡ Some l) × (is_for kind l.work ≡ true)
holder n kind None h = absurd (false≢true h)
holder n kind (Some l) h = (l, refl, (and_parts (l.number == n) (is_for kind l.work) h).1)

pub in_progress : (p : Phase) → in_flight p ≡ true → (is_aborting p && true) ≡ false → p ≡ InProgress
in_progress Pending f a = absurd (false≢true f)
in_progress InProgress f a = refl
in_progress Aborting f a = absurd (true≢false a)
in_progress Aborted f a = absurd (false≢true f)
in_progress Completed f a = absurd (false≢true f)
in_progress Dead f a = absurd (false≢true f)

pub IsValid-end_lease : (s : State) (lease : ℕ) → IsValid s → IsValid (end_lease s lease)
unfolding end_lease
IsValid-end_lease s lease v = by (position (holds lease) s.tasks) refl where
  by : (o : Option ℕ) → position (holds lease) s.tasks ≡ o → IsValid (ended_at s o)
  by None e = v
  by (Some i) e =
      let p = position-Some (holds lease) s.tasks i no_task e in
      IsValid-set s i (released (task_at s.tasks i)) p.0 (quiet_released (task_at s.tasks i))
      (IsTask-released s.base s.hosts s.stopped s.leases (task_at s.tasks i) (v.each i no_task p.0)) v

-- an event with a lease, whose change of a task that holds it for this kind of work is a good one
IsValid-ended : (f : Task → Task) (kind : WorkKind) (s : State) (lease : ℕ)
    → ((t : Task) (l : Lease) → t.lease ≡ Some l → is_for kind l.work ≡ true → (is_aborting t.phase && not (is_cancel kind)) ≡ false
    → IsTask s.base s.hosts s.stopped s.leases t → IsQuiet t (f t) × IsTask s.base s.hosts s.stopped s.leases (f t))
    → IsValid s → IsValid (ended f s lease (test_lease s lease kind))
unfolding test_lease
IsValid-ended f kind s lease ok v = by (position (holds_for lease kind) s.tasks) refl where
  by : (o : Option ℕ) → position (holds_for lease kind) s.tasks ≡ o → IsValid (ended f s lease (tested s kind o))
  by None e = v
  by (Some i) e = on (is_aborting (task_at s.tasks i).phase && not (is_cancel kind)) refl where
    p : (i < length s.tasks) × (holds_for lease kind (task_at s.tasks i) ≡ true) × ((k : ℕ) → k < i → holds_for lease kind (task_at s.tasks k) ≡ false)
    p = position-Some (holds_for lease kind) s.tasks i no_task e

    on : (c : Bool) → (is_aborting (task_at s.tasks i).phase && not (is_cancel kind)) ≡ c → IsValid (ended f s lease (cond c (Err AbortAsked) (Ok i)))
    on true a = IsValid-end_lease s lease v
    on false a =
        let h = holder lease kind (task_at s.tasks i).lease p.1 in
        let g = ok (task_at s.tasks i) h.0 h.1 h.2 a (v.each i no_task p.0) in
        IsValid-set s i (f (task_at s.tasks i)) p.0 g.0 g.1 v

pub IsValid-copied : (s : State) (lease : ℕ) → IsValid s → IsValid (after_copied s lease)
IsValid-copied s lease v = IsValid-ended one_copied ForCopy s lease (λ t l e k a h.
    let i = h.lease l e in
    let p : t.phase ≡ InProgress = in_progress t.phase i.flies a in
    (quiet_one_copied t, IsTask-one_copied s.base s.hosts s.stopped s.leases t p (next_step-copy t (rw (i.next p) at k)) h)) v

pub IsValid-copy_failed : (s : State) (lease : ℕ) → IsValid s → IsValid (after_copy_failed s lease)
IsValid-copy_failed s lease v = IsValid-ended one_failed ForCopy s lease (λ t l e k a h.
    let i = h.lease l e in
    let p : t.phase ≡ InProgress = in_progress t.phase i.flies a in
    (quiet_one_failed t i.flies, IsTask-one_failed s.base s.hosts s.stopped s.leases t p h)) v

pub IsValid-commit : (s : State) (lease : ℕ) → IsValid s → IsValid (after_commit s lease)
IsValid-commit s lease v = IsValid-ended committed ForCommit s lease (λ t l e k a h.
    let i = h.lease l e in
    let p : t.phase ≡ InProgress = in_progress t.phase i.flies a in
    (quiet_committed t, IsTask-committed s.base s.hosts s.stopped s.leases t p (next_step_not ForCommit t not_both (rw (i.next p) at k)) h)) v

pub IsValid-cancel : (s : State) (lease : ℕ) → IsValid s → IsValid (after_cancel s lease)
IsValid-cancel s lease v = IsValid-ended cancelled ForCancel s lease (λ t l e k a h.
    (quiet_cancelled t, IsTask-cancelled s.base s.hosts s.stopped s.leases t h)) v

pub IsValid-stopped : (s : State) (force : Bool) (tasks : List Task) → tasks ≡ map (stopped_by force) s.tasks → IsValid s → IsValid (record s { tasks = tasks; stopped = true })
IsValid-stopped s force tasks e v = rw e (IsValid-map s (stopped_by force) s.hosts true (quiet_stopped_by force) (IsTask-stopped_by s.base s.hosts s.stopped s.leases force) v)

pub IsValid-killed : (s : State) (b : ℕ) (tasks : List Task) (hosts : List Host) → tasks ≡ map (killed_by b) s.tasks → hosts ≡ map (marked b) s.hosts → IsValid s → IsValid (record s { tasks = tasks; hosts = hosts })
IsValid-killed s b tasks hosts e f v = rw (e, f) (IsValid-map s (killed_by b) (map (marked b) s.hosts) s.stopped (quiet_killed_by b) (IsTask-killed_by s.base s.hosts s.stopped s.leases b) v)

pub IsValid-stop : (s : State) (force : Bool) → IsValid s → IsValid (after_stop s force)
IsValid-stop s force v = by (any_unfinished s.tasks) where
  by : (c : Bool) → IsValid (cond c (record s { tasks = map (stopped_by force) s.tasks; stopped = true }) s)
  by true = IsValid-map s (stopped_by force) s.hosts true (quiet_stopped_by force) (IsTask-stopped_by s.base s.hosts s.stopped s.leases force) v
  by false = v

pub IsValid-kill : (s : State) (b : ℕ) → IsValid s → IsValid (after_kill s b)
IsValid-kill s b v = by (can_die s b) where
  by : (c : Bool) → IsValid (cond c (record s { tasks = map (killed_by b) s.tasks; hosts = map (marked b) s.hosts }) s)
  by true = IsValid-map s (killed_by b) (map (marked b) s.hosts) s.stopped (quiet_killed_by b) (IsTask-killed_by s.base s.hosts s.stopped s.leases b) v
  by false = v
