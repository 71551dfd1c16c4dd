-- What each event but a launch keeps of the executor: the lists at the launch, its brokers, and the lists of its tasks.
use Rattle.std.proofs.Common.{◌≡◌, ◌⊎◌, ◌∙◌, ℕ, ◌<◌, Bool, true, false, cond, inl, inr, List, [], ◌∷◌, map, length, refl, ap}
use Rattle.std.specs.Prelude.{Option, Some, None, Result, Ok, Err, ◌==◌}
use Rattle.std.specs.List.{position}
use Rattle.std.proofs.lemmas.List.{get_or_default}
use Rattle.plan_terms.specs.Cluster.{Cluster}
use Rattle.exec_terms.specs.declared.brokers.Host.{Host}
use Rattle.exec_terms.specs.declared.replies.Given.{Given}
use Rattle.exec_terms.specs.declared.replies.Idle.{Idle}
use Rattle.exec_terms.specs.declared.replies.LeaseFault.{LeaseFault}
use Rattle.exec_terms.specs.declared.replies.LeaseFault.TheVariants.{Stale, AbortAsked}
use Rattle.exec_terms.specs.declared.task.Task.{Task}
use Rattle.exec_terms.specs.declared.work.WorkKind.TheVariants.{Copy as ForCopy, Commit as ForCommit, Cancel as ForCancel}
use Rattle.exec_terms.specs.Words.{holds}
use Rattle.exec_terms.specs.Machine.{State, no_task, after_launch, any_unfinished, first_unfinished, launched, next_work, taken}
use Rattle.exec_terms.specs.CapLaws.{caps_after}
use Rattle.plan_terms.specs.declared.lists.Proposal.{Proposal}
use Rattle.exec_terms.specs.Leases.{ended_at, end_lease, ended, test_lease, one_copied, one_failed, committed, cancelled}
use Rattle.exec_terms.specs.Stops.{stopped_by, killed_by, marked, can_die, after_stop, after_kill}
use Rattle.exec_terms.specs.Valid.{IsValid}
use Rattle.exec_terms.specs.Runs.{Event, Take, Copied, CopyFailed, Committed, Cancelled, GivenBack, Stops, Killed, Launched, CapsSet, IsLaunch, CanHappen, after_event}
use Rattle.exec_terms.proofs.Calm.{SameLists, AreAll, EntersNoFlight, all_itself, same_itself, same_calm, calm_end_lease, calm_copied, calm_copy_failed, calm_commit, calm_cancel, stop_calm, kill_calm, IsStart, take_is, same_start}
use Rattle.exec_terms.proofs.Launch.{each_event_keeps}
use Rattle.core_terms.specs.Sound.{IsExecOf}

-- the ids of the executor's brokers
abbrev pub host_ids : List Host → List ℕ
host_ids hosts = map (λ h. h.id) hosts

-- the same lists at the launch, brokers by id, and lists of tasks
pub record KeepsFrame (s u : State) : Type 0 where
  pub base : u.base ≡ s.base
  pub hosts : host_ids u.hosts ≡ host_ids s.hosts
  pub lists : AreAll SameLists s.tasks u.tasks

-- the state but for its tasks and what was stopped
pub record Kept (s u : State) : Type 0 where
  pub base : u.base ≡ s.base
  pub hosts : host_ids u.hosts ≡ host_ids s.hosts
  pub caps : u.caps ≡ s.caps

frame : (s u : State) → Kept s u → AreAll EntersNoFlight s.tasks u.tasks → KeepsFrame s u
frame s u k calm = record { base = k.base; hosts = k.hosts; lists = same_calm s.tasks u.tasks calm }

kept_itself : (s : State) → Kept s s
kept_itself s = record { base = refl; hosts = refl; caps = refl }

kept_taken : (s : State) (r : Result Given Idle) → Kept s (taken s r)
kept_taken s (Ok g) = record { base = refl; hosts = refl; caps = refl }
kept_taken s (Err reason) = kept_itself s

kept_end : (s : State) (lease : ℕ) → Kept s (end_lease s lease)
unfolding end_lease
kept_end s lease = by (position (holds lease) s.tasks) where
  by : (o : Option ℕ) → Kept s (ended_at s o)
  by None = kept_itself s
  by (Some i) = record { base = refl; hosts = refl; caps = refl }

kept_ended : (f : Task → Task) (s : State) (lease : ℕ) (r : Result ℕ LeaseFault) → Kept s (ended f s lease r)
kept_ended f s lease (Ok i) = record { base = refl; hosts = refl; caps = refl }
kept_ended f s lease (Err (Stale n)) = kept_itself s
kept_ended f s lease (Err AbortAsked) = kept_end s lease

kept_stop : (s : State) (force : Bool) → Kept s (after_stop s force)
kept_stop s force = by (any_unfinished s.tasks) where
  by : (c : Bool) → Kept s (cond c (record s { tasks = map (stopped_by force) s.tasks; stopped = true }) s)
  by true = record { base = refl; hosts = refl; caps = refl }
  by false = kept_itself s

marked_id : (b : ℕ) (h : Host) → (marked b h).id ≡ h.id
marked_id b h = by (h.id == b) where
  by : (c : Bool) → (cond c (record h { dead = true }) h).id ≡ h.id
  by true = refl
  by false = refl

marked_ids : (b : ℕ) (hosts : List Host) → host_ids (map (marked b) hosts) ≡ host_ids hosts
marked_ids b [] = refl
marked_ids b (h ∷ hs) = ap (λ (n : ℕ). n ∷ host_ids (map (marked b) hs)) (marked_id b h) ∙ ap (λ (ns : List ℕ). h.id ∷ ns) (marked_ids b hs)

kept_kill : (s : State) (b : ℕ) → Kept s (after_kill s b)
kept_kill s b = by (can_die s b) where
  by : (c : Bool) → Kept s (cond c (record s { tasks = map (killed_by b) s.tasks; hosts = map (marked b) s.hosts }) s)
  by true = record { base = refl; hosts = marked_ids b s.hosts; caps = refl }
  by false = kept_itself s

take_frame : (s u : State) → Kept s u → ((AreAll EntersNoFlight s.tasks u.tasks) ⊎ ((i : ℕ) × IsStart s u i)) → KeepsFrame s u
take_frame s u k (inl calm) = frame s u k calm
take_frame s u k (inr (i, st)) = record { base = k.base; hosts = k.hosts; lists = same_start s u i st }

pub events_keep_frame : (s : State) (e : Event) → (IsLaunch e → ⊥) → IsValid s → KeepsFrame s (after_event s e)
events_keep_frame s Take nl v = take_frame s (after_event s Take) (kept_taken s (next_work s)) (take_is s)
events_keep_frame s (Copied lease) nl v = frame s (after_event s (Copied lease)) (kept_ended one_copied s lease (test_lease s lease ForCopy)) (calm_copied s lease v)
events_keep_frame s (CopyFailed lease) nl v = frame s (after_event s (CopyFailed lease)) (kept_ended one_failed s lease (test_lease s lease ForCopy)) (calm_copy_failed s lease v)
events_keep_frame s (Committed lease) nl v = frame s (after_event s (Committed lease)) (kept_ended committed s lease (test_lease s lease ForCommit)) (calm_commit s lease v)
events_keep_frame s (Cancelled lease) nl v = frame s (after_event s (Cancelled lease)) (kept_ended cancelled s lease (test_lease s lease ForCancel)) (calm_cancel s lease v)
events_keep_frame s (GivenBack lease) nl v = frame s (after_event s (GivenBack lease)) (kept_end s lease) (calm_end_lease s lease)
events_keep_frame s (Stops force) nl v = frame s (after_event s (Stops force)) (kept_stop s force) (stop_calm s force)
events_keep_frame s (Killed broker) nl v = frame s (after_event s (Killed broker)) (kept_kill s broker) (kill_calm s broker)
events_keep_frame s (Launched proposals) nl v = absurd (nl tt)
events_keep_frame s (CapsSet caps) nl v = record { base = refl; hosts = refl; lists = all_itself SameLists same_itself s.tasks }

launch_caps : (s : State) (ps : List Proposal) → (after_launch s ps).caps ≡ s.caps
launch_caps s ps = by (first_unfinished s) where
  by : (o : Option ℕ) → (launched s ps o).caps ≡ s.caps
  by None = refl
  by (Some i) = refl

-- the caps in force after each event
pub caps_are : (s : State) (e : Event) → (after_event s e).caps ≡ caps_after s.caps e
caps_are s Take = (kept_taken s (next_work s)).caps
caps_are s (Copied lease) = (kept_ended one_copied s lease (test_lease s lease ForCopy)).caps
caps_are s (CopyFailed lease) = (kept_ended one_failed s lease (test_lease s lease ForCopy)).caps
caps_are s (Committed lease) = (kept_ended committed s lease (test_lease s lease ForCommit)).caps
caps_are s (Cancelled lease) = (kept_ended cancelled s lease (test_lease s lease ForCancel)).caps
caps_are s (GivenBack lease) = (kept_end s lease).caps
caps_are s (Stops force) = (kept_stop s force).caps
caps_are s (Killed broker) = (kept_kill s broker).caps
caps_are s (Launched proposals) = launch_caps s proposals
caps_are s (CapsSet caps) = refl

-- so the executor stays one of the cluster
pub exec_kept : (c : Cluster) (s u : State) → KeepsFrame s u → IsValid u → IsExecOf c s → IsExecOf c u
exec_kept c s u k v e = record {
  valid = v;
  brokers = k.hosts ∙ e.brokers;
  base = rw k.base e.base;
  afters = λ j d l.
      let m : j < length s.tasks = rw k.lists.long at l in
      rw (get_or_default u.tasks j d no_task l, (k.lists.each j).after) (e.afters j no_task m);
}

pub event_kept : (c : Cluster) (s : State) (e : Event) → (IsLaunch e → ⊥) → CanHappen s e → IsExecOf c s → IsExecOf c (after_event s e)
event_kept c s e nl can x = exec_kept c s (after_event s e) (events_keep_frame s e nl x.valid) (each_event_keeps s e can x.valid) x
