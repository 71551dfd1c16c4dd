-- The caps in force are kept at each start, and throughout where none is lowered.
use Rattle.std.proofs.Common.{◌≡◌, ◌⊎◌, ℕ, ◌+◌, ◌<◌, Bool, true, false, not, ◌&&◌, cond, inl, inr, List, [], ◌∷◌, map, length, arith, refl, sym, ◌∙◌}
use Rattle.std.specs.Prelude.{Option, Some, None, Result, Ok, Err}
use Rattle.std.specs.List.{position}
use Rattle.std.proofs.lemmas.Bool.{cases_Bool, cases_eq, and_parts, or_parts, and_left, false≢true, true≢false}
use Rattle.std.proofs.lemmas.List.{get_or-set_same, get_or-set_other}
use Rattle.exec_terms.specs.declared.work.WorkKind.TheVariants.{Copy as ForCopy, Commit as ForCommit, Cancel as ForCancel}
use Rattle.exec_terms.specs.declared.task.Task.{Task}
use Rattle.exec_terms.specs.declared.replies.Given.{Given}
use Rattle.exec_terms.specs.declared.replies.Idle.{Idle}
use Rattle.exec_terms.specs.declared.replies.LeaseFault.{LeaseFault}
use Rattle.exec_terms.specs.declared.replies.LeaseFault.TheVariants.{Stale, AbortAsked}
use Rattle.plan_terms.specs.declared.settings.Caps.{Caps}
use Rattle.plan_terms.specs.declared.lists.Proposal.{Proposal}
use Rattle.exec_terms.specs.Words.{is_pending, is_in_progress, in_flight, is_unfinished, adds, removes, is_replica_task, next_step, holds}
use Rattle.exec_terms.specs.Machine.{State, no_task, task_at, any_unfinished, has_room, has_leader_room, next_work, taken, task_of, launched, first_unfinished, after_launch}
use Rattle.exec_terms.specs.Leases.{ended_at, end_lease, ended, test_lease, one_copied, one_failed, committed, cancelled}
use Rattle.exec_terms.specs.Stops.{stopped_by, killed_by, marked, can_die, after_stop, after_kill}
use Rattle.exec_terms.specs.Valid.{AreCapsKept, IsValid}
use Rattle.exec_terms.specs.Runs.{Event, Take, Copied, CopyFailed, Committed, Cancelled, GivenBack, Stops, Killed, Launched, CapsSet, CanAllHappen, after_event, after_events, new_state}
use Rattle.exec_terms.specs.CapLaws.{starts, StartKeepsCaps, StartsKeepCaps, NoCountRises, OnlyStartsRaise, caps_after, IsNoLower, LowersNone, RunsKeepCaps}
use Rattle.exec_terms.proofs.Begin.{is_pending_is}
use Rattle.exec_terms.proofs.Take.{begun}
use Rattle.exec_terms.proofs.Starts.{start_adding, start_removing, start_replica, start_leader, kept_replica, kept_leader}
use Rattle.exec_terms.proofs.Launch.{all_pending, each_event_keeps, IsValid-new}
use Rattle.exec_terms.proofs.WorkLeft.{position-None}
use Rattle.exec_terms.proofs.Calm.{AreAll, EntersNoFlight, calm_itself, all_itself, none_rises, none_starts, calm_end_lease, calm_copied, calm_copy_failed, calm_commit, calm_cancel, stop_calm, kill_calm, IsStart, take_is}

-- what an event does to the tasks in flight
abbrev CalmOrStart : State → State → Type 0
CalmOrStart s u = (NoCountRises s u × ((i : ℕ) → i < length s.tasks → starts s u i ≡ false)) ⊎ ((i : ℕ) × IsStart s u i)

calm : (s u : State) → AreAll EntersNoFlight s.tasks u.tasks → CalmOrStart s u
calm s u c = inl (none_rises s u c, λ i l. none_starts s u c i)

take_calm : (s u : State) → ((AreAll EntersNoFlight s.tasks u.tasks) ⊎ ((i : ℕ) × IsStart s u i)) → CalmOrStart s u
take_calm s u (inl c) = inl (none_rises s u c, λ i l. none_starts s u c i)
take_calm s u (inr st) = inr st

-- a launch begins where no task is unfinished, and lets none start
launch_calm : (s : State) (proposals : List Proposal) → CalmOrStart s (after_launch s proposals)
launch_calm s proposals = by (first_unfinished s) refl where
  by : (o : Option ℕ) → first_unfinished s ≡ o → CalmOrStart s (launched s proposals o)
  by (Some i) e = calm s s (all_itself EntersNoFlight calm_itself s.tasks)
  by None e = inl (
    record {
      adding = λ b. omega (arith, all_pending (λ t. in_flight t.phase && adds t b) s.chunks proposals (λ q. refl));
      removing = λ b. omega (arith, all_pending (λ t. in_flight t.phase && removes t b) s.chunks proposals (λ q. refl));
      replica = omega (arith, all_pending (λ t. in_flight t.phase && is_replica_task t) s.chunks proposals (λ q. refl));
      leader = omega (arith, all_pending (λ t. in_flight t.phase && not (is_replica_task t)) s.chunks proposals (λ q. refl));
    },
    λ i l. and_left (is_pending (task_at s.tasks i).phase) (is_in_progress (task_at (map (task_of s.chunks) proposals) i).phase)
        (or_parts (is_pending (task_at s.tasks i).phase) (in_flight (task_at s.tasks i).phase) (position-None (λ t. is_unfinished t.phase) s.tasks i no_task e l)).0,
  )

-- the other events, by what each does to the tasks
pub event_calm : (s : State) (e : Event) → IsValid s → CalmOrStart s (after_event s e)
event_calm s Take v = take_calm s (after_event s Take) (take_is s)
event_calm s (Copied lease) v = calm s (after_event s (Copied lease)) (calm_copied s lease v)
event_calm s (CopyFailed lease) v = calm s (after_event s (CopyFailed lease)) (calm_copy_failed s lease v)
event_calm s (Committed lease) v = calm s (after_event s (Committed lease)) (calm_commit s lease v)
event_calm s (Cancelled lease) v = calm s (after_event s (Cancelled lease)) (calm_cancel s lease v)
event_calm s (GivenBack lease) v = calm s (after_event s (GivenBack lease)) (calm_end_lease s lease)
event_calm s (Stops force) v = calm s (after_event s (Stops force)) (stop_calm s force)
event_calm s (Killed broker) v = calm s (after_event s (Killed broker)) (kill_calm s broker)
event_calm s (Launched proposals) v = launch_calm s proposals
event_calm s (CapsSet caps) v = calm s (after_event s (CapsSet caps)) (all_itself EntersNoFlight calm_itself s.tasks)

-- a start leaves the caps in force kept for its task
start_keeps : (s u : State) (i : ℕ) → IsStart s u i → StartKeepsCaps s u i
unfolding begun
start_keeps s u i st = record {
  adding = λ r b a. rw st.tasks_are (start_adding s.caps s.tasks i (next_step t) (s.leases + 1) st.known (replica r) b (rw here at a));
  removing = λ r b a. rw st.tasks_are (start_removing s.caps s.tasks i (next_step t) (s.leases + 1) st.known (replica r) b (rw here at a));
  replica = λ r. rw st.tasks_are (start_replica s.caps s.tasks i (next_step t) (s.leases + 1) st.known (replica r));
  leader = λ r. rw st.tasks_are (start_leader s.caps s.tasks i (next_step t) (s.leases + 1) st.known (leader r));
} where
  t : Task
  t = task_at s.tasks i

  here : task_at u.tasks i ≡ begun t (next_step t) (s.leases + 1)
  here = rw st.tasks_are (get_or-set_same s.tasks i (begun t (next_step t) (s.leases + 1)) no_task st.known)

  replica : is_replica_task (task_at u.tasks i) ≡ true → has_room s.caps s.tasks t ≡ true
  replica r = let moves : is_replica_task t ≡ true = rw here at r in rw moves at st.room

  leader : is_replica_task (task_at u.tasks i) ≡ false → has_leader_room s.caps s.tasks ≡ true
  leader r = let leads : is_replica_task t ≡ false = rw here at r in rw leads at st.room

-- no other task starts with it
starts_here : (s u : State) (i k : ℕ) → IsStart s u k → starts s u i ≡ true → i ≡ k
unfolding begun
starts_here s u i k st h = elim (cases_eq i k) [
  | inl e ↦ e
  | inr ne ↦
      (let p = and_parts (is_pending (task_at s.tasks i).phase) (is_in_progress (task_at u.tasks i).phase) h in
      let same : task_at u.tasks i ≡ task_at s.tasks i = rw st.tasks_are (get_or-set_other s.tasks k i (begun (task_at s.tasks k) (next_step (task_at s.tasks k)) (s.leases + 1)) no_task ne) in
      absurd (false≢true (rw (same, is_pending_is (task_at s.tasks i).phase p.0) at p.1)))
]

pub starts_keep_caps : StartsKeepCaps
starts_keep_caps s e i can v l h = by (event_calm s e v) where
  by : CalmOrStart s (after_event s e) → StartKeepsCaps s (after_event s e) i
  by (inl c) = absurd (true≢false (sym h ∙ c.1 i l))
  by (inr (k, st)) = rw (starts_here s (after_event s e) i k st h) (start_keeps s (after_event s e) k st)

-- the task that starts is seen to start
seen : (s u : State) (i : ℕ) → IsStart s u i → starts s u i ≡ true
unfolding begun
seen s u i st = rw (st.tasks_are, get_or-set_same s.tasks i (begun (task_at s.tasks i) (next_step (task_at s.tasks i)) (s.leases + 1)) no_task st.known, st.pending) refl

pub only_starts_raise : OnlyStartsRaise
only_starts_raise s e can v none = by (event_calm s e v) where
  by : CalmOrStart s (after_event s e) → NoCountRises s (after_event s e)
  by (inl c) = c.0
  by (inr (k, st)) = absurd (true≢false (sym (seen s (after_event s e) k st) ∙ none k st.known))

-- the caps in force after each event
taken_caps : (s : State) (r : Result Given Idle) → (taken s r).caps ≡ s.caps
taken_caps s (Ok g) = refl
taken_caps s (Err reason) = refl

end_lease_caps : (s : State) (lease : ℕ) → (end_lease s lease).caps ≡ s.caps
unfolding end_lease
end_lease_caps s lease = by (position (holds lease) s.tasks) where
  by : (o : Option ℕ) → (ended_at s o).caps ≡ s.caps
  by None = refl
  by (Some i) = refl

ended_caps : (f : Task → Task) (s : State) (lease : ℕ) (r : Result ℕ LeaseFault) → (ended f s lease r).caps ≡ s.caps
ended_caps f s lease (Ok i) = refl
ended_caps f s lease (Err (Stale n)) = refl
ended_caps f s lease (Err AbortAsked) = end_lease_caps s lease

stop_caps : (s : State) (force : Bool) → (after_stop s force).caps ≡ s.caps
stop_caps s force = by (any_unfinished s.tasks) where
  by : (c : Bool) → (cond c (record s { tasks = map (stopped_by force) s.tasks; stopped = true }) s).caps ≡ s.caps
  by true = refl
  by false = refl

kill_caps : (s : State) (b : ℕ) → (after_kill s b).caps ≡ s.caps
kill_caps s b = by (can_die s b) where
  by : (c : Bool) → (cond c (record s { tasks = map (killed_by b) s.tasks; hosts = map (marked b) s.hosts }) s).caps ≡ s.caps
  by true = refl
  by false = refl

launch_caps : (s : State) (proposals : List Proposal) → (after_launch s proposals).caps ≡ s.caps
launch_caps s proposals = by (first_unfinished s) where
  by : (o : Option ℕ) → (launched s proposals o).caps ≡ s.caps
  by None = refl
  by (Some i) = refl

caps_are : (s : State) (e : Event) → (after_event s e).caps ≡ caps_after s.caps e
caps_are s Take = taken_caps s (next_work s)
caps_are s (Copied lease) = ended_caps one_copied s lease (test_lease s lease ForCopy)
caps_are s (CopyFailed lease) = ended_caps one_failed s lease (test_lease s lease ForCopy)
caps_are s (Committed lease) = ended_caps committed s lease (test_lease s lease ForCommit)
caps_are s (Cancelled lease) = ended_caps cancelled s lease (test_lease s lease ForCancel)
caps_are s (GivenBack lease) = end_lease_caps s lease
caps_are s (Stops force) = stop_caps s force
caps_are s (Killed broker) = kill_caps s broker
caps_are s (Launched proposals) = launch_caps s proposals
caps_are s (CapsSet caps) = refl

-- counts that are no greater keep the caps, and so do caps that are no lower
less_kept : (caps : Caps) (s u : State) → NoCountRises s u → AreCapsKept caps s.tasks → AreCapsKept caps u.tasks
less_kept caps s u less k = record {
  adding = λ b. omega (arith, less.adding b, k.adding b);
  removing = λ b. omega (arith, less.removing b, k.removing b);
  replica = omega (arith, less.replica, k.replica);
  leader = omega (arith, less.leader, k.leader);
}

raised_kept : (old new : Caps) (tasks : List Task) → IsNoLower old new → AreCapsKept old tasks → AreCapsKept new tasks
raised_kept old new tasks up k = record {
  adding = λ b. omega (arith, up.broker, k.adding b);
  removing = λ b. omega (arith, up.broker, k.removing b);
  replica = omega (arith, up.cluster, k.replica);
  leader = omega (arith, up.leader, k.leader);
}

start_kept : (s u : State) (i : ℕ) → IsStart s u i → AreCapsKept s.caps s.tasks → AreCapsKept s.caps u.tasks
start_kept s u i st k = rw st.tasks_are (elim (cases_Bool (is_replica_task (task_at s.tasks i))) [
  | inl r ↦ kept_replica s.caps s.tasks i (next_step (task_at s.tasks i)) (s.leases + 1) st.known (is_pending_is (task_at s.tasks i).phase st.pending) r (rw r at st.room) k
  | inr r ↦ kept_leader s.caps s.tasks i (next_step (task_at s.tasks i)) (s.leases + 1) st.known (is_pending_is (task_at s.tasks i).phase st.pending) r (rw r at st.room) k
])

event_kept : (s : State) (e : Event) → IsValid s → IsNoLower s.caps (caps_after s.caps e) → AreCapsKept s.caps s.tasks → AreCapsKept (after_event s e).caps (after_event s e).tasks
event_kept s e v up k = raised_kept s.caps (after_event s e).caps (after_event s e).tasks (rw (caps_are s e) up) (by (event_calm s e v)) where
  by : CalmOrStart s (after_event s e) → AreCapsKept s.caps (after_event s e).tasks
  by (inl c) = less_kept s.caps s (after_event s e) c.0 k
  by (inr (i, st)) = start_kept s (after_event s e) i st k

events_kept : (s : State) (events : List Event) → IsValid s → AreCapsKept s.caps s.tasks → CanAllHappen s events → LowersNone s.caps events
    → AreCapsKept (after_events s events).caps (after_events s events).tasks
events_kept s [] v k can low = k
events_kept s (e ∷ es) v k can low = events_kept (after_event s e) es (each_event_keeps s e can.0 v) (event_kept s e v low.0 k) can.1 (rw (caps_are s e) low.1)

pub runs_keep_caps : RunsKeepCaps
runs_keep_caps lists chunks caps hosts events are few b c l can low = events_kept (new_state lists chunks caps hosts) events (IsValid-new lists chunks caps hosts are few b c l)
    (record { adding = λ b. omega arith; removing = λ b. omega arith; replica = omega arith; leader = omega arith }) can low
