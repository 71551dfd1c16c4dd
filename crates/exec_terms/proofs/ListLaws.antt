-- How the lists of the partitions change: only at the partition of the task that changes, and not at a launch.
use Rattle.std.proofs.Common.{◌≡◌, ◌⊎◌, ◌≢◌, ℕ, ◌<◌, ◌≤◌, Bool, true, false, not, cond, inl, inr, List, [], ◌∷◌, map, set, length, get_or, refl, sym, ap, ◌∙◌, zero, suc}
use Rattle.std.specs.Prelude.{Option, Some, None, Result, Ok, Err}
use Rattle.std.specs.List.{list_any, count_by, position, prefix_len}
use Rattle.std.proofs.lemmas.Bool.{eqb-true, eq-eqb, not-true, true≢false}
use Rattle.std.proofs.Math.Path.{fun_ext}
use Rattle.plan_terms.specs.Legal.{each_below}
use Rattle.exec_terms.specs.declared.work.WorkKind.TheVariants.{Copy as ForCopy, Commit as ForCommit, Cancel as ForCancel}
use Rattle.exec_terms.specs.declared.replies.Given.{Given}
use Rattle.exec_terms.specs.declared.replies.Idle.{Idle}
use Rattle.exec_terms.specs.declared.replies.LeaseFault.{LeaseFault}
use Rattle.exec_terms.specs.declared.replies.LeaseFault.TheVariants.{Stale, AbortAsked}
use Rattle.exec_terms.specs.Leases.{ended_at, end_lease, ended, test_lease, one_copied, one_failed, committed, cancelled}
use Rattle.exec_terms.specs.Stops.{stopped_by, killed_by, marked, can_die, after_stop, after_kill}
use Rattle.exec_terms.specs.Settled.{settled}
use Rattle.exec_terms.specs.ListLaws.{UnionsAreShort, ListsAreShort, DrainedListsAreSettled, SettledListsAreReplicaLists, OthersKeepLists}
use Rattle.std.proofs.lemmas.List.{length-set, get_or-set_same, get_or-set_other, length-map, get_or-map}
use Rattle.std.proofs.lemmas.List.Quantifiers.{position-Some}
use Rattle.exec_terms.specs.declared.task.Task.{Task}
use Rattle.plan_terms.specs.declared.lists.Proposal.{Proposal}
use Rattle.exec_terms.specs.Words.{is_on, in_flight, holds, list_shown}
use Rattle.exec_terms.specs.Machine.{State, no_task, task_at, list_by, list_now, with_task, any_unfinished, next_work, taken, task_of, launched, first_unfinished}
use Rattle.exec_terms.specs.Valid.{IsValid}
use Rattle.exec_terms.specs.Runs.{Take, Copied, CopyFailed, Committed, Cancelled, GivenBack, Stops, Killed, Launched, CapsSet, after_event, CanLaunch, LaunchKeepsLists}
use Rattle.exec_terms.proofs.WorkLeft.{position-None, same_place}
use Rattle.exec_terms.proofs.Launch.{length-each_below, get_or-each_below}
use Rattle.exec_terms.proofs.Gives.{none_any}
use Rattle.exec_terms.proofs.SettledLists.{settled_is, list_settled, union_short, list_short}
use Rattle.exec_terms.proofs.Calm.{SameLists, AreAll, EntersNoFlight, none_on, same_calm, calm_end_lease, calm_copied, calm_copy_failed, calm_commit, calm_cancel, stop_calm, kill_calm, IsStart, take_is, same_start}

-- the only place that passes is the first one
pub position_is : {X : Type 0} (p : X → Bool) (xs : List X) (i : ℕ) (d : X) → i < length xs → p (get_or xs i d) ≡ true → count_by p xs ≤ 1 → position p xs ≡ Some i
position_is p xs i d l h one = by (position p xs) refl where
  by : (o : Option ℕ) → position p xs ≡ o → o ≡ Some i
  by None e = absurd (true≢false (sym h ∙ position-None p xs i d e l))
  by (Some j) e = let f = position-Some p xs j d e in ap Some (same_place p xs j i d f.0 l f.1 h one)

-- a test finds the same first place where a task changes and the test doesn't
prefix_len-set : {X : Type 0} (q : X → Bool) (xs : List X) (i : ℕ) (u d : X) → q u ≡ q (get_or xs i d) → prefix_len q (set xs i u) ≡ prefix_len q xs
prefix_len-set q [] i u d e = refl
prefix_len-set q (x ∷ xs) zero u d e = rw e refl
prefix_len-set q (x ∷ xs) (suc i) u d e = rw (prefix_len-set q xs i u d e) refl

pub position-set : {X : Type 0} (p : X → Bool) (xs : List X) (i : ℕ) (u d : X) → p u ≡ p (get_or xs i d) → position p (set xs i u) ≡ position p xs
position-set p xs i u d e = rw (prefix_len-set (λ x. not (p x)) xs i u d (ap not e), length-set xs i u) refl

-- the list of a partition with a task is the one of its phase
pub list_now-task : (s : State) (i : ℕ) → IsValid s → i < length s.tasks → list_now s (task_at s.tasks i).part ≡ list_shown (task_at s.tasks i)
list_now-task s i v l = ap (list_by s (task_at s.tasks i).part) (position_is (is_on (task_at s.tasks i).part) s.tasks i no_task l (eq-eqb (task_at s.tasks i).part (task_at s.tasks i).part refl) (v.one_task (task_at s.tasks i).part))

-- where one task changes and keeps its partition, the lists of the other partitions stay, and its own is that of its new phase
pub lists-other : (s : State) (i : ℕ) (u : Task) (p : ℕ) → i < length s.tasks → u.part ≡ (task_at s.tasks i).part → p ≢ u.part → list_now (with_task s i u) p ≡ list_now s p
lists-other s i u p l e other = rw (position-set (is_on p) s.tasks i u no_task (rw e refl)) (by (position (is_on p) s.tasks) refl) where
  by : (o : Option ℕ) → position (is_on p) s.tasks ≡ o → list_by (with_task s i u) p o ≡ list_by s p o
  by None q = refl
  by (Some j) q =
      let on : (task_at s.tasks j).part ≡ p = eqb-true (task_at s.tasks j).part p (position-Some (is_on p) s.tasks j no_task q).1 in
      let apart : j ≢ i = λ same. other (sym on ∙ ap (λ k. (task_at s.tasks k).part) same ∙ sym e) in
      rw (get_or-set_other s.tasks i j u no_task apart) refl

pub lists-here : (s : State) (i : ℕ) (u : Task) → IsValid s → i < length s.tasks → u.part ≡ (task_at s.tasks i).part → list_now (with_task s i u) u.part ≡ list_shown u
lists-here s i u v l e =
    let same : position (is_on u.part) (set s.tasks i u) ≡ position (is_on u.part) s.tasks = position-set (is_on u.part) s.tasks i u no_task (rw e refl) in
    let at : position (is_on u.part) s.tasks ≡ Some i = position_is (is_on u.part) s.tasks i no_task l (eq-eqb (task_at s.tasks i).part u.part (sym e)) (v.one_task u.part) in
    rw (same, at, get_or-set_same s.tasks i u no_task l) refl

no_proposal : Proposal
no_proposal = record { part = 0; before = []; after = [] }

-- a launch changes no list
pub launch-lists : (s : State) (proposals : List Proposal) (p : ℕ) → CanLaunch s proposals → p < length s.base → list_now (launched s proposals None) p ≡ list_now s p
launch-lists s proposals p can l = by (position (is_on p) (map (task_of s.chunks) proposals)) refl where
  by : (o : Option ℕ) → position (is_on p) (map (task_of s.chunks) proposals) ≡ o → list_by (launched s proposals None) p o ≡ list_now s p
  by None e = get_or-each_below (list_now s) (length s.base) p [] l
  by (Some i) e =
      let f = position-Some (is_on p) (map (task_of s.chunks) proposals) i no_task e in
      let m : i < length proposals = rw (length-map proposals (task_of s.chunks)) at f.0 in
      let q : Proposal = get_or proposals i no_proposal in
      let t : task_at (map (task_of s.chunks) proposals) i ≡ task_of s.chunks q = get_or-map (task_of s.chunks) proposals i no_proposal no_task m in
      let here : q.part ≡ p = eqb-true q.part p (rw t at f.1) in
      rw t (rw here at (can.before i no_proposal m))

pub launch_keeps_lists : LaunchKeepsLists
launch_keeps_lists s proposals p can l = by (first_unfinished s) where
  by : (o : Option ℕ) → list_now (launched s proposals o) p ≡ list_now s p
  by (Some i) = refl
  by None = launch-lists s proposals p can l

-- each event but a launch keeps the lists at the launch
taken_base : (s : State) (r : Result Given Idle) → (taken s r).base ≡ s.base
taken_base s (Ok g) = refl
taken_base s (Err reason) = refl

end_lease_base : (s : State) (lease : ℕ) → (end_lease s lease).base ≡ s.base
unfolding end_lease
end_lease_base s lease = by (position (holds lease) s.tasks) where
  by : (o : Option ℕ) → (ended_at s o).base ≡ s.base
  by None = refl
  by (Some i) = refl

ended_base : (f : Task → Task) (s : State) (lease : ℕ) (r : Result ℕ LeaseFault) → (ended f s lease r).base ≡ s.base
ended_base f s lease (Ok i) = refl
ended_base f s lease (Err (Stale n)) = refl
ended_base f s lease (Err AbortAsked) = end_lease_base s lease

stop_base : (s : State) (force : Bool) → (after_stop s force).base ≡ s.base
stop_base s force = by (any_unfinished s.tasks) where
  by : (c : Bool) → (cond c (record s { tasks = map (stopped_by force) s.tasks; stopped = true }) s).base ≡ s.base
  by true = refl
  by false = refl

kill_base : (s : State) (b : ℕ) → (after_kill s b).base ≡ s.base
kill_base s b = by (can_die s b) where
  by : (c : Bool) → (cond c (record s { tasks = map (killed_by b) s.tasks; hosts = map (marked b) s.hosts }) s).base ≡ s.base
  by true = refl
  by false = refl

-- a partition without a task keeps its list where the tasks keep their partitions
others_keep : (s u : State) (p : ℕ) → u.base ≡ s.base → AreAll SameLists s.tasks u.tasks → position (is_on p) s.tasks ≡ None → list_now u p ≡ list_now s p
others_keep s u p base same none = rw (none_on s.tasks u.tasks p same none, none, base) refl

calm_keeps : (s u : State) (p : ℕ) → u.base ≡ s.base → AreAll EntersNoFlight s.tasks u.tasks → position (is_on p) s.tasks ≡ None → list_now u p ≡ list_now s p
calm_keeps s u p base calm none = others_keep s u p base (same_calm s.tasks u.tasks calm) none

take_keeps : (s u : State) (p : ℕ) → u.base ≡ s.base → ((AreAll EntersNoFlight s.tasks u.tasks) ⊎ ((i : ℕ) × IsStart s u i)) → position (is_on p) s.tasks ≡ None → list_now u p ≡ list_now s p
take_keeps s u p base (inl c) none = calm_keeps s u p base c none
take_keeps s u p base (inr (i, st)) none = others_keep s u p base (same_start s u i st) none

pub others_keep_lists : OthersKeepLists
others_keep_lists s Take p can v l none = take_keeps s (after_event s Take) p (taken_base s (next_work s)) (take_is s) none
others_keep_lists s (Copied lease) p can v l none = calm_keeps s (after_event s (Copied lease)) p (ended_base one_copied s lease (test_lease s lease ForCopy)) (calm_copied s lease v) none
others_keep_lists s (CopyFailed lease) p can v l none = calm_keeps s (after_event s (CopyFailed lease)) p (ended_base one_failed s lease (test_lease s lease ForCopy)) (calm_copy_failed s lease v) none
others_keep_lists s (Committed lease) p can v l none = calm_keeps s (after_event s (Committed lease)) p (ended_base committed s lease (test_lease s lease ForCommit)) (calm_commit s lease v) none
others_keep_lists s (Cancelled lease) p can v l none = calm_keeps s (after_event s (Cancelled lease)) p (ended_base cancelled s lease (test_lease s lease ForCancel)) (calm_cancel s lease v) none
others_keep_lists s (GivenBack lease) p can v l none = calm_keeps s (after_event s (GivenBack lease)) p (end_lease_base s lease) (calm_end_lease s lease) none
others_keep_lists s (Stops force) p can v l none = calm_keeps s (after_event s (Stops force)) p (stop_base s force) (stop_calm s force) none
others_keep_lists s (Killed broker) p can v l none = calm_keeps s (after_event s (Killed broker)) p (kill_base s broker) (kill_calm s broker) none
others_keep_lists s (Launched proposals) p can v l none = launch_keeps_lists s proposals p can l
others_keep_lists s (CapsSet caps) p can v l none = refl

-- lists are short, and settled where nothing is in flight
pub unions_are_short : UnionsAreShort
unions_are_short s v = λ k d l. (union_short (get_or s.tasks k d).before (get_or s.tasks k d).after (v.each k d l).before_is (v.each k d l).after_is).1

pub lists_are_short : ListsAreShort
lists_are_short s p v l = list_short s p v l

pub drained_lists_are_settled : DrainedListsAreSettled
drained_lists_are_settled s v drained =
    let none = none_any (λ t. in_flight t.phase) s.tasks (not-true (list_any (λ t. in_flight t.phase) s.tasks) drained) in
    ap (λ (f : ℕ → List ℕ). each_below (λ p. f p ∷ []) (length s.base)) (fun_ext (list_settled s none))

pub settled_lists_are_replica_lists : SettledListsAreReplicaLists
settled_lists_are_replica_lists s v = λ i d m.
    let l : i < length s.base = rw (length-each_below (settled s) (length s.base)) at m in
    rw (get_or-each_below (settled s) (length s.base) i d l) (settled_is s i v l)
