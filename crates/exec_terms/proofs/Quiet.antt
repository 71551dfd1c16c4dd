-- A change of a task that raises no count, and what it leaves valid.
use Rattle.std.proofs.Common.{◌≡◌, ℕ, ◌<◌, ◌≤◌, Bool, true, not, ◌&&◌, List, map, length, set, arith}
use Rattle.std.proofs.lemmas.List.{length-set, length-map}
use Rattle.std.proofs.lemmas.Bool.{and_parts, and_from}
use Rattle.std.proofs.lemmas.List.Elements.{All-set, All-map, All-weaker}
use Rattle.exec_terms.specs.Words.{in_flight, is_unfinished, adds, removes, is_replica_task, holds, is_on}
use Rattle.exec_terms.specs.Machine.{State, no_task, task_at, with_task, leader_tasks, unfinished_replica_tasks}
use Rattle.exec_terms.specs.Valid.{IsOrderKept, IsTask, IsValid}
use Rattle.exec_terms.specs.declared.task.Task.{Task}
use Rattle.exec_terms.specs.declared.brokers.Host.{Host}
use Rattle.exec_terms.proofs.Counts.{count_by-map, count_by-set}

-- the task keeps its partition and its lists, and enters nothing: neither flight nor a lease
pub record IsQuiet (t u : Task) : Type 0 where
  pub part : u.part ≡ t.part
  pub before : u.before ≡ t.before
  pub after : u.after ≡ t.after
  pub flies : in_flight u.phase ≡ true → in_flight t.phase ≡ true
  pub unfinished : is_unfinished u.phase ≡ true → is_unfinished t.phase ≡ true
  pub holds : (n : ℕ) → holds n u ≡ true → holds n t ≡ true

-- each test that is counted holds of the changed task only where it held of the task
module _ (t u : Task) (q : IsQuiet t u) where
  pub quiet_adding : (b : ℕ) → (in_flight u.phase && adds u b) ≡ true → (in_flight t.phase && adds t b) ≡ true
  quiet_adding b h =
      let p = and_parts (in_flight u.phase) (adds u b) h in
      and_from (in_flight t.phase) (adds t b) (q.flies p.0) (rw (q.before, q.after) at p.1)

  pub quiet_removing : (b : ℕ) → (in_flight u.phase && removes u b) ≡ true → (in_flight t.phase && removes t b) ≡ true
  quiet_removing b h =
      let p = and_parts (in_flight u.phase) (removes u b) h in
      and_from (in_flight t.phase) (removes t b) (q.flies p.0) (rw (q.before, q.after) at p.1)

  pub quiet_replica : (in_flight u.phase && is_replica_task u) ≡ true → (in_flight t.phase && is_replica_task t) ≡ true
  quiet_replica h =
      let p = and_parts (in_flight u.phase) (is_replica_task u) h in
      and_from (in_flight t.phase) (is_replica_task t) (q.flies p.0) (rw (q.before, q.after) at p.1)

  pub quiet_leader : (in_flight u.phase && not (is_replica_task u)) ≡ true → (in_flight t.phase && not (is_replica_task t)) ≡ true
  quiet_leader h =
      let p = and_parts (in_flight u.phase) (not (is_replica_task u)) h in
      and_from (in_flight t.phase) (not (is_replica_task t)) (q.flies p.0) (rw (q.before, q.after) at p.1)

  pub quiet_unfinished : (is_unfinished u.phase && is_replica_task u) ≡ true → (is_unfinished t.phase && is_replica_task t) ≡ true
  quiet_unfinished h =
      let p = and_parts (is_unfinished u.phase) (is_replica_task u) h in
      and_from (is_unfinished t.phase) (is_replica_task t) (q.unfinished p.0) (rw (q.before, q.after) at p.1)

  pub quiet_on : (p : ℕ) → is_on p u ≡ true → is_on p t ≡ true
  quiet_on p h = rw q.part at h

pub IsOrderKept-less : (xs ys : List Task) → leader_tasks ys ≤ leader_tasks xs → unfinished_replica_tasks ys ≤ unfinished_replica_tasks xs → IsOrderKept xs → IsOrderKept ys
IsOrderKept-less xs ys l u h = record { waits = λ some. let e : unfinished_replica_tasks xs ≡ 0 = h.waits (omega arith) in omega (arith, e, u) }

-- one task changes
pub IsValid-set : (s : State) (i : ℕ) (u : Task) → i < length s.tasks
    → IsQuiet (task_at s.tasks i) u → IsTask s.base s.hosts s.stopped s.leases u → IsValid s → IsValid (with_task s i u)
IsValid-set s i u l q ok v = record {
  broker_cap = v.broker_cap;
  cluster_cap = v.cluster_cap;
  leader_cap = v.leader_cap;
  few_chunks = v.few_chunks;
  base_lists = v.base_lists;
  few_tasks = rw (length-set s.tasks i u) v.few_tasks;
  order = IsOrderKept-less s.tasks (set s.tasks i u)
      (count_by-set (λ t. in_flight t.phase && not (is_replica_task t)) s.tasks i u no_task l (quiet_leader (task_at s.tasks i) u q))
      (count_by-set (λ t. is_unfinished t.phase && is_replica_task t) s.tasks i u no_task l (quiet_unfinished (task_at s.tasks i) u q))
      v.order;
  one_task = λ p. omega (arith, v.one_task p, count_by-set (is_on p) s.tasks i u no_task l (quiet_on (task_at s.tasks i) u q p));
  one_holder = λ n. omega (arith, v.one_holder n, count_by-set (holds n) s.tasks i u no_task l (q.holds n));
  each = All-set (IsTask s.base s.hosts s.stopped s.leases) s.tasks i u ok v.each;
}

-- every task changes
pub IsValid-map : (s : State) (f : Task → Task) (hosts' : List Host) (stopped' : Bool)
    → ((t : Task) → IsQuiet t (f t))
    → ((t : Task) → IsTask s.base s.hosts s.stopped s.leases t → IsTask s.base hosts' stopped' s.leases (f t))
    → IsValid s → IsValid (record s { tasks = map f s.tasks; hosts = hosts'; stopped = stopped' })
IsValid-map s f hosts' stopped' q ok v = record {
  broker_cap = v.broker_cap;
  cluster_cap = v.cluster_cap;
  leader_cap = v.leader_cap;
  few_chunks = v.few_chunks;
  base_lists = v.base_lists;
  few_tasks = rw (length-map s.tasks f) v.few_tasks;
  order = IsOrderKept-less s.tasks (map f s.tasks)
      (count_by-map (λ t. in_flight t.phase && not (is_replica_task t)) f (λ t. quiet_leader t (f t) (q t)) s.tasks)
      (count_by-map (λ t. is_unfinished t.phase && is_replica_task t) f (λ t. quiet_unfinished t (f t) (q t)) s.tasks)
      v.order;
  one_task = λ p. omega (arith, v.one_task p, count_by-map (is_on p) f (λ t. quiet_on t (f t) (q t) p) s.tasks);
  one_holder = λ n. omega (arith, v.one_holder n, count_by-map (holds n) f (λ t. (q t).holds n) s.tasks);
  each = All-map (IsTask s.base hosts' stopped' s.leases) f s.tasks
      (All-weaker (IsTask s.base s.hosts s.stopped s.leases) (λ t. IsTask s.base hosts' stopped' s.leases (f t)) ok s.tasks v.each);
}
