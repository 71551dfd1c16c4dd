-- A plan for a job as it is now can be launched where no task is unfinished.
use Rattle.std.proofs.Common.{◌≡◌, ◌∙◌, ℕ, ◌<◌, ◌≤◌, Bool, true, false, not, ◌&&◌, ◌||◌, List, [], ◌∷◌, map, length, get_or, arith, refl, sym, ap}
use Rattle.std.specs.Prelude.{◌==◌, None}
use Rattle.std.specs.List.{All, list_all}
use Rattle.std.proofs.lemmas.Bool.{and_from, and_left, and_right, or_from, eq-eqb, false_from_ne_true, true≢false}
use Rattle.std.proofs.lemmas.List.Folds.{list_any_at}
use Rattle.std.proofs.Math.Path.{fun_ext}
use Rattle.plan_terms.specs.Belongs.{IsReplicaList}
use Rattle.plan_terms.specs.Change.{proposal_at, proposals}
use Rattle.plan_terms.specs.Cluster.{Cluster, Lists, list_of, has, leads}
use Rattle.plan_terms.specs.Legal.{is_lost}
use Rattle.plan_terms.proofs.FaultLemmas.{few_parts}
use Rattle.goal_set.specs.Kept.{PlanView, IsPlan}
use Rattle.cluster_json.specs.File.{Meaning}
use Rattle.exec_terms.specs.Machine.{State, task_of, list_now, first_unfinished}
use Rattle.exec_terms.specs.Runs.{CanLaunch}
use Rattle.exec_terms.specs.Settled.{settled, settled_lists}
use Rattle.exec_terms.specs.Stops.{is_host, has_died}
use Rattle.exec_terms.specs.Words.{adds, is_replica_task, needs}
use Rattle.exec_terms.specs.declared.brokers.Host.{Host}
use Rattle.exec_terms.proofs.Launch.{length-each_below, get_or-each_below}
use Rattle.exec_terms.proofs.SettledLists.{list_settled, none_flies}
use Rattle.core_terms.specs.Asked.{case_of}
use Rattle.core_terms.specs.Input.{IsInput}
use Rattle.core_terms.specs.Problem.{ProblemView}
use Rattle.core_terms.specs.State.{Core, present, moment_of, job_at}
use Rattle.core_terms.specs.Jobs.{user_task_at, is_active}
use Rattle.core_terms.specs.Plans.{is_plan_for, problem_at, problem_of_plan}
use Rattle.core_terms.specs.Sound.{IsSound, BeginsWithEvacuation}
use Rattle.core_terms.proofs.Sameness.{sameness_is_equality}
use Rattle.core_laws.proofs.Brokers.{ids, leads-has, member, is_known-has}
use Rattle.exec_terms.proofs.Changes.{proposals_all, few_proposals, one_each}
use Rattle.core_laws.proofs.Clusters.{SameShape, known_lists_same, shape_case, died_is_lost}
use Rattle.core_laws.proofs.Evacuated.{plan_evacuated}

pub is_host-has : (hosts : List Host) (b : ℕ) → is_host hosts b ≡ has (map (λ (h : Host). h.id) hosts) b
is_host-has [] b = refl
is_host-has (h ∷ hs) b = ap (λ (c : Bool). (h.id == b) || c) (is_host-has hs b)

-- a plan of a case that has the shape of the cluster, whose brokers that died are lost in the case
module _ (c : Cluster) (s : State) (p : PlanView) (plan : IsPlan p) (first : BeginsWithEvacuation p.goals) (shape : SameShape p.case c) (few : length c.parts ≤ 10000)
    (hosts_are : map (λ h. h.id) s.hosts ≡ map (λ b. b.id) c.brokers) (base_is : length s.base ≡ length c.parts) (start_is : p.start ≡ settled_lists s) (none : first_unfinished s ≡ None)
    (lost : (b : ℕ) → has_died s.hosts b ≡ true → has (ids c.brokers) b ≡ true → is_lost p.case b ≡ true) where
  long : length p.start ≡ length s.base
  long = ap (λ (ls : Lists). length ls) start_is ∙ length-each_below (settled s) (length s.base)

  end_long : length p.end ≡ length p.start
  end_long = plan.end_belongs.one_each ∙ sym plan.start_belongs.one_each

  host_known : (b : ℕ) → is_host s.hosts b ≡ has (ids c.brokers) b
  host_known b = is_host-has s.hosts b ∙ ap (λ (bs : List ℕ). has bs b) hosts_are

  before_is : (k : ℕ) → k < length p.start → list_of p.start k ≡ list_now s k
  before_is k l =
      let m : k < length s.base = omega (arith, l, long) in
      ap (λ (ls : Lists). list_of ls k) start_is ∙ get_or-each_below (settled s) (length s.base) k [] m ∙ sym (list_settled s (none_flies s none) k)

  hosts_known : (k : ℕ) → k < length p.start → list_all (is_host s.hosts) (list_of p.end k) ≡ true
  hosts_known k l =
      ap (λ (q : ℕ → Bool). list_all q (list_of p.end k)) (fun_ext (λ (b : ℕ). host_known b ∙ sym (is_known-has c.brokers b)))
      ∙ sym (known_lists_same p.case c (list_of p.end k) shape)
      ∙ plan.end_belongs.known k [] (omega (arith, l, end_long))

  none_needed : (k : ℕ) → k < length p.start → All (λ h. h.dead ≡ true → needs (task_of s.chunks (proposal_at p.start p.end k)) h.id ≡ false) s.hosts
  none_needed k l = λ j d m dead.
      let b : ℕ = (get_or s.hosts j d).id in
      let here : (b == b) ≡ true = eq-eqb b b refl in
      let known : has (ids c.brokers) b ≡ true = sym (host_known b) ∙ list_any_at (λ h. h.id == b) s.hosts j d m here in
      let died : has_died s.hosts b ≡ true = list_any_at (λ h. (h.id == b) && h.dead) s.hosts j d m (and_from (b == b) (get_or s.hosts j d).dead here dead) in
      let out : has (list_of p.end k) b ≡ false = false_from_ne_true (has (list_of p.end k) b) (λ h. true≢false (sym (lost b died known)
      ∙ member (is_lost p.case) (list_of p.end k) b (plan_evacuated p plan first k [] (omega (arith, l, end_long))) h)) in
      or_from (adds (task_of s.chunks (proposal_at p.start p.end k)) b) (not (is_replica_task (task_of s.chunks (proposal_at p.start p.end k))) && leads (list_of p.end k) b)
      (and_left (has (list_of p.end k) b) (not (has (list_of p.start k) b)) out)
      (and_right (not (is_replica_task (task_of s.chunks (proposal_at p.start p.end k)))) (leads (list_of p.end k) b) (leads-has (list_of p.end k) b out))

  pub can_launch : CanLaunch s (proposals p.start p.end)
  can_launch = record {
    few = omega (arith, few_proposals p.start p.end, long, base_is, few);
    known = proposals_all p.start p.end (λ q. q.part < length s.base) (λ k l. omega (arith, l, long));
    before = proposals_all p.start p.end (λ q. q.before ≡ list_now s q.part) before_is;
    lists = proposals_all p.start p.end (λ q. IsReplicaList q.after) (λ k l. plan.end_belongs.lists_are k [] (omega (arith, l, end_long)));
    brokers = proposals_all p.start p.end (λ q. list_all (is_host s.hosts) q.after ≡ true) hosts_known;
    distinct = one_each p.start p.end;
    alive = proposals_all p.start p.end (λ q. All (λ (h : Host). h.dead ≡ true → needs (task_of s.chunks q) h.id ≡ false) s.hosts) none_needed;
  }

-- what a plan is for, where it is for the job at place i as it is now
module _ (file : Meaning) (s : Core) (i : ℕ) (p : PlanView) (is : is_plan_for (moment_of file s).cluster s.desk i p ≡ true) where
  problem_is : problem_of_plan p ≡ problem_at (moment_of file s).cluster s.desk i
  problem_is = (sameness_is_equality.problems (problem_of_plan p) (problem_at (moment_of file s).cluster s.desk i)).0 is

  pub case_is : p.case ≡ case_of (user_task_at s.desk.tasks i).ask (present file s.desk.exec.hosts s.samples)
  unfolding problem_at
  case_is = ap (λ (x : ProblemView). x.case) problem_is

  pub start_is : p.start ≡ settled_lists s.desk.exec
  unfolding problem_at
  start_is = ap (λ (x : ProblemView). x.start) problem_is

  pub goals_are : p.goals ≡ (job_at s.desk.jobs i).goals
  unfolding problem_at
  goals_are = ap (λ (x : ProblemView). x.goals) problem_is

  pub shape_is : SameShape p.case file.cluster
  shape_is = rw case_is (shape_case file s.desk.exec.hosts s.samples (user_task_at s.desk.tasks i).ask)

  pub plan_launches : IsInput file → IsSound file s.desk → IsPlan p → i < length s.desk.jobs → is_active (user_task_at s.desk.tasks i).status ≡ true → first_unfinished s.desk.exec ≡ None
      → CanLaunch s.desk.exec (proposals p.start p.end)
  plan_launches input sound plan l active none =
      let first : BeginsWithEvacuation p.goals = rw goals_are ((sound.jobs i l).evacuates active) in
      can_launch file.cluster s.desk.exec p plan first shape_is (few_parts file.cluster input.case) sound.exec.brokers sound.exec.base.one_each start_is none
      (λ b died known. rw case_is (died_is_lost file s.desk.exec.hosts s.samples (user_task_at s.desk.tasks i).ask b died known))
