-- What can be launched: the proposals between two assignments, by a new executor of the first, and no proposals at all.
use Rattle.std.proofs.Common.{◌≡◌, ℕ, ◌<◌, ◌≤◌, Bool, true, false, not, ◌&&◌, List, [], ◌∷◌, map, length, get_or, arith, refl, sym, ap, ◌∙◌, zero, suc}
use Rattle.std.specs.List.{All, list_any, list_all}
use Rattle.std.proofs.lemmas.Bool.{and_parts, or_from, and_left, and_right, not-true}
use Rattle.std.proofs.Math.Path.{fun_ext}
use Rattle.plan_terms.specs.Belongs.{Belongs, IsReplicaList, distinct}
use Rattle.plan_terms.specs.Change.{proposal_at, proposals}
use Rattle.plan_terms.specs.Cluster.{Cluster, Lists, list_of, has, leads}
use Rattle.plan_terms.specs.Legal.{is_lost}
use Rattle.plan_terms.specs.Faults.{IsCase}
use Rattle.plan_terms.specs.declared.cluster.Part.{Part}
use Rattle.plan_terms.proofs.FaultLemmas.{few_parts}
use Rattle.exec_terms.specs.Words.{adds, is_replica_task, needs}
use Rattle.exec_terms.specs.Machine.{State, task_of}
use Rattle.exec_terms.specs.Runs.{CanLaunch, hosts_of, opening}
use Rattle.exec_terms.specs.Stops.{is_host}
use Rattle.plan_terms.specs.declared.settings.Caps.{Caps}
use Rattle.exec_terms.specs.declared.brokers.Host.{Host}
use Rattle.executor_core.proofs.Beside.{is_host-has}
use Rattle.executor_core.proofs.Brokers.{ids, lost_ids, ids_once, not_among, leads-has, members_known}
use Rattle.executor_core.proofs.Launching.{ids_of_hosts}
use Rattle.exec_terms.proofs.Changes.{proposals_all, few_proposals, one_each}

-- what leads from one assignment of a case to another, where no list of the other has a lost member
module _ (c : Cluster) (before after : Lists) (caps : Caps) (case : IsCase c) (belongs : Belongs c before) (belongs' : Belongs c after)
    (no_lost : All (λ list. list_any (is_lost c) list ≡ false) after) where
  abbrev chunks : List ℕ
  chunks = map (λ (p : Part). p.chunks) c.parts

  abbrev hosts : List Host
  hosts = hosts_of (ids c.brokers) (lost_ids c.brokers)

  abbrev new : State
  new = opening c before caps

  same : length before ≡ length after
  same = belongs.one_each ∙ sym belongs'.one_each

  few : length before ≤ 10000
  few = omega (arith, belongs.one_each, few_parts c case)

  once : distinct (ids c.brokers) ≡ true
  once = ids_once c case

  ids_of : map (λ (h : Host). h.id) hosts ≡ ids c.brokers
  ids_of = ids_of_hosts (ids c.brokers) (lost_ids c.brokers)

  hosts_known : (p : ℕ) → p < length before → list_all (is_host hosts) (list_of after p) ≡ true
  hosts_known p l =
      ap (λ (q : ℕ → Bool). list_all q (list_of after p)) (fun_ext (λ (b : ℕ). is_host-has hosts b ∙ ap (λ (bs : List ℕ). has bs b) ids_of))
      ∙ members_known c after belongs'.known p [] (omega (arith, same, l))

  -- a dead host is among the lost brokers
  dead_lost : (brokers dead : List ℕ) (k : ℕ) (d : Host) → k < length (hosts_of brokers dead) → (get_or (hosts_of brokers dead) k d).dead ≡ true → has dead (get_or (hosts_of brokers dead) k d).id ≡ true
  dead_lost [] dead k d l h = absurd (omega arith)
  dead_lost (b ∷ bs) dead zero d l h = h
  dead_lost (b ∷ bs) dead (suc k) d l h = dead_lost bs dead k d (omega arith) h

  none_needed : (p : ℕ) → p < length before → All (λ h. h.dead ≡ true → needs (task_of chunks (proposal_at before after p)) h.id ≡ false) hosts
  none_needed p l = λ k d m e.
      let b : ℕ = (get_or hosts k d).id in
      let out : has (list_of after p) b ≡ false = not_among c (list_of after p) b once (no_lost p [] (omega (arith, same, l))) (dead_lost (ids c.brokers) (lost_ids c.brokers) k d m e) in
      or_from (adds (task_of chunks (proposal_at before after p)) b) (not (is_replica_task (task_of chunks (proposal_at before after p))) && leads (list_of after p) b)
      (and_left (has (list_of after p) b) (not (has (list_of before p) b)) out)
      (and_right (not (is_replica_task (task_of chunks (proposal_at before after p)))) (leads (list_of after p) b) (leads-has (list_of after p) b out))

  pub can_launch : CanLaunch new (proposals before after)
  can_launch = record {
    few = omega (arith, few_proposals before after, few);
    known = proposals_all before after (λ q. q.part < length before) (λ p l. l);
    before = proposals_all before after (λ q. q.before ≡ list_of before q.part) (λ p l. refl);
    lists = proposals_all before after (λ q. IsReplicaList q.after) (λ p l. belongs'.lists_are p [] (omega (arith, same, l)));
    brokers = proposals_all before after (λ q. list_all (is_host hosts) q.after ≡ true) hosts_known;
    distinct = one_each before after;
    alive = proposals_all before after (λ q. All (λ (h : Host). h.dead ≡ true → needs (task_of chunks q) h.id ≡ false) hosts) none_needed;
  }

-- what a test says of all elements
all_pass : {X : Type 0} (p : X → Bool) (xs : List X) → list_all p xs ≡ true → All (λ x. p x ≡ true) xs
all_pass p [] h = λ k d l. absurd (omega (arith, l))
all_pass {X} p (x ∷ xs) h = λ k d l. place k d l (λ j m. all_pass p xs (and_parts (p x) (list_all p xs) h).1 j d m) where
  place : (k : ℕ) (d : X) → k < length (x ∷ xs) → ((j : ℕ) → j < length xs → p (get_or xs j d) ≡ true) → p (get_or (x ∷ xs) k d) ≡ true
  place zero d l more = (and_parts (p x) (list_all p xs) h).0
  place (suc k) d l more = more k (omega arith)

-- lists of which each passes the test have no lost member
pub none_lost : (c : Cluster) (lists : Lists) → list_all (λ list. not (list_any (is_lost c) list)) lists ≡ true → All (λ list. list_any (is_lost c) list ≡ false) lists
none_lost c lists h = λ k d l. not-true _ (all_pass (λ list. not (list_any (is_lost c) list)) lists h k d l)

-- no proposals
pub can_launch_none : (s : State) → CanLaunch s []
can_launch_none s = record {
  few = omega arith;
  known = λ k d l. absurd (omega (arith, l));
  before = λ k d l. absurd (omega (arith, l));
  lists = λ k d l. absurd (omega (arith, l));
  brokers = λ k d l. absurd (omega (arith, l));
  distinct = λ n. omega arith;
  alive = λ k d l. absurd (omega (arith, l));
}
