-- A launch: its lists are of known brokers, and what is kept beside the new tasks.
use Rattle.std.proofs.Common.{◌≡◌, ℕ, ◌<◌, ◌≤◌, Bool, true, false, not, ◌&&◌, List, [], ◌∷◌, map, length, get_or, refl, sym, ap, ◌∙◌}
use Rattle.std.specs.Prelude.{Option, Some, None}
use Rattle.std.specs.List.{All, list_all, position}
use Rattle.std.proofs.lemmas.Bool.{true≢false}
use Rattle.std.proofs.lemmas.List.{get_or-map, length-map}
use Rattle.std.proofs.lemmas.List.Elements.{All-nil}
use Rattle.std.proofs.lemmas.List.Quantifiers.{position-Some}
use Rattle.std.proofs.Math.Path.{fun_ext}
use Rattle.plan_terms.specs.Belongs.{AreReplicaLists, distinct}
use Rattle.plan_terms.specs.Cluster.{Lists, has}
use Rattle.plan_terms.specs.declared.lists.Proposal.{Proposal}
use Rattle.exec_terms.specs.declared.phase.Phase.{Phase}
use Rattle.exec_terms.specs.declared.phase.Phase.TheVariants.{Pending, InProgress, Aborting, Aborted, Completed, Dead}
use Rattle.exec_terms.specs.declared.task.Task.{Task}
use Rattle.plan_terms.specs.declared.settings.Caps.{Caps}
use Rattle.exec_terms.specs.declared.brokers.Host.{Host}
use Rattle.exec_terms.specs.Words.{in_flight, is_unfinished, list_in, is_on, union_of}
use Rattle.exec_terms.specs.Machine.{State, no_task, task_at, list_by, list_now, lists_now, task_of, first_unfinished}
use Rattle.exec_terms.specs.Stops.{is_host}
use Rattle.exec_terms.specs.Runs.{CanLaunch, hosts_of}
use Rattle.exec_terms.proofs.Launch.{length-each_below, get_or-each_below, all_pending, IsValid-new}
use Rattle.exec_terms.proofs.WorkLeft.{position-None}
use Rattle.plan_terms.specs.Change.{gains, differ}
use Rattle.cap_ledger.specs.Ledger.{Ledger, IsEmpty}
use Rattle.task_planner.specs.declared.slot.Slot.{Slot}
use Rattle.task_index.specs.Index.{Marks, marks_of, no_marks}
use Rattle.task_planner.specs.Queue.{IsListOf, AreListsOf, waiting}
use Rattle.executor_core.specs.Kept.{proposal_of}
use Rattle.executor_core.specs.Kept.{AreCounts, slot_of, IsFixed, unfinished_tasks, IsKept}
use Rattle.executor_core.proofs.Unfinished.{unfinished-new}
use Rattle.executor_core.proofs.Beside.{is_host-has}
use Rattle.executor_core.proofs.Marked.{marks-new}
use Rattle.executor_core.proofs.Flying.{flying, flying-none}

pub proposals_again : (chunks : List ℕ) (ps : List Proposal) → map proposal_of (map (task_of chunks) ps) ≡ ps
proposals_again chunks [] = refl
proposals_again chunks (p ∷ ps) = ap (λ (qs : List Proposal). p ∷ qs) (proposals_again chunks ps)

pub slots_are : (chunks : List ℕ) (ps : List Proposal) → map slot_of (map (task_of chunks) ps) ≡ map waiting ps
slots_are chunks [] = refl
slots_are chunks (p ∷ ps) = ap (λ (slots : List Slot). waiting p ∷ slots) (slots_are chunks ps)

-- the list of a task that has ended is one of its two
ended_list : (P : List ℕ → Type 0) (p : Phase) (before after : List ℕ) → is_unfinished p ≡ false → P before → P after → P (list_in p before after)
ended_list P Pending before after e b a = absurd (true≢false e)
ended_list P InProgress before after e b a = absurd (true≢false e)
ended_list P Aborting before after e b a = absurd (true≢false e)
ended_list P Aborted before after e b a = b
ended_list P Completed before after e b a = a
ended_list P Dead before after e b a = b

-- no new task is in flight
flying-new : (P : List ℕ → List ℕ → Bool) (chunks : List ℕ) (ps : List Proposal) → flying P (map (task_of chunks) ps) ≡ 0
flying-new P chunks ps = all_pending (λ t. in_flight t.phase && P t.before t.after) chunks ps (λ q. refl)

module _ (s : State) (brokers : List ℕ) (unions : Lists) (old : List Proposal) (l : Ledger) (left : ℕ) (queue : List Slot) (index : Marks) (k : IsKept s brokers unions old l left queue index) (none : first_unfinished s ≡ None) where
  task_lists : (i : ℕ) → i < length s.tasks → AreListsOf brokers (proposal_of (task_at s.tasks i))
  task_lists i m =
      let all : All (AreListsOf brokers) (map proposal_of s.tasks) = rw (← k.fixed.proposals_are) k.fixed.task_lists in
      let here : get_or (map proposal_of s.tasks) i (proposal_of no_task) ≡ proposal_of (task_at s.tasks i) = get_or-map proposal_of s.tasks i no_task (proposal_of no_task) m in
      rw here at (all i (proposal_of no_task) (rw length-map m))

  -- between two executions each list is of known brokers
  list_known : (p : ℕ) → p < length s.base → IsListOf brokers (list_now s p)
  list_known p m = by (position (is_on p) s.tasks) refl where
    by : (o : Option ℕ) → position (is_on p) s.tasks ≡ o → IsListOf brokers (list_by s p o)
    by None e = k.fixed.base_lists p [] m
    by (Some i) e =
        let f = position-Some (is_on p) s.tasks i no_task e in
        let t : Task = task_at s.tasks i in
        let lists = task_lists i f.0 in
        let P : List ℕ → Type 0 = IsListOf brokers in
        ended_list P t.phase t.before t.after (position-None (λ t. is_unfinished t.phase) s.tasks i no_task none f.0) lists.before lists.after

  -- so are those of the proposals
  pub lists_known : (proposals : List Proposal) → CanLaunch s proposals → All (AreListsOf brokers) proposals
  lists_known proposals can = λ i d m.
      let p : Proposal = get_or proposals i d in
      let same : (b : ℕ) → is_host s.hosts b ≡ has brokers b = λ b. is_host-has s.hosts b ∙ ap (λ (ids : List ℕ). has ids b) k.fixed.hosts_are in
      record {
        before = let P : List ℕ → Type 0 = IsListOf brokers in rw (can.before i d m) (list_known p.part (can.known i d m));
        after = record {
          known = ap (λ (q : ℕ → Bool). list_all q p.after) (sym (fun_ext same)) ∙ can.brokers i d m;
          once = (can.lists i d m).once;
        };
      }

  pub kept_launched : (base unions' : Lists) (tasks : List Task) (proposals copies : List Proposal) (queue' : List Slot) → CanLaunch s proposals
      → (index' : Marks) → base ≡ lists_now s → tasks ≡ map (task_of s.chunks) proposals → unions' ≡ map union_of tasks → copies ≡ proposals → queue' ≡ map waiting proposals
      → index' ≡ no_marks (length proposals)
      → IsFixed brokers s.hosts base tasks unions' copies × AreCounts s.hosts tasks l × (queue' ≡ map slot_of tasks) × (length proposals ≡ unfinished_tasks tasks) × (index' ≡ marks_of tasks)
  kept_launched base unions' tasks proposals copies queue' can index' b t u c q m = (
    record {
      hosts_are = k.fixed.hosts_are;
      once = k.fixed.once;
      base_lists = rw b (λ i d m.
          let n : i < length s.base = rw (length-each_below (list_now s) (length s.base)) at m in
          rw (get_or-each_below (list_now s) (length s.base) i d n) (list_known i n));
      task_lists = rw c (lists_known proposals can);
      unions_are = u;
      proposals_are = c ∙ sym (ap (map proposal_of) t ∙ proposals_again s.chunks proposals);
    },
    record {
      known = k.counts_are.known;
      adding = λ n. k.counts_are.adding n ∙ no_change (λ before after. gains before after n);
      removing = λ n. k.counts_are.removing n ∙ no_change (λ before after. gains after before n);
      replica = k.counts_are.replica ∙ no_change differ;
      leader = k.counts_are.leader ∙ no_change (λ before after. not (differ before after));
    },
    q ∙ sym (ap (map slot_of) t ∙ slots_are s.chunks proposals),
    rw t (sym (unfinished-new s.chunks proposals)),
    m ∙ sym (ap marks_of t ∙ marks-new s.chunks proposals),
  ) where
    no_change : (P : List ℕ → List ℕ → Bool) → flying P s.tasks ≡ flying P tasks
    no_change P = flying-none P s.tasks none ∙ sym (ap (flying P) t ∙ flying-new P s.chunks proposals)

-- the brokers of new hosts
pub ids_of_hosts : (brokers dead : List ℕ) → map (λ (h : Host). h.id) (hosts_of brokers dead) ≡ brokers
ids_of_hosts [] dead = refl
ids_of_hosts (b ∷ bs) dead = ap (λ (ids : List ℕ). b ∷ ids) (ids_of_hosts bs dead)

-- what a new executor keeps
pub kept_new : (lists base : Lists) (chunks : List ℕ) (caps : Caps) (brokers dead ids : List ℕ) (hosts : List Host) (tasks : List Task) (unions : Lists) (proposals none : List Proposal) (l : Ledger) (queue : List Slot) (index : Marks)
    → base ≡ lists → ids ≡ brokers → hosts ≡ hosts_of brokers dead → tasks ≡ [] → unions ≡ [] → proposals ≡ [] → queue ≡ map waiting none → none ≡ [] → index ≡ no_marks 0
    → All (λ n. n ≤ 1000) chunks → 1 ≤ caps.broker → 1 ≤ caps.cluster → 1 ≤ caps.leader
    → distinct brokers ≡ true → AreReplicaLists lists → All (λ list. list_all (has brokers) list ≡ true) lists → IsEmpty brokers l
    → IsKept (record { base = base; chunks = chunks; caps = caps; hosts = hosts; tasks = tasks; stopped = false; leases = 0 }) ids unions proposals l 0 queue index
kept_new lists base chunks caps brokers dead ids hosts tasks unions proposals none l queue index b i h t u p q n m few broker cluster leader once are known empty = rw (b, i, h, t, u, p, q, n, m) (record {
  valid = IsValid-new lists chunks caps (hosts_of brokers dead) are few broker cluster leader;
  fixed = record {
    hosts_are = ids_of_hosts brokers dead;
    once = once;
    base_lists = λ i d m. record { known = known i d m; once = (are i d m).once };
    task_lists = All-nil (AreListsOf brokers);
    unions_are = refl;
    proposals_are = refl;
  };
  counts_are = record {
    known = λ b. empty.known b ∙ ap (λ (ids : List ℕ). has ids b) (sym (ids_of_hosts brokers dead)) ∙ sym (is_host-has (hosts_of brokers dead) b);
    adding = empty.adding;
    removing = empty.removing;
    replica = empty.replica;
    leader = empty.leader;
  };
  left_is = refl;
  queue_is = refl;
  index_is = refl;
})
