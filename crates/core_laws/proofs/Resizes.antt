-- A change of the replication factor can be launched where no task is unfinished.
use Rattle.std.proofs.Common.{◌≡◌, ◌∙◌, ℕ, ◌<◌, ◌≤◌, Bool, true, false, not, ◌&&◌, ◌||◌, List, [], map, length, get_or, arith, refl, sym, ap}
use Rattle.std.specs.Prelude.{◌==◌, nat_le, None}
use Rattle.std.specs.List.{All, list_all}
use Rattle.std.proofs.lemmas.Bool.{and_from, eq-eqb, false≢true, true≢false}
use Rattle.std.proofs.lemmas.Bool.Decides.{nat_tests}
use Rattle.std.proofs.lemmas.List.{length-map}
use Rattle.std.proofs.lemmas.Slice.Eq.{bytes_eq-Decides}
use Rattle.std.proofs.lemmas.List.Folds.{list_any_at}
use Rattle.std.proofs.Math.Path.{fun_ext}
use Rattle.plan_terms.specs.Belongs.{Belongs, IsReplicaList}
use Rattle.plan_terms.specs.Change.{gains, differ, is_change, same_list, proposal_at, proposals}
use Rattle.plan_terms.specs.Cluster.{Cluster, Lists, list_of, has, leads}
use Rattle.plan_terms.proofs.FaultLemmas.{few_parts}
use Rattle.cluster_json.specs.File.{Meaning}
use Rattle.exec_terms.specs.Machine.{State, task_of, list_now, first_unfinished}
use Rattle.exec_terms.specs.Runs.{CanLaunch}
use Rattle.exec_terms.specs.Settled.{settled, settled_lists}
use Rattle.exec_terms.specs.Stops.{is_host, has_died}
use Rattle.exec_terms.specs.Words.{needs}
use Rattle.exec_terms.specs.declared.brokers.Host.{Host}
use Rattle.exec_terms.proofs.Changes.{few_proposals, one_each, proposals_all, proposals_changed}
use Rattle.exec_terms.proofs.Launch.{length-each_below, get_or-each_below}
use Rattle.exec_terms.proofs.SettledLists.{list_settled, none_flies}
use Rattle.user_tasks.specs.Asks.{AskView, changes_factor}
use Rattle.user_tasks.specs.Factors.{changes_topics}
use Rattle.factor_change.specs.Laws.{HasDistinctIds, IsResized}
use Rattle.factor_change.proofs.Resizing.{resized_lists}
use Rattle.load_model.proofs.Ids.{ids-once}
use Rattle.core_terms.specs.Input.{IsInput}
use Rattle.core_terms.specs.State.{Core, moment_of}
use Rattle.core_terms.specs.Submits.{changes_asked, lists_asked, resize_refusal}
use Rattle.core_terms.specs.Sound.{IsListOf, IsSound}
use Rattle.core_laws.proofs.Brokers.{ids, is_known-has}
use Rattle.core_laws.proofs.Clusters.{belongs_same, died_lives_not, shape_back, shape_present}
use Rattle.core_laws.proofs.Settled.{settled_belongs}
use Rattle.core_laws.proofs.Launchable.{is_host-has}

-- the lists of a cluster become others of it that add no lost broker
module _ (c : Cluster) (s : State) (end : Lists) (few : length c.parts ≤ 10000) (hosts_are : map (λ h. h.id) s.hosts ≡ map (λ b. b.id) c.brokers) (base_is : length s.base ≡ length c.parts)
    (none : first_unfinished s ≡ None) (ends : Belongs c end)
    (free : (k b : ℕ) → k < length (settled_lists s) → is_change (proposal_at (settled_lists s) end k) ≡ true → has_died s.hosts b ≡ true → has (ids c.brokers) b ≡ true
    → needs (task_of s.chunks (proposal_at (settled_lists s) end k)) b ≡ false) where
  abbrev pub start : Lists
  start = settled_lists s

  long : length start ≡ length s.base
  long = length-each_below (settled s) (length s.base)

  end_long : length end ≡ length start
  end_long = ends.one_each ∙ sym base_is ∙ sym long

  host_known : (b : ℕ) → is_host s.hosts b ≡ has (ids c.brokers) b
  host_known b = is_host-has s.hosts b ∙ ap (λ (bs : List ℕ). has bs b) hosts_are

  before_is : (k : ℕ) → k < length start → list_of start k ≡ list_now s k
  before_is k l =
      let m : k < length s.base = omega (arith, l, long) in
      get_or-each_below (settled s) (length s.base) k [] m ∙ sym (list_settled s (none_flies s none) k)

  hosts_known : (k : ℕ) → k < length start → list_all (is_host s.hosts) (list_of end k) ≡ true
  hosts_known k l =
      ap (λ (q : ℕ → Bool). list_all q (list_of end k)) (fun_ext (λ (b : ℕ). host_known b ∙ sym (is_known-has c.brokers b)))
      ∙ ends.known k [] (omega (arith, l, end_long))

  none_needed : (k : ℕ) → k < length start → is_change (proposal_at start end k) ≡ true → All (λ h. h.dead ≡ true → needs (task_of s.chunks (proposal_at start end k)) h.id ≡ false) s.hosts
  none_needed k l new = λ j d m dead.
      let b : ℕ = (get_or s.hosts j d).id in
      let here : (b == b) ≡ true = eq-eqb b b refl in
      let known : has (ids c.brokers) b ≡ true = sym (host_known b) ∙ list_any_at (λ h. h.id == b) s.hosts j d m here in
      let died : has_died s.hosts b ≡ true = list_any_at (λ h. (h.id == b) && h.dead) s.hosts j d m (and_from (b == b) (get_or s.hosts j d).dead here dead) in
      free k b l new died known

  pub others_can_launch : CanLaunch s (proposals start end)
  others_can_launch = record {
    few = omega (arith, few_proposals start end, long, base_is, few);
    known = proposals_all start end (λ q. q.part < length s.base) (λ k l. omega (arith, l, long));
    before = proposals_all start end (λ q. q.before ≡ list_now s q.part) before_is;
    lists = proposals_all start end (λ q. IsReplicaList q.after) (λ k l. ends.lists_are k [] (omega (arith, l, end_long)));
    brokers = proposals_all start end (λ q. list_all (is_host s.hosts) q.after ≡ true) hosts_known;
    distinct = one_each start end;
    alive = proposals_changed start end (λ q. All (λ (h : Host). h.dead ≡ true → needs (task_of s.chunks q) h.id ≡ false) s.hosts) none_needed;
  }

-- the factor is one
pub factor_is : (ask : AskView) → changes_factor ask ≡ true → (1 ≤ ask.factor) × (ask.factor ≤ 8)
factor_is ask is = by (changes_topics ask.op) (nat_le 1 ask.factor) (nat_le ask.factor 8) refl refl is where
  by : (u v w : Bool) → nat_le 1 ask.factor ≡ v → nat_le ask.factor 8 ≡ w → (u && (v && w)) ≡ true → (1 ≤ ask.factor) × (ask.factor ≤ 8)
  by true true true e f h = (grind (arith, nat_tests), grind (arith, nat_tests))
  by true true false e f h = absurd (false≢true h)
  by true false w e f h = absurd (false≢true h)
  by false v w e f h = absurd (false≢true h)

-- no two brokers of the present cluster have one id
distinct_now : (file : Meaning) (s : Core) → IsInput file → HasDistinctIds (moment_of file s).cluster
distinct_now file s input i j l m e =
    let shape = shape_present file s.desk.exec.hosts s.samples in
    let many : length (moment_of file s).cluster.brokers ≡ length file.cluster.brokers = sym (length-map (moment_of file s).cluster.brokers (λ b. b.id)) ∙ ap (λ (ns : List ℕ). length ns) shape.ids_are ∙ length-map file.cluster.brokers (λ b. b.id) in
    ids-once file.cluster input.case i j (omega (arith, l, many)) (omega (arith, m, many)) (rw shape.ids_are at e)

pub change_is : (file : Meaning) (s : Core) (ask : AskView) → changes_factor ask ≡ true → IsInput file → IsSound file s.desk
    → IsResized (moment_of file s).cluster ask.topics ask.factor (settled_lists s.desk.exec) (lists_asked (moment_of file s) s.desk ask)
change_is file s ask is input sound =
    let fits = factor_is ask is in
    resized_lists (moment_of file s).cluster ask.topics ask.factor (settled_lists s.desk.exec) (distinct_now file s input)
    (belongs_same file.cluster (moment_of file s).cluster (settled_lists s.desk.exec) (shape_back (moment_of file s).cluster file.cluster (shape_present file s.desk.exec.hosts s.samples)) (settled_belongs file.cluster s.desk.exec sound.exec))
    fits.0 fits.1

-- what a change of the replication factor makes of the settled lists of a sound state
pub change_can_launch : (file : Meaning) (s : Core) (ask : AskView) → changes_factor ask ≡ true → resize_refusal (moment_of file s) s.desk ask ≡ None → IsInput file → IsSound file s.desk
    → first_unfinished s.desk.exec ≡ None → CanLaunch s.desk.exec (changes_asked (moment_of file s) s.desk ask)
change_can_launch file s ask is taken input sound none =
    let r = change_is file s ask is input sound in
    let start : Lists = settled_lists s.desk.exec in
    let end : Lists = lists_asked (moment_of file s) s.desk ask in
    others_can_launch file.cluster s.desk.exec end (few_parts file.cluster input.case) sound.exec.brokers sound.exec.base.one_each none
    (belongs_same (moment_of file s).cluster file.cluster end (shape_present file s.desk.exec.hosts s.samples) r.belongs)
    (λ k b l new died known. unneeded (gains (list_of start k) (list_of end k) b) (differ (list_of start k) (list_of end k)) (leads (list_of end k) b)
    (not_gained (gains (list_of start k) (list_of end k) b) refl (r.live k b) (died_lives_not file s.desk.exec.hosts s.samples b died))
    (r.moves k (λ e. differs (list_of start k) (list_of end k) (sym e) new)))
  where
    unneeded : (gained moved leads : Bool) → gained ≡ false → moved ≡ true → (gained || (not moved && leads)) ≡ false
    unneeded false true v e f = refl
    unneeded true m v e f = absurd (true≢false e)
    unneeded false false v e f = absurd (false≢true f)

    not_gained : {live : Bool} (v : Bool) → v ≡ v → (v ≡ true → live ≡ true) → live ≡ false → v ≡ false
    not_gained true q h k = absurd (true≢false (sym (h refl) ∙ k))
    not_gained false q h k = refl

    differs : (a b : List ℕ) → a ≡ b → not (same_list a b) ≡ true → ⊥
    differs a b e h = false≢true (sym (ap not ((bytes_eq-Decides a b).1 e)) ∙ h)

pub changed_lists : (file : Meaning) (s : Core) (ask : AskView) → changes_factor ask ≡ true → IsInput file → IsSound file s.desk → All (λ q. IsListOf file.cluster q.after) (changes_asked (moment_of file s) s.desk ask)
changed_lists file s ask is input sound =
    let r = change_is file s ask is input sound in
    let start : Lists = settled_lists s.desk.exec in
    let end : Lists = lists_asked (moment_of file s) s.desk ask in
    let ends : Belongs file.cluster end = belongs_same (moment_of file s).cluster file.cluster end (shape_present file s.desk.exec.hosts s.samples) r.belongs in
    let long : length end ≡ length start = ends.one_each ∙ sym (settled_belongs file.cluster s.desk.exec sound.exec).one_each in
    proposals_all start end (λ q. IsListOf file.cluster q.after) (λ k l. let m : k < length end = omega (arith, l, long) in record { replicas = ends.lists_are k [] m; known = ends.known k [] m })
