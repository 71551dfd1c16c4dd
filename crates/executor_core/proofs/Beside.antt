-- What is kept beside the state, where tasks change.
use Rattle.std.proofs.Common.{◌≡◌, ℕ, ◌+◌, ◌<◌, ◌≤◌, Bool, true, false, not, ◌||◌, cond, List, [], ◌∷◌, map, set, length, get_or, arith, refl, sym, ap, ◌∙◌}
use Rattle.std.specs.Prelude.{◌==◌}
use Rattle.std.specs.List.{All, list_all}
use Rattle.std.proofs.lemmas.List.{length-map}
use Rattle.std.proofs.lemmas.List.{get_or-map}
use Rattle.std.proofs.Math.Path.{fun_ext}
use Rattle.std.proofs.Math.Seq.{map-set_same}
use Rattle.plan_terms.specs.Cluster.{Lists, has}
use Rattle.plan_terms.specs.declared.lists.Proposal.{Proposal}
use Rattle.exec_terms.specs.declared.task.Task.{Task}
use Rattle.exec_terms.specs.declared.brokers.Host.{Host}
use Rattle.exec_terms.specs.Words.{in_flight, is_pending, union_of}
use Rattle.exec_terms.specs.Machine.{State}
use Rattle.exec_terms.specs.Stops.{is_host, marked}
use Rattle.exec_terms.proofs.Calm.{SameLists}
use Rattle.plan_terms.specs.Change.{gains, differ}
use Rattle.cap_ledger.specs.Ledger.{Ledger, knows, HasRoom, IsCounted, IsKnownList, Enters}
use Rattle.task_planner.specs.declared.slot.Slot.{Slot}
use Rattle.task_index.specs.Index.{Marks}
use Rattle.task_planner.specs.Queue.{IsListOf, AreListsOf}
use Rattle.executor_core.specs.Kept.{proposal_of}
use Rattle.executor_core.specs.Kept.{AreCounts, slot_of, IsFixed, IsKept}
use Rattle.executor_core.proofs.Flying.{flying-same, flying-enter, flying-leave, flying-map, flying-some, flying-few}

-- the lists that pass: broker b is added, or left out; the two differ, or don't
abbrev adds_to : ℕ → List ℕ → List ℕ → Bool
adds_to b before after = gains before after b

abbrev takes_from : ℕ → List ℕ → List ℕ → Bool
takes_from b before after = gains after before b

abbrev alike : List ℕ → List ℕ → Bool
alike before after = not (differ before after)

map-map_same : {Y : Type 0} (g : Task → Y) (f : Task → Task) → ((t : Task) → g (f t) ≡ g t) → (xs : List Task) → map g (map f xs) ≡ map g xs
map-map_same g f h [] = refl
map-map_same {Y} g f h (x ∷ xs) = ap (λ (y : Y). y ∷ map g (map f xs)) (h x) ∙ ap (λ (ys : List Y). g x ∷ ys) (map-map_same g f h xs)

same_union : (x y : Task) → SameLists x y → union_of y ≡ union_of x
same_union x y s = rw (s.before, s.after) refl

same_proposal : (x y : Task) → SameLists x y → proposal_of y ≡ proposal_of x
same_proposal x y s = rw (s.part, s.before, s.after) refl

same_slot : (x y : Task) → SameLists x y → is_pending y.phase ≡ is_pending x.phase → slot_of y ≡ slot_of x
same_slot x y s w = rw (s.before, s.after, w) refl

-- one task changes
module _ (brokers : List ℕ) (hosts : List Host) (tasks : List Task) (i : ℕ) (x y : Task) (known : i < length tasks) (read : x ≡ get_or tasks i x) (same : SameLists x y) where
  pub fixed-set : (base unions : Lists) (proposals : List Proposal) → IsFixed brokers hosts base tasks unions proposals → IsFixed brokers hosts base (set tasks i y) unions proposals
  fixed-set base unions proposals f = record {
    hosts_are = f.hosts_are;
    once = f.once;
    base_lists = f.base_lists;
    task_lists = f.task_lists;
    unions_are = f.unions_are ∙ sym (map-set_same union_of tasks i y x (same_union x y same ∙ ap union_of read));
    proposals_are = f.proposals_are ∙ sym (map-set_same proposal_of tasks i y x (same_proposal x y same ∙ ap proposal_of read));
  }

  pub counts-same : (l : Ledger) → in_flight y.phase ≡ in_flight x.phase → AreCounts hosts tasks l → AreCounts hosts (set tasks i y) l
  counts-same l f c = record {
    known = c.known;
    adding = λ b. c.adding b ∙ sym (flying-same (adds_to b) tasks i x y known read same f);
    removing = λ b. c.removing b ∙ sym (flying-same (takes_from b) tasks i x y known read same f);
    replica = c.replica ∙ sym (flying-same differ tasks i x y known read same f);
    leader = c.leader ∙ sym (flying-same alike tasks i x y known read same f);
  }

  pub counts-enter : (l l' : Ledger) → in_flight x.phase ≡ false → in_flight y.phase ≡ true → Enters x.before x.after l l' → AreCounts hosts tasks l → AreCounts hosts (set tasks i y) l'
  counts-enter l l' out up e c = record {
    known = λ b. e.known b ∙ c.known b;
    adding = λ b. e.adding b ∙ ap (λ (n : ℕ). n + cond (gains x.before x.after b) 1 0) (c.adding b) ∙ sym (flying-enter (adds_to b) tasks i x y known read same out up);
    removing = λ b. e.removing b ∙ ap (λ (n : ℕ). n + cond (gains x.after x.before b) 1 0) (c.removing b) ∙ sym (flying-enter (takes_from b) tasks i x y known read same out up);
    replica = e.replica ∙ ap (λ (n : ℕ). n + cond (differ x.before x.after) 1 0) c.replica ∙ sym (flying-enter differ tasks i x y known read same out up);
    leader = e.leader ∙ ap (λ (n : ℕ). n + cond (not (differ x.before x.after)) 1 0) c.leader ∙ sym (flying-enter alike tasks i x y known read same out up);
  }

  pub counts-leave : (l l' : Ledger) → in_flight x.phase ≡ true → in_flight y.phase ≡ false → Enters x.before x.after l' l → AreCounts hosts tasks l → AreCounts hosts (set tasks i y) l'
  counts-leave l l' up out e c = record {
    known = λ b. sym (e.known b) ∙ c.known b;
    adding = λ b. omega (arith, e.adding b, c.adding b, flying-leave (adds_to b) tasks i x y known read up out);
    removing = λ b. omega (arith, e.removing b, c.removing b, flying-leave (takes_from b) tasks i x y known read up out);
    replica = omega (arith, e.replica, c.replica, flying-leave differ tasks i x y known read up out);
    leader = omega (arith, e.leader, c.leader, flying-leave alike tasks i x y known read up out);
  }

  pub queue-same : (queue : List Slot) → is_pending y.phase ≡ is_pending x.phase → queue ≡ map slot_of tasks → queue ≡ map slot_of (set tasks i y)
  queue-same queue w q = q ∙ sym (map-set_same slot_of tasks i y x (same_slot x y same w ∙ ap slot_of read))

-- every task changes
module _ (brokers : List ℕ) (hosts : List Host) (tasks : List Task) (f : Task → Task) (same : (t : Task) → SameLists t (f t)) where
  pub fixed-map : (base unions : Lists) (proposals : List Proposal) → IsFixed brokers hosts base tasks unions proposals → IsFixed brokers hosts base (map f tasks) unions proposals
  fixed-map base unions proposals k = record {
    hosts_are = k.hosts_are;
    once = k.once;
    base_lists = k.base_lists;
    task_lists = k.task_lists;
    unions_are = k.unions_are ∙ sym (map-map_same union_of f (λ t. same_union t (f t) (same t)) tasks);
    proposals_are = k.proposals_are ∙ sym (map-map_same proposal_of f (λ t. same_proposal t (f t) (same t)) tasks);
  }

  pub counts-map : (l : Ledger) → ((t : Task) → in_flight (f t).phase ≡ in_flight t.phase) → AreCounts hosts tasks l → AreCounts hosts (map f tasks) l
  counts-map l flies c = record {
    known = c.known;
    adding = λ b. c.adding b ∙ sym (flying-map (adds_to b) f same flies tasks);
    removing = λ b. c.removing b ∙ sym (flying-map (takes_from b) f same flies tasks);
    replica = c.replica ∙ sym (flying-map differ f same flies tasks);
    leader = c.leader ∙ sym (flying-map alike f same flies tasks);
  }

-- the death of a broker changes no broker's id
marked_id : (b : ℕ) (h : Host) → (marked b h).id ≡ h.id
marked_id b h = by (h.id == b) where
  by : (c : Bool) → (cond c (record h { dead = true }) h).id ≡ h.id
  by true = refl
  by false = refl

marked_ids : (b : ℕ) (hosts : List Host) → map (λ (h : Host). h.id) (map (marked b) hosts) ≡ map (λ (h : Host). h.id) hosts
marked_ids b [] = refl
marked_ids b (h ∷ hs) = ap (λ (n : ℕ). n ∷ map (λ (h : Host). h.id) (map (marked b) hs)) (marked_id b h) ∙ ap (λ (ns : List ℕ). h.id ∷ ns) (marked_ids b hs)

-- the brokers of the hosts
pub is_host-has : (hosts : List Host) (b : ℕ) → is_host hosts b ≡ has (map (λ (h : Host). h.id) hosts) b
is_host-has [] b = refl
is_host-has (h ∷ hs) b = ap (λ (c : Bool). (h.id == b) || c) (is_host-has hs b)

pub fixed-marked : (b : ℕ) (brokers : List ℕ) (hosts : List Host) (base : Lists) (tasks : List Task) (unions : Lists) (proposals : List Proposal)
    → IsFixed brokers hosts base tasks unions proposals → IsFixed brokers (map (marked b) hosts) base tasks unions proposals
fixed-marked b brokers hosts base tasks unions proposals f = record {
  hosts_are = marked_ids b hosts ∙ f.hosts_are;
  once = f.once;
  base_lists = f.base_lists;
  task_lists = f.task_lists;
  unions_are = f.unions_are;
  proposals_are = f.proposals_are;
}

pub counts-marked : (b : ℕ) (hosts : List Host) (tasks : List Task) (l : Ledger) → AreCounts hosts tasks l → AreCounts (map (marked b) hosts) tasks l
counts-marked b hosts tasks l c = record {
  known = λ n. c.known n ∙ is_host-has hosts n ∙ ap (λ (ids : List ℕ). has ids n) (sym (marked_ids b hosts)) ∙ sym (is_host-has (map (marked b) hosts) n);
  adding = c.adding;
  removing = c.removing;
  replica = c.replica;
  leader = c.leader;
}

-- few tasks, so each number can be one more
pub room : (hosts : List Host) (tasks : List Task) (l : Ledger) (before after : List ℕ) → length tasks ≤ 10000 → AreCounts hosts tasks l → HasRoom before after l
room hosts tasks l before after few c = record {
  adding = λ b _. omega (arith, few, c.adding b, flying-few (adds_to b) tasks);
  removing = λ b _. omega (arith, few, c.removing b, flying-few (takes_from b) tasks);
  replica = λ _. omega (arith, few, c.replica, flying-few differ tasks);
  leader = λ _. omega (arith, few, c.leader, flying-few alike tasks);
}

-- a task in flight is counted
pub counted : (hosts : List Host) (tasks : List Task) (l : Ledger) (i : ℕ) (x : Task) → i < length tasks → x ≡ get_or tasks i x → in_flight x.phase ≡ true → AreCounts hosts tasks l → IsCounted x.before x.after l
counted hosts tasks l i x known read up c = record {
  adding = λ b g. omega (arith, c.adding b, flying-some (adds_to b) tasks i x known read up g);
  removing = λ b g. omega (arith, c.removing b, flying-some (takes_from b) tasks i x known read up g);
  replica = λ g. omega (arith, c.replica, flying-some differ tasks i x known read up g);
  leader = λ g. omega (arith, c.leader, flying-some alike tasks i x known read up (ap not g));
}

-- the lists of a task are of brokers that the counts know
module _ (s : State) (brokers : List ℕ) (unions : Lists) (proposals : List Proposal) (l : Ledger) (left : ℕ) (queue : List Slot) (index : Marks) (k : IsKept s brokers unions proposals l left queue index) where
  known_is : (b : ℕ) → knows l b ≡ has brokers b
  known_is b = k.counts_are.known b ∙ is_host-has s.hosts b ∙ ap (λ (ids : List ℕ). has ids b) k.fixed.hosts_are

  known_list : (list : List ℕ) → IsListOf brokers list → IsKnownList l list
  known_list list h = record { known = ap (λ (p : ℕ → Bool). list_all p list) (fun_ext known_is) ∙ h.known; once = h.once }

  pub known_lists : (i : ℕ) (x : Task) → i < length s.tasks → x ≡ get_or s.tasks i x → IsKnownList l x.before × IsKnownList l x.after
  known_lists i x known read =
      let all : All (AreListsOf brokers) (map proposal_of s.tasks) = rw (← k.fixed.proposals_are) k.fixed.task_lists in
      let m : i < length (map proposal_of s.tasks) = rw length-map known in
      let here : get_or (map proposal_of s.tasks) i (proposal_of x) ≡ proposal_of x = get_or-map proposal_of s.tasks i x (proposal_of x) known ∙ ap proposal_of (sym read) in
      let lists : AreListsOf brokers (proposal_of x) = rw here at (all i (proposal_of x) m) in
      (known_list x.before lists.before, known_list x.after lists.after)
