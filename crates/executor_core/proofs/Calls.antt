-- What each call of the executor keeps.
use Rattle.std.proofs.Common.{◌≡◌, ℕ, ◌+◌, ◌<◌, Bool, true, false, ◌||◌, cond, List, [], ◌∷◌, map, set, length, get_or, refl, sym, ap, ◌∙◌, ◌-◌, ◌≤◌, count_by, ◌&&◌, arith}
use Rattle.std.specs.Prelude.{nat_lt, None, Result, Ok}
use Rattle.std.proofs.lemmas.Bool.{false≢true, or_right}
use Rattle.std.proofs.lemmas.List.{map-set, length-map, get_or-map, get_or_read}
use Rattle.plan_terms.specs.Cluster.{Lists}
use Rattle.plan_terms.specs.declared.lists.Proposal.{Proposal}
use Rattle.exec_terms.specs.declared.phase.Phase.{Phase}
use Rattle.exec_terms.specs.declared.phase.Phase.TheVariants.{Pending, InProgress, Aborting, Aborted, Completed, Dead}
use Rattle.exec_terms.specs.declared.work.WorkKind.{WorkKind}
use Rattle.exec_terms.specs.declared.task.Task.{Task}
use Rattle.exec_terms.specs.declared.brokers.Host.{Host}
use Rattle.exec_terms.specs.declared.replies.Given.{Given}
use Rattle.exec_terms.specs.declared.replies.LeaseFault.{LeaseFault}
use Rattle.exec_terms.specs.Words.{is_pending, in_flight, needs}
use Rattle.exec_terms.specs.Machine.{State, no_task, task_at, with_task, next_work, started, with_lease}
use Rattle.exec_terms.specs.Leases.{test_lease, released, one_copied, one_failed, committed, cancelled}
use Rattle.exec_terms.specs.Stops.{phase_stopped, stopped_by, phase_killed, killed_by, marked}
use Rattle.exec_terms.specs.Valid.{IsValid}
use Rattle.exec_terms.proofs.Calls.{IsValid-same, given_known, taken_is, worth}
use Rattle.exec_terms.proofs.Events.{IsValid-stopped, IsValid-killed}
use Rattle.exec_terms.proofs.Launch.{IsValid-caps}
use Rattle.exec_terms.proofs.Take.{IsValid-take}
use Rattle.plan_terms.specs.declared.settings.Caps.{Caps}
use Rattle.cap_ledger.specs.Ledger.{Ledger, HasRoom, IsCounted, IsKnownList, Enters}
use Rattle.task_planner.specs.declared.slot.Slot.{Slot}
use Rattle.task_index.specs.Index.{Marks, marks_of, marked_at}
use Rattle.task_planner.specs.Queue.{no_slot, slot_at, ended}
use Rattle.executor_core.specs.Kept.{slot_of, IsKept}
use Rattle.executor_core.proofs.Beside.{fixed-set, counts-same, counts-enter, counts-leave, queue-same, fixed-map, counts-map, fixed-marked, counts-marked, room, counted, known_lists}
use Rattle.exec_terms.proofs.Calm.{SameLists}
use Rattle.executor_core.proofs.Unfinished.{unfinished-same, unfinished-ends, unfinished-some, stopped-left, killed-left}
use Rattle.executor_core.proofs.Marked.{marks-set}
use Rattle.executor_core.proofs.Starts.{Begins, begins, started-flying}

-- a change that moves the task neither into flight nor out of it, nor out of the queue
pub record IsCalm (x y : Task) : Type 0 where
  pub same : SameLists x y
  pub flies : in_flight y.phase ≡ in_flight x.phase
  pub waits : is_pending y.phase ≡ is_pending x.phase

grounded : (p : Phase) → in_flight p ≡ true → is_pending p ≡ false
grounded Pending h = absurd (false≢true h)
grounded InProgress h = refl
grounded Aborting h = refl
grounded Aborted h = refl
grounded Completed h = refl
grounded Dead h = refl

pub calm_released : (x y : Task) → y ≡ released x → IsCalm x y
calm_released x y e = rw e (record { same = record { part = refl; before = refl; after = refl }; flies = refl; waits = refl })

pub calm_copied : (x y : Task) → y ≡ one_copied x → IsCalm x y
calm_copied x y e = rw e (record { same = record { part = refl; before = refl; after = refl }; flies = refl; waits = refl })

pub calm_failed : (x y : Task) → in_flight x.phase ≡ true → y ≡ one_failed x → IsCalm x y
calm_failed x y f e = rw e (by (nat_lt (x.faults + 1) 3)) where
  by : (c : Bool) → IsCalm x (cond c (record x { faults = x.faults + 1; lease = None }) (record x { faults = x.faults + 1; phase = Aborting; doomed = true; lease = None }))
  by true = record { same = record { part = refl; before = refl; after = refl }; flies = refl; waits = refl }
  by false = record { same = record { part = refl; before = refl; after = refl }; flies = sym f; waits = sym (grounded x.phase f) }

-- a change that takes the task out of flight
pub record IsEnd (x y : Task) : Type 0 where
  pub same : SameLists x y
  pub flies : in_flight y.phase ≡ false
  pub waits : is_pending y.phase ≡ false

pub end_committed : (x y : Task) → y ≡ committed x → IsEnd x y
end_committed x y e = rw e (record { same = record { part = refl; before = refl; after = refl }; flies = refl; waits = refl })

pub end_cancelled : (x y : Task) → y ≡ cancelled x → IsEnd x y
end_cancelled x y e = rw e (record { same = record { part = refl; before = refl; after = refl }; flies = flies x.doomed; waits = waits x.doomed }) where
  flies : (b : Bool) → in_flight (cond b Dead Aborted) ≡ false
  flies true = refl
  flies false = refl

  waits : (b : Bool) → is_pending (cond b Dead Aborted) ≡ false
  waits true = refl
  waits false = refl

-- stops and deaths keep each task's lists, and which tasks are in flight
stopped_same : (force : Bool) (t : Task) → SameLists t (stopped_by force t)
stopped_same force t = record { part = refl; before = refl; after = refl }

stopped_flies : (force : Bool) (p : Phase) → in_flight (phase_stopped force p) ≡ in_flight p
stopped_flies force Pending = refl
stopped_flies true InProgress = refl
stopped_flies false InProgress = refl
stopped_flies force Aborting = refl
stopped_flies force Aborted = refl
stopped_flies force Completed = refl
stopped_flies force Dead = refl

stopped_waits : (force : Bool) (p : Phase) → is_pending (phase_stopped force p) ≡ false
stopped_waits force Pending = refl
stopped_waits true InProgress = refl
stopped_waits false InProgress = refl
stopped_waits force Aborting = refl
stopped_waits force Aborted = refl
stopped_waits force Completed = refl
stopped_waits force Dead = refl

killed_flies : (p : Phase) → in_flight (phase_killed p) ≡ in_flight p
killed_flies Pending = refl
killed_flies InProgress = refl
killed_flies Aborting = refl
killed_flies Aborted = refl
killed_flies Completed = refl
killed_flies Dead = refl

killed_calm : (b : ℕ) (t : Task) → SameLists t (killed_by b t) × (in_flight (killed_by b t).phase ≡ in_flight t.phase)
killed_calm b t = by (needs t b) where
  by : (c : Bool) → SameLists t (cond c (record t { phase = phase_killed t.phase; doomed = t.doomed || in_flight t.phase }) t)
      × (in_flight (cond c (record t { phase = phase_killed t.phase; doomed = t.doomed || in_flight t.phase }) t).phase ≡ in_flight t.phase)
  by true = (record { part = refl; before = refl; after = refl }, killed_flies t.phase)
  by false = (record { part = refl; before = refl; after = refl }, refl)

stopped_slots : (force : Bool) (ts : List Task) → map (λ t. ended (slot_of t)) ts ≡ map slot_of (map (stopped_by force) ts)
stopped_slots force [] = refl
stopped_slots force (t ∷ ts) = rw (stopped_waits force t.phase) (ap (λ (slots : List Slot). ended (slot_of t) ∷ slots) (stopped_slots force ts))

killed_slots : (b : ℕ) (ts : List Task) → map (λ t. slot_of (killed_by b t)) ts ≡ map slot_of (map (killed_by b) ts)
killed_slots b [] = refl
killed_slots b (t ∷ ts) = ap (λ (slots : List Slot). slot_of (killed_by b t) ∷ slots) (killed_slots b ts)

module _ (s : State) (brokers : List ℕ) (unions : Lists) (proposals : List Proposal) (l : Ledger) (left : ℕ) (queue : List Slot) (index : Marks) (k : IsKept s brokers unions proposals l left queue index) where
  -- a calm change of one task
  pub calm_kept : (i n : ℕ) (x y : Task) (index' : Marks) → i < length s.tasks → x ≡ get_or s.tasks i x → IsCalm x y → index' ≡ marked_at index i y → IsValid (record s { tasks = set s.tasks i y; leases = n })
      → IsKept (record s { tasks = set s.tasks i y; leases = n }) brokers unions proposals l left queue index'
  calm_kept i n x y index' known read calm m valid = record {
    valid = valid;
    fixed = fixed-set brokers s.hosts s.tasks i x y known read calm.same s.base unions proposals k.fixed;
    counts_are = counts-same brokers s.hosts s.tasks i x y known read calm.same l calm.flies k.counts_are;
    left_is = k.left_is ∙ sym (unfinished-same s.tasks i x y known read (rw (calm.waits, calm.flies) refl));
    queue_is = queue-same brokers s.hosts s.tasks i x y known read calm.same queue calm.waits k.queue_is;
    index_is = marks-set s.tasks i y index index' k.index_is m;
  }

  -- a task that holds a lease worth it is in flight
  pub flies : (lease : ℕ) (kind : WorkKind) (i : ℕ) (x : Task) → ◌≡◌ {A = Result ℕ LeaseFault} (Ok i) (test_lease s lease kind) → x ≡ get_or s.tasks i x → in_flight x.phase ≡ true
  flies lease kind i x e read =
      let w = worth s lease kind i e in
      let here : x ≡ task_at s.tasks i = get_or_read s.tasks i x w.known read no_task in
      rw here ((k.valid.each i no_task w.known).lease w.held w.holds).flies

  -- so it can leave the counts
  pub record IsLeaving (x : Task) : Type 0 where
    pub before : IsKnownList l x.before
    pub after : IsKnownList l x.after
    pub counted : IsCounted x.before x.after l
    pub some : 1 ≤ left

  pub leaving : (lease : ℕ) (kind : WorkKind) (i : ℕ) (x : Task) → ◌≡◌ {A = Result ℕ LeaseFault} (Ok i) (test_lease s lease kind) → x ≡ get_or s.tasks i x → IsLeaving x
  leaving lease kind i x e read =
      let w = worth s lease kind i e in
      let lists = known_lists s brokers unions proposals l left queue index k i x w.known read in
      record { before = lists.0; after = lists.1; counted = counted s.hosts s.tasks l i x w.known read (flies lease kind i x e read) k.counts_are; some = rw k.left_is (unfinished-some s.tasks i x w.known read (or_right (is_pending x.phase) (in_flight x.phase) (flies lease kind i x e read))) }

  pub left_kept : (lease : ℕ) (kind : WorkKind) (i : ℕ) (x y : Task) (before after : List ℕ) (l' : Ledger) (index' : Marks) → ◌≡◌ {A = Result ℕ LeaseFault} (Ok i) (test_lease s lease kind) → x ≡ get_or s.tasks i x
      → IsEnd x y → before ≡ x.before → after ≡ x.after → Enters before after l' l → index' ≡ marked_at index i y → IsValid (with_task s i y) → IsKept (with_task s i y) brokers unions proposals l' (left - 1) queue index'
  left_kept lease kind i x y before after l' index' e read ends b a enters m valid =
      let known = (worth s lease kind i e).known in
      let up = flies lease kind i x e read in
      record {
        valid = valid;
        fixed = fixed-set brokers s.hosts s.tasks i x y known read ends.same s.base unions proposals k.fixed;
        counts_are = counts-leave brokers s.hosts s.tasks i x y known read ends.same l l' up ends.flies (rw (b, a) at enters) k.counts_are;
        left_is = omega (arith, k.left_is, unfinished-ends s.tasks i x y known read (or_right (is_pending x.phase) (in_flight x.phase) up) (rw (ends.waits, ends.flies) refl));
        queue_is = queue-same brokers s.hosts s.tasks i x y known read ends.same queue (ends.waits ∙ sym (grounded x.phase up)) k.queue_is;
        index_is = marks-set s.tasks i y index index' k.index_is m;
      }

  -- the task that is given work
  module _ (g : Given) (x : Task) (next : next_work s ≡ Ok g) (read : x ≡ get_or s.tasks g.task x) where
    pub given_within : g.task < length s.tasks
    given_within = given_known s g (sym next)

    here : x ≡ task_at s.tasks g.task
    here = get_or_read s.tasks g.task x given_within read no_task

    valid_then : (y : Task) → y ≡ with_lease g.lease g.work x → IsValid (record s { tasks = set s.tasks g.task y; leases = g.lease })
    valid_then y is = IsValid-same _ _ (taken_is s g x y (sym next) read is) (IsValid-take s k.valid)

    -- it goes on
    pub gone_on : (y : Task) (index' : Marks) → g.starts ≡ false → y ≡ with_lease g.lease g.work x → index' ≡ marked_at index g.task y
        → IsKept (record s { tasks = set s.tasks g.task y; leases = g.lease }) brokers unions proposals l left queue index'
    unfolding Begins
    gone_on y index' starts is m =
        let up : in_flight x.phase ≡ true = rw here (rw starts at (begins s g next)) in
        let calm : IsCalm x (with_lease g.lease g.work x) = record { same = record { part = refl; before = refl; after = refl }; flies = (started-flying x.phase up).0; waits = (started-flying x.phase up).1 } in
        calm_kept g.task g.lease x y index' given_within read (rw is calm) m (valid_then y is)

    -- it begins
    pub record IsStarting : Type 0 where
      pub pending : x.phase ≡ Pending
      pub before : IsKnownList l x.before
      pub after : IsKnownList l x.after
      pub room : HasRoom x.before x.after l
      pub within : g.task < length queue
      pub waits : (slot_at queue g.task).waits ≡ true

    slot_here : slot_at queue g.task ≡ slot_of x
    slot_here = ap (λ (slots : List Slot). slot_at slots g.task) k.queue_is ∙ get_or-map slot_of s.tasks g.task x no_slot given_within ∙ ap slot_of (sym read)

    pub starting : g.starts ≡ true → IsStarting
    unfolding Begins
    starting starts =
        let pending : x.phase ≡ Pending = rw here (rw starts at (begins s g next)) in
        let lists = known_lists s brokers unions proposals l left queue index k g.task x given_within read in
        record {
          pending = pending;
          before = lists.0;
          after = lists.1;
          room = room s.hosts s.tasks l x.before x.after k.valid.few_tasks k.counts_are;
          within = rw (k.queue_is, length-map s.tasks slot_of) given_within;
          waits = rw (slot_here, pending) refl;
        }

    pub start_kept : (y : Task) (before after : List ℕ) (l' : Ledger) (queue' : List Slot) (index' : Marks) → g.starts ≡ true → y ≡ with_lease g.lease g.work x → before ≡ x.before → after ≡ x.after
        → Enters before after l l' → queue' ≡ set queue g.task (ended (slot_at queue g.task)) → index' ≡ marked_at index g.task y
        → IsKept (record s { tasks = set s.tasks g.task y; leases = g.lease }) brokers unions proposals l' left queue' index'
    start_kept y before after l' queue' index' starts is b a enters q m =
        let w = starting starts in
        let phase : y.phase ≡ InProgress = ap (λ (t : Task). t.phase) is ∙ ap started w.pending in
        let same : SameLists x y = record { part = ap (λ (t : Task). t.part) is; before = ap (λ (t : Task). t.before) is; after = ap (λ (t : Task). t.after) is } in
        let slot : ended (slot_of x) ≡ slot_of y = rw (same.before, same.after, phase) refl in
        record {
          valid = valid_then y is;
          fixed = fixed-set brokers s.hosts s.tasks g.task x y given_within read same s.base unions proposals k.fixed;
          counts_are = counts-enter brokers s.hosts s.tasks g.task x y given_within read same l l' (rw w.pending refl) (rw phase refl) (rw (b, a) at enters) k.counts_are;
          left_is = k.left_is ∙ sym (unfinished-same s.tasks g.task x y given_within read (rw (w.pending, phase) refl));
          queue_is = q
              ∙ ap (λ (slot : Slot). set queue g.task (ended slot)) slot_here
              ∙ ap (λ (slots : List Slot). set slots g.task (ended (slot_of x))) k.queue_is
              ∙ ap (λ (slot : Slot). set (map slot_of s.tasks) g.task slot) slot
              ∙ sym (map-set slot_of s.tasks g.task y);
          index_is = marks-set s.tasks g.task y index index' k.index_is m;
        }

  -- a stop
  pub stop_kept : (force : Bool) (tasks : List Task) (aborted : ℕ) (queue' : List Slot) (index' : Marks) → tasks ≡ map (stopped_by force) s.tasks → aborted ≡ count_by (λ t. is_pending t.phase) s.tasks → queue' ≡ map (λ t. ended (slot_of t)) s.tasks
      → index' ≡ marks_of tasks → IsKept (record s { tasks = tasks; stopped = true }) brokers unions proposals l (left - aborted) queue' index'
  stop_kept force tasks aborted queue' index' e n q m = record {
    valid = IsValid-stopped s force tasks e k.valid;
    fixed = rw e (fixed-map brokers s.hosts s.tasks (stopped_by force) (stopped_same force) s.base unions proposals k.fixed);
    counts_are = rw e (counts-map brokers s.hosts s.tasks (stopped_by force) (stopped_same force) l (λ t. stopped_flies force t.phase) k.counts_are);
    left_is = rw e (omega (arith, n, k.left_is, stopped-left force s.tasks));
    queue_is = q ∙ stopped_slots force s.tasks ∙ sym (ap (map slot_of) e);
    index_is = m;
  }

  -- a death
  pub kill_kept : (b : ℕ) (tasks : List Task) (hosts : List Host) (dead : ℕ) (queue' : List Slot) (index' : Marks) → tasks ≡ map (killed_by b) s.tasks → dead ≡ count_by (λ t. needs t b && is_pending t.phase) s.tasks → hosts ≡ map (marked b) s.hosts → queue' ≡ map (λ t. slot_of (killed_by b t)) s.tasks
      → index' ≡ marks_of tasks → IsKept (record s { tasks = tasks; hosts = hosts }) brokers unions proposals l (left - dead) queue' index'
  kill_kept b tasks hosts dead queue' index' e n h q m = record {
    valid = IsValid-killed s b tasks hosts e h k.valid;
    fixed = rw (e, h) (fixed-marked b brokers s.hosts s.base (map (killed_by b) s.tasks) unions proposals
        (fixed-map brokers s.hosts s.tasks (killed_by b) (λ t. (killed_calm b t).0) s.base unions proposals k.fixed));
    counts_are = rw (e, h) (counts-marked b s.hosts (map (killed_by b) s.tasks) l
        (counts-map brokers s.hosts s.tasks (killed_by b) (λ t. (killed_calm b t).0) l (λ t. (killed_calm b t).1) k.counts_are));
    left_is = rw e (omega (arith, n, k.left_is, killed-left b s.tasks));
    queue_is = q ∙ killed_slots b s.tasks ∙ sym (ap (map slot_of) e);
    index_is = m;
  }

  -- other caps
  pub caps_kept : (caps : Caps) → 1 ≤ caps.broker → 1 ≤ caps.cluster → 1 ≤ caps.leader → IsKept (record s { caps = caps }) brokers unions proposals l left queue index
  caps_kept caps b c m = record { valid = IsValid-caps s caps b c m k.valid; fixed = k.fixed; counts_are = k.counts_are; left_is = k.left_is; queue_is = k.queue_is; index_is = k.index_is }
