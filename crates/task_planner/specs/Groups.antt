-- The tasks that wait, in groups: by the first broker that they remove, or where they remove none by the first that they add; those
-- that change a leader alone are one group.
use Rattle.std.specs.Prelude.{◌≡◌, ℕ, Bool, true, not, ◌<◌, ◌≤◌, ◌&&◌, nat_lt, List, [], ◌∷◌, ◌++◌, length, get_or, find, Option, Some, None}
use Rattle.std.specs.List.{count_by}
use Rattle.plan_terms.specs.Cluster.{has}
use Rattle.plan_terms.specs.declared.settings.Caps.{Caps}
use Rattle.cap_ledger.specs.Ledger.{Ledger, adding_of, removing_of}
use Rattle.task_planner.specs.Queue.{moves, slot_at}
use Rattle.task_planner.specs.declared.slot.Slot.{Slot}
use Rattle.task_planner.specs.declared.group.Key.{Key}
use Rattle.task_planner.specs.declared.group.Key.TheVariants.{Removes, Adds, Leads}

-- the first member of the list that the other lacks
abbrev pub first_without : List ℕ → List ℕ → Option ℕ
first_without other list = find (λ b. not (has other b)) list

-- the key by the first broker that is removed and the first that is added
abbrev pub key_by : Option ℕ → Option ℕ → Key
key_by (Some b) added = Removes b
key_by None (Some b) = Adds b
key_by None None = Leads

-- the key of the tasks between two lists
abbrev pub key_between : List ℕ → List ℕ → Key
key_between before after = key_by (first_without after before) (first_without before after)

-- the key of a task
abbrev pub key_of : Slot → Key
key_of s = key_between s.before s.after

-- the caps may leave room for a task with this key
abbrev pub is_open : Caps → Ledger → Bool → Key → Bool
is_open caps l lead (Removes b) = nat_lt (removing_of l b) caps.broker && nat_lt l.replica caps.cluster
is_open caps l lead (Adds b) = nat_lt (adding_of l b) caps.broker && nat_lt l.replica caps.cluster
is_open caps l lead Leads = lead && nat_lt l.leader caps.leader

-- tasks by their numbers; those before the head wait no longer
pub record Filing : Type 0 where
  pub key : Key
  pub tasks : List ℕ
  pub head : ℕ

-- what stands past the last group
abbrev pub no_group : Filing
no_group = record { key = Leads; tasks = []; head = 0 }

abbrev pub group_at : List Filing → ℕ → Filing
group_at groups g = get_or groups g no_group

-- the numbers rise
abbrev pub AreRising : List ℕ → Type 0
AreRising tasks = (a b : ℕ) → a ≤ b → b < length tasks → get_or tasks a 0 ≤ get_or tasks b 0

-- the task is in the group, from the head on
pub record IsListed (f : Filing) (task : ℕ) : Type 0 where
  pub place : ℕ
  pub from : f.head ≤ place
  pub within : place < length f.tasks
  pub is : get_or f.tasks place 0 ≡ task

-- the task is in one of the groups
pub record IsFiled (groups : List Filing) (task : ℕ) : Type 0 where
  pub group : ℕ
  pub known : group < length groups
  pub listed : IsListed (group_at groups group) task

-- a group of the tasks: their numbers rise, they are tasks, and each has the group's key
pub record IsGroup (slots : List Slot) (f : Filing) : Type 0 where
  pub rising : AreRising f.tasks
  pub known : (a : ℕ) → a < length f.tasks → get_or f.tasks a 0 < length slots
  pub keyed : (a : ℕ) → a < length f.tasks → key_of (slot_at slots (get_or f.tasks a 0)) ≡ f.key

-- no two groups have one key
abbrev pub AreApart : List Filing → Type 0
AreApart groups = (g h : ℕ) → g < h → h < length groups → (group_at groups g).key ≡ (group_at groups h).key → ⊥

-- the groups of the first n tasks
pub record AreGroupsTo (slots : List Slot) (n : ℕ) (groups : List Filing) : Type 0 where
  pub each : (g : ℕ) → IsGroup slots (group_at groups g)
  pub apart : AreApart groups
  pub fresh : (g : ℕ) → (group_at groups g).head ≡ 0
  pub below : (g a : ℕ) → a < length (group_at groups g).tasks → get_or (group_at groups g).tasks a 0 < n
  pub filed : (i : ℕ) → i < n → IsFiled groups i

-- the task is at the end of the group with its key, which is new where there was none
pub record Files (key : Key) (task : ℕ) (old new : List Filing) : Type 0 where
  pub place : ℕ
  pub known : place < length new
  pub kept : length old ≤ length new
  pub key_is : (group_at new place).key ≡ key
  pub tasks_are : (group_at new place).tasks ≡ (group_at old place).tasks ++ task ∷ []
  pub head_is : (group_at new place).head ≡ (group_at old place).head
  pub same_key : 0 < length (group_at old place).tasks → (group_at old place).key ≡ key
  pub others : (g : ℕ) → (g ≡ place → ⊥) → group_at new g ≡ group_at old g
  pub apart : AreApart old → AreApart new

-- the groups of the tasks: each that waits is in one of them; and how many of them move replicas
pub record AreGroups (slots : List Slot) (groups : List Filing) (movers : ℕ) : Type 0 where
  pub few : length slots < 4294967296
  pub each : (g : ℕ) → IsGroup slots (group_at groups g)
  pub filed : (i : ℕ) → i < length slots → (slot_at slots i).waits ≡ true → IsFiled groups i
  pub apart : AreApart groups
  pub movers_are : movers ≡ count_by moves slots

-- the groups, and how many tasks wait
pub record AreQueued (slots : List Slot) (groups : List Filing) (movers waiting : ℕ) : Type 0 where
  pub filed : AreGroups slots groups movers
  pub waiting_are : waiting ≡ count_by (λ s. s.waits) slots
