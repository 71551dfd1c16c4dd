-- How many tasks are in flight, by what they add, remove and move, and which task fits.
use Rattle.std.specs.Prelude.{◌≡◌, ℕ, ◌+◌, ◌<◌, ◌≤◌, ◌^◌, Bool, true, false, not, ◌==◌, ◌&&◌, nat_lt, if◌then◌else◌, List, find, Option, is_some}
use Rattle.std.specs.List.{list_all}
use Rattle.std.specs.Option.{option_map_or}
use Rattle.plan_terms.specs.Belongs.{distinct}
use Rattle.plan_terms.specs.Cluster.{has}
use Rattle.plan_terms.specs.Change.{added, differ, gains}
use Rattle.plan_terms.specs.declared.settings.Caps.{Caps}
use Rattle.cap_ledger.specs.declared.entry.Entry.{Entry}

-- an entry for each broker, and how many tasks in flight move replicas and change a leader alone
pub record Ledger : Type 0 where
  pub entries : List Entry
  pub replica : ℕ
  pub leader : ℕ

-- the entry of broker b
abbrev pub entry_of : List Entry → ℕ → Option Entry
entry_of entries b = find (λ e. e.broker == b) entries

-- broker b has an entry
unfoldable pub knows : Ledger → ℕ → Bool
knows l b = is_some (entry_of l.entries b)

-- how many tasks in flight add broker b; 0 where it is unknown
unfoldable pub adding_of : Ledger → ℕ → ℕ
adding_of l b = option_map_or (λ e. e.adding) (entry_of l.entries b) 0

-- how many tasks in flight remove broker b; 0 where it is unknown
unfoldable pub removing_of : Ledger → ℕ → ℕ
removing_of l b = option_map_or (λ e. e.removing) (entry_of l.entries b) 0

-- 1 or 0
abbrev pub one_if : Bool → ℕ
one_if b = if b then 1 else 0

-- a task whose lists differ moves replicas, another one changes the leader or the order alone; a task that moves replicas fits where, of the tasks in flight, fewer than the cap add each broker that it adds, fewer remove
-- each that it removes, and fewer move replicas; another task fits where fewer than the cap change a leader alone
unfoldable pub fits_in : Ledger → Caps → List ℕ → List ℕ → Bool
fits_in l caps before after =
    if differ before after
    then list_all (λ b. nat_lt (adding_of l b) caps.broker) (added before after)
    && list_all (λ b. nat_lt (removing_of l b) caps.broker) (added after before)
    && nat_lt l.replica caps.cluster
    else nat_lt l.leader caps.leader

-- all brokers of the list are known, and none stands twice
pub record IsKnownList (l : Ledger) (list : List ℕ) : Type 0 where
  pub known : list_all (knows l) list ≡ true
  pub once : distinct list ≡ true

-- each number in which the task counts can be one more
pub record HasRoom (before after : List ℕ) (l : Ledger) : Type 0 where
  pub adding : (b : ℕ) → gains before after b ≡ true → adding_of l b + 1 < 2 ^ 32
  pub removing : (b : ℕ) → gains after before b ≡ true → removing_of l b + 1 < 2 ^ 32
  pub replica : differ before after ≡ true → l.replica + 1 < 2 ^ 32
  pub leader : differ before after ≡ false → l.leader + 1 < 2 ^ 32

-- each number in which the task counts is 1 at least
pub record IsCounted (before after : List ℕ) (l : Ledger) : Type 0 where
  pub adding : (b : ℕ) → gains before after b ≡ true → 1 ≤ adding_of l b
  pub removing : (b : ℕ) → gains after before b ≡ true → 1 ≤ removing_of l b
  pub replica : differ before after ≡ true → 1 ≤ l.replica
  pub leader : differ before after ≡ false → 1 ≤ l.leader

-- a task enters: one more in each number in which it counts, and no other number changes
pub record Enters (before after : List ℕ) (old new : Ledger) : Type 0 where
  pub known : (b : ℕ) → knows new b ≡ knows old b
  pub adding : (b : ℕ) → adding_of new b ≡ adding_of old b + one_if (gains before after b)
  pub removing : (b : ℕ) → removing_of new b ≡ removing_of old b + one_if (gains after before b)
  pub replica : new.replica ≡ old.replica + one_if (differ before after)
  pub leader : new.leader ≡ old.leader + one_if (not (differ before after))

-- a task leaves: the old numbers are the new ones with the task
abbrev pub Leaves : List ℕ → List ℕ → Ledger → Ledger → Type 0
Leaves before after old new = Enters before after new old

-- exactly these brokers are known, and all numbers are 0
pub record IsEmpty (brokers : List ℕ) (l : Ledger) : Type 0 where
  pub known : (b : ℕ) → knows l b ≡ has brokers b
  pub adding : (b : ℕ) → adding_of l b ≡ 0
  pub removing : (b : ℕ) → removing_of l b ≡ 0
  pub replica : l.replica ≡ 0
  pub leader : l.leader ≡ 0
