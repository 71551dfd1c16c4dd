-- What a task that enters or leaves does to the entry of one broker.
use Rattle.std.specs.Prelude.{◌≡◌, ℕ, ◌+◌, ◌-◌, ◌<◌, ◌≤◌, ◌^◌, true, List, map}
use Rattle.std.specs.List.Sorted.{IsStrictlyIncreasing}
use Rattle.plan_terms.specs.Belongs.{distinct}
use Rattle.cap_ledger.specs.declared.entry.Entry.{Entry}
use Rattle.plan_terms.specs.Change.{gains}
use Rattle.cap_ledger.specs.Ledger.{one_if}

-- the entry of a broker of which nothing is counted
abbrev pub empty_entry : ℕ → Entry
empty_entry b = record { broker = b; adding = 0; removing = 0 }

-- the entry with the task
abbrev pub entered : List ℕ → List ℕ → Entry → Entry
entered before after e = record e { adding = e.adding + one_if (gains before after e.broker); removing = e.removing + one_if (gains after before e.broker) }

-- the entry without it
abbrev pub left : List ℕ → List ℕ → Entry → Entry
left before after e = record e { adding = e.adding - one_if (gains before after e.broker); removing = e.removing - one_if (gains after before e.broker) }

-- the entry can count one task more
pub record HasEntryRoom (before after : List ℕ) (e : Entry) : Type 0 where
  pub adding : gains before after e.broker ≡ true → e.adding + 1 < 2 ^ 32
  pub removing : gains after before e.broker ≡ true → e.removing + 1 < 2 ^ 32

-- the entry counts the task
pub record IsEntryCounted (before after : List ℕ) (e : Entry) : Type 0 where
  pub adding : gains before after e.broker ≡ true → 1 ≤ e.adding
  pub removing : gains after before e.broker ≡ true → 1 ≤ e.removing

-- the entries are those of these brokers, which rise
pub record AreInOrder (ids : List ℕ) (entries : List Entry) : Type 0 where
  pub brokers_are : map (λ e. e.broker) entries ≡ ids
  pub rising : IsStrictlyIncreasing ids
  pub once : distinct ids ≡ true
