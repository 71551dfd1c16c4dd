-- The capacities of brokers, in the form of Cruise Control's file of broker capacities.
use Rattle.std.specs.Prelude.{ℕ, suc, ◌^◌, ◌==◌, Bool, ◌&&◌, nat_lt, nat_le, List, [], ◌∷◌, ◌++◌, length, bytes_eq, if◌then◌else◌, Option, Some, None, nat_eq, is_some, Ok, Err, codes}
use Rattle.std.specs.List.{list_all, before_first, after_first}
use Rattle.std.specs.Map.{lookup}
use Rattle.std.specs.Option.{option_eq, option_or}
use Rattle.serde_json.specs.Data.{Data, Items, no_items, item}
use Rattle.serde_json.specs.Find.{as_object}
use Rattle.plan_terms.specs.Digits.{number_of, is_point, has_point}
use Rattle.plan_terms.specs.declared.cluster.Broker.{Broker}
use Rattle.cluster_json.specs.Faults.{Read, wrong_shape, bad_number, unsupported, missing_capacity, under, ◌>>=◌, index_step}
use Rattle.cluster_json.specs.Shapes.{inside, object_at, text_at, note_at, list_at, required, optional}
use Rattle.cluster_json.specs.declared.brokers.FileBroker.{FileBroker}
use Rattle.plan_terms.specs.Bytes.{digit_0}

-- the broker of an entry, or none where the entry is for all brokers without one of their own
abbrev pub Owner : Type 0
Owner = Option ℕ

-- an entry: its broker, and the capacities of CPU, NW_IN, NW_OUT and DISK
abbrev pub Entry : Type 0
Entry = Owner × List ℕ

-- the same broker, or both for all
abbrev pub same_owner : Owner → Owner → Bool
same_owner = option_eq nat_eq

-- the capacities of the entry for this owner
abbrev pub entry_of : List Entry → Owner → Option (List ℕ)
entry_of entries o = lookup (same_owner o) entries

-- an owner that was read
abbrev pub or_wrong_shape : Option ℕ → Read Owner
or_wrong_shape None = Err (wrong_shape [])
or_wrong_shape (Some n) = Ok (Some n)

-- `-1`, or 1 to 10 digits
unfoldable pub owner_of : List ℕ → Read Owner
owner_of s = if bytes_eq s (codes "-1") then Ok None else or_wrong_shape (number_of 10 s)

-- one that no earlier entry has
abbrev pub new_owner : List Entry → Owner → Read Owner
new_owner seen o = if is_some (entry_of seen o) then Err (wrong_shape []) else Ok o

abbrev pub owner_at : List Entry → Data → Read Owner
owner_at seen d = text_at d >>= owner_of >>= new_owner seen

-- one or more zeros
abbrev pub are_zeros : List ℕ → Bool
are_zeros s = nat_le 1 (length s) && list_all (λ b. b == digit_0) s

-- 1 to 13 digits, and perhaps a point and zeros
unfoldable pub amount_of : List ℕ → Option ℕ
amount_of s =
    if has_point s
    then (if are_zeros (after_first is_point s) then number_of 13 (before_first is_point s) else None)
    else number_of 13 s

-- a capacity below 2^40
abbrev pub below_limit : Option ℕ → Read ℕ
below_limit None = Err (bad_number [])
below_limit (Some n) = if nat_lt n (2 ^ 40) then Ok n else Err (bad_number [])

-- a text of a whole number below 2^40
unfoldable pub amount_at : Data → Read ℕ
amount_at d = text_at d >>= (λ s. below_limit (amount_of s))

-- the same, where an object would give more than one disk, or the number of cores
unfoldable pub plain_amount_at : Data → Read ℕ
plain_amount_at d = if is_some (as_object d) then Err (unsupported []) else amount_at d

-- an object of `DISK`, `CPU`, `NW_IN` and `NW_OUT`
unfoldable pub capacity_at : Data → Read (List ℕ)
capacity_at d = do
  is ← object_at d
  disk ← inside (codes "DISK") (required plain_amount_at) d
  cpu ← inside (codes "CPU") (required plain_amount_at) d
  nw_in ← inside (codes "NW_IN") (required amount_at) d
  nw_out ← inside (codes "NW_OUT") (required amount_at) d
  Ok (cpu ∷ nw_in ∷ nw_out ∷ disk ∷ [])

-- an object of `brokerId`, `capacity`, and perhaps `doc`, behind those seen before
unfoldable pub entry_at : List Entry → Data → Read Entry
entry_at seen d = do
  is ← object_at d
  owner ← inside (codes "brokerId") (required (owner_at seen)) d
  cap ← inside (codes "capacity") (required capacity_at) d
  doc ← inside (codes "doc") (optional tt note_at) d
  Ok (owner, cap)

-- the entries, of which the next has this index
abbrev pub entries_from : ℕ → List Entry → Items → Read (List Entry)
entries_from i seen no_items = Ok seen
entries_from i seen (item d ds) = under (index_step i) (entry_at seen d) >>= (λ e. entries_from (suc i) (seen ++ e ∷ []) ds)

-- the list of entries, where there is one
abbrev pub entries_at : Data → Read (Option (List Entry))
entries_at d = list_at d >>= (λ ds. entries_from 0 [] ds >>= (λ entries. Ok (Some entries)))

-- every capacity is 2^40 - 1
abbrev pub full_cap : List ℕ
full_cap = 1099511627775 ∷ 1099511627775 ∷ 1099511627775 ∷ 1099511627775 ∷ []

-- a broker's own entry, else the one for all; where the file has no entries, every capacity is full
unfoldable pub cap_of : Option (List Entry) → ℕ → Option (List ℕ)
cap_of None b = Some full_cap
cap_of (Some entries) b = option_or (entry_of entries (Some b)) (entry_of entries None)

-- the capacities, or that the broker has none
abbrev pub or_missing : ℕ → Option (List ℕ) → Read (List ℕ)
or_missing b None = Err (missing_capacity b)
or_missing b (Some cap) = Ok cap

-- a broker with its capacities
unfoldable pub equipped : Option (List Entry) → FileBroker → Read Broker
equipped entries b = or_missing b.id (cap_of entries b.id) >>= (λ cap. Ok (record { id = b.id; rack = b.rack; cap = cap; state = b.state }))

-- the brokers with their capacities, or the first that has none
abbrev pub all_equipped : Option (List Entry) → List FileBroker → Read (List Broker)
all_equipped entries [] = Ok []
all_equipped entries (b ∷ bs) = equipped entries b >>= (λ x. all_equipped entries bs >>= (λ xs. Ok (x ∷ xs)))
