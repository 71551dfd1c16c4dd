-- Numbers, texts, lists and objects of a file.
use Rattle.std.specs.Prelude.{ℕ, suc, ◌^◌, List, [], ◌∷◌, nat_lt, nat_le, ◌&&◌, if◌then◌else◌, Option, Some, None, Ok, Err, is_some}
use Rattle.serde_json.specs.Data.{Data, Num, Items, no_items, item}
use Rattle.serde_json.specs.Find.{get, as_number, as_u64, as_str, as_array, as_object}
use Rattle.cluster_json.specs.Faults.{Read, wrong_shape, bad_number, under, ◌>>=◌, member_step, index_step}

-- it is an object
unfoldable pub object_at : Data → Read (Unit {0})
object_at d = if is_some (as_object d) then Ok tt else Err (wrong_shape [])

abbrev in_range : ℕ → ℕ → Option ℕ → Read ℕ
in_range least limit None = Err (bad_number [])
in_range least limit (Some n) = if nat_le least n && nat_lt n limit then Ok n else Err (bad_number [])

abbrev whole_in_range : ℕ → ℕ → Option Num → Read ℕ
whole_in_range least limit None = Err (wrong_shape [])
whole_in_range least limit (Some n) = in_range least limit (as_u64 n)

-- a whole number that is at least the one and below the other; it has no point, no exponent and no sign
unfoldable pub number_at : ℕ → ℕ → Data → Read ℕ
number_at least limit d = whole_in_range least limit (as_number d)

-- the id of a broker, or the number of a partition
abbrev pub id_at : Data → Read ℕ
id_at = number_at 0 (2 ^ 31)

abbrev or_wrong_shape : {A : Type 0} → Option A → Read A
or_wrong_shape None = Err (wrong_shape [])
or_wrong_shape (Some x) = Ok x

-- a text
unfoldable pub text_at : Data → Read (List ℕ)
text_at d = or_wrong_shape (as_str d)

-- a text that isn't used
unfoldable pub note_at : Data → Read (Unit {0})
note_at d = text_at d >>= (λ s. Ok tt)

-- a list
unfoldable pub list_at : Data → Read Items
list_at d = or_wrong_shape (as_array d)

-- a member that has to be there
abbrev pub required : {A : Type 0} → (Data → Read A) → Option Data → Read A
required read None = Err (wrong_shape [])
required read (Some d) = read d

-- a member that may be absent
abbrev pub optional : {A : Type 0} → A → (Data → Read A) → Option Data → Read A
optional default read None = Ok default
optional default read (Some d) = read d

-- what the member of this name means
abbrev pub inside : {A : Type 0} → List ℕ → (Option Data → Read A) → Data → Read A
inside name read d = under (member_step name) (read (get name d))

-- each item, of which the first has this index
abbrev pub items_from : {A : Type 0} → ℕ → (Data → Read A) → Items → Read (List A)
items_from i read no_items = Ok []
items_from i read (item d ds) = under (index_step i) (read d) >>= (λ x. items_from (suc i) read ds >>= (λ xs. Ok (x ∷ xs)))

-- a list of such items
abbrev pub all_at : {A : Type 0} → (Data → Read A) → Data → Read (List A)
all_at read d = list_at d >>= items_from 0 read
