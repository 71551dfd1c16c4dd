-- What an index of partitions by topic and number keeps.
use Rattle.std.specs.Prelude.{◌≡◌, ℕ, ◌<◌, ◌≤◌, Bool, ◌==◌, ◌&&◌, List, Option, Some, None, String}
use Rattle.std.specs.HashMap.{HashMap, get, get_by_text, hash_map_len}
use Rattle.plan_terms.specs.declared.cluster.Part.{Part}
use Rattle.core_terms.specs.Works.{part_place}

-- the place behind the number of a topic, where it has one
abbrev pub place_behind : (ℕ → Option ℕ) → Option ℕ → Option ℕ
place_behind places None = None
place_behind places (Some topic) = places topic

-- topics have numbers, one each and all below `count`; a topic's number and a partition's lead to the partition's place
pub record IsIndex (parts : List Part) (numbers : List ℕ → Option ℕ) (places : ℕ → ℕ → Option ℕ) (count : ℕ) : Type 0 where
  pub finds : (topic : List ℕ) (number : ℕ) → place_behind (λ t. places t number) (numbers topic) ≡ part_place parts topic number
  pub apart : (a b : List ℕ) (t : ℕ) → numbers a ≡ Some t → numbers b ≡ Some t → a ≡ b
  pub few : (a : List ℕ) (t : ℕ) → numbers a ≡ Some t → t < count
  pub free : (t number : ℕ) → count ≤ t → places t number ≡ None

-- the same pair of numbers
abbrev pub same_pair : ℕ × ℕ → ℕ × ℕ → Bool
same_pair a b = (a.0 == b.0) && (a.1 == b.1)

-- the number of a topic in a map
abbrev pub number_in : {A S : Type 0} → HashMap (String A) ℕ S → List ℕ → Option ℕ
number_in numbers topic = get_by_text numbers topic

-- the place behind two numbers in a map
abbrev pub place_in : {S : Type 0} → HashMap (ℕ × ℕ) ℕ S → ℕ → ℕ → Option ℕ
place_in places topic number = get same_pair places (topic, number)

-- the two maps are an index of the partitions
abbrev pub IsIndexOf : {A S T : Type 0} → List Part → HashMap (String A) ℕ S → HashMap (ℕ × ℕ) ℕ T → Type 0
IsIndexOf parts numbers places = IsIndex parts (number_in numbers) (place_in places) (hash_map_len numbers)
