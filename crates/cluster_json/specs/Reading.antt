-- What a reader gives.
use Rattle.std.specs.Prelude.{◌≡◌, ℕ, List, Option, Some, None, IfSome, Result, Ok, Err, string_bytes}
use Rattle.cluster_json.specs.Faults.{Fault, Read, not_json, wrong_shape, bad_number, bad_topic, missing_capacity, bad_config, unsupported_version, unsupported, no_case, deeper}
use Rattle.cluster_json.specs.declared.refusal.FileRefusal.{FileRefusal}
use Rattle.cluster_json.specs.declared.refusal.FileRefusal.TheVariants as refusal

-- the fault that a refusal tells, which is none for want of memory
abbrev pub fault_of : FileRefusal → Option Fault
fault_of refusal.Memory = None
fault_of refusal.NotJson = Some not_json
fault_of (refusal.WrongShape path) = Some (wrong_shape (string_bytes path))
fault_of (refusal.BadNumber path) = Some (bad_number (string_bytes path))
fault_of (refusal.BadTopic path) = Some (bad_topic (string_bytes path))
fault_of (refusal.MissingCapacity broker) = Some (missing_capacity broker)
fault_of (refusal.BadConfig name) = Some (bad_config (string_bytes name))
fault_of refusal.UnsupportedVersion = Some unsupported_version
fault_of (refusal.Unsupported path) = Some (unsupported (string_bytes path))
fault_of (refusal.Case fault) = Some (no_case fault)

-- the meaning is the fault, where one is told
abbrev pub Fails : {Y : Type 0} → Option Fault → Read Y → Type 0
Fails told meaning = IfSome told (λ f. meaning ≡ Err f)

-- what was read, seen by view, is the meaning; a refusal is the meaning's fault, unless memory ran out
abbrev pub Gives : {X Y : Type 0} → (X → Y) → Result X FileRefusal → Read Y → Type 0
Gives view (Ok x) meaning = meaning ≡ Ok (view x)
Gives view (Err e) meaning = Fails (fault_of e) meaning

-- the fault, where one is told, is this one seen from one step further out
abbrev pub IsDeeper : List ℕ → Option Fault → Option Fault → Type 0
IsDeeper step inner outer = IfSome outer (λ g. (f : Fault) × (inner ≡ Some f) × (g ≡ deeper step f))
