-- How a fault is told.
use Rattle.std.specs.Prelude.{ℕ, List, ◌++◌, codes}
use Rattle.plan_terms.specs.Texts.{case_text, with_number}
use Rattle.cluster_json.specs.Faults.{Fault, not_json, wrong_shape, bad_number, bad_topic, missing_capacity, bad_config, unsupported_version, unsupported, no_case}

-- the name of a fault, a blank, and its path, name or number
unfoldable pub fault_text : Fault → List ℕ
fault_text not_json = codes "NotJson"
fault_text (wrong_shape path) = codes "WrongShape " ++ path
fault_text (bad_number path) = codes "BadNumber " ++ path
fault_text (bad_topic path) = codes "BadTopic " ++ path
fault_text (missing_capacity broker) = with_number (codes "MissingCapacity") broker
fault_text (bad_config name) = codes "BadConfig " ++ name
fault_text unsupported_version = codes "UnsupportedVersion"
fault_text (unsupported path) = codes "Unsupported " ++ path
fault_text (no_case fault) = case_text fault
