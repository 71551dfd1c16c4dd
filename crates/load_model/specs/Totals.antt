-- What all brokers carry together.
use Rattle.std.specs.Prelude.{ℕ, ◌+◌, ◌-◌, ◌*◌, ◌==◌, List, length, if◌then◌else◌}
use Rattle.plan_terms.specs.Cluster.{Lists}
use Rattle.plan_terms.specs.Load.{sum_parts}
use Rattle.plan_terms.specs.declared.cluster.Part.{Part}

-- what all n places of a list carry
abbrev pub list_whole : ℕ → ℕ → ℕ → ℕ
list_whole lead follow n = if n == 0 then 0 else lead + follow * (n - 1)

-- what the places of all lists carry, where the first place of a partition's list carries `lead` and each other one `follow`
abbrev pub whole : (Part → ℕ) → (Part → ℕ) → List Part → Lists → ℕ
whole lead follow parts lists = sum_parts (λ p list. list_whole (lead p) (follow p) (length list)) parts lists
