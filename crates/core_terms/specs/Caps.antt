-- Caps that change while tasks are in flight.
use Rattle.std.specs.Prelude.{ℕ, ◌≤◌, Option, Some, None, IfSome}
use Rattle.plan_terms.specs.declared.settings.Caps.{Caps}

-- the caps that are asked for; an absent one keeps its value
pub record CapsAsked : Type 0 where
  pub broker : Option ℕ
  pub cluster : Option ℕ
  pub leader : Option ℕ

-- a cap is 1 to 10,000
pub record IsCap (n : ℕ) : Type 0 where
  pub some : 1 ≤ n
  pub few : n ≤ 10000

-- each cap that is asked for is one
pub record IsCapChange (c : CapsAsked) : Type 0 where
  pub broker : IfSome c.broker IsCap
  pub cluster : IfSome c.cluster IsCap
  pub leader : IfSome c.leader IsCap

-- the new cap, where there is one
abbrev pub or_kept : ℕ → Option ℕ → ℕ
or_kept old None = old
or_kept old (Some new) = new

-- the caps in force after the change
abbrev pub caps_changed : Caps → CapsAsked → Caps
caps_changed caps asked = record {
  broker = or_kept caps.broker asked.broker;
  cluster = or_kept caps.cluster asked.cluster;
  leader = or_kept caps.leader asked.leader;
}
