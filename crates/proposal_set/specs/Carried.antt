-- What the proposals do when they are carried out.
use Rattle.std.specs.Prelude.{◌≡◌, length}
use Rattle.plan_terms.specs.Cluster.{Lists}
use Rattle.plan_terms.specs.Change.{proposals, carried_out}

-- carried out, the proposals between two assignments make the second out of the first
abbrev pub ProposalsLead : Type 0
ProposalsLead = (before after : Lists) → length before ≡ length after → carried_out (proposals before after) before ≡ after
