-- One partition, and one proposal for it.
use Rattle.std.specs.Prelude.{[], ◌∷◌, codes, false}
use Rattle.plan_terms.specs.declared.cluster.Loads.{Loads}
use Rattle.plan_terms.specs.declared.cluster.Part.{Part}
use Rattle.plan_terms.specs.declared.lists.Proposal.{Proposal}

-- the loads of a partition that puts none on its brokers
abbrev no_loads : Loads
no_loads = record { lead = 0 ∷ 0 ∷ 0 ∷ 0 ∷ []; follow = 0 ∷ 0 ∷ 0 ∷ 0 ∷ [] }

-- partition 0 of the topic t
abbrev pub one_part : Part
one_part = record { topic = codes "t"; number = 0; loads = no_loads; excluded = false; chunks = 1 }

-- its list is to be 2, 1 in place of 0, 1
abbrev pub one_proposal : Proposal
one_proposal = record { part = 0; before = 0 ∷ 1 ∷ []; after = 2 ∷ 1 ∷ [] }
