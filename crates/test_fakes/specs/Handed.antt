-- What a listener over memory tells of the links that it handed out.
use Rattle.std.specs.Prelude.{◌-◌, ℕ, List, Option, length, take}
use Rattle.std.specs.List.{All}
use Rattle.net_links.specs.Links.{AcceptedLink, IsFresh}

-- nothing was written to any of these links
abbrev pub AreFresh : {C : Type 0} → (C → Option (List ℕ)) → List C → Type 0
AreFresh written links = All (λ link. IsFresh (written link)) links

-- the links that were given and no longer wait
abbrev pub handed_out : {C : Type 0} → List C → List C → List C
handed_out given waiting = take (length given - length waiting) given

-- what a link tells when it is accepted
abbrev pub accepted_link : {C : Type 0} → (C → ℕ) → (C → ℕ) → (C → Option (List ℕ)) → C → AcceptedLink
accepted_link source_faults sink_faults left link = record { source_faults = source_faults link; sink_faults = sink_faults link; left = left link }
