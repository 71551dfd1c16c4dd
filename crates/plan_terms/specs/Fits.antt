-- When an action may be applied to the lists at all.
use Rattle.std.specs.Prelude.{Bool, true, not, ◌==◌, ◌&&◌}
use Rattle.plan_terms.specs.Cluster.{Cluster, Lists, list_of, has, leads, is_known}
use Rattle.plan_terms.specs.declared.actions.Action.{Action}
use Rattle.plan_terms.specs.declared.actions.Action.TheVariants.{Move, Lead, Swap}

-- each source is a member, and each target is none, but that of a lead, which is a member other than the first
abbrev pub fits : Lists → Action → Bool
fits lists (Move p a b) = has (list_of lists p) a && not (has (list_of lists p) b)
fits lists (Lead p b) = has (list_of lists p) b && not (leads (list_of lists p) b)
fits lists (Swap p a q b) =
    not (p == q) && has (list_of lists p) a && not (has (list_of lists q) a)
    && has (list_of lists q) b && not (has (list_of lists p) b)

-- each broker that gets a replica is one of the cluster
abbrev pub targets_known : Cluster → Action → Bool
targets_known c (Move p a b) = is_known c b
targets_known c (Lead p b) = true
targets_known c (Swap p a q b) = is_known c a && is_known c b
