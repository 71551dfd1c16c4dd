use Rattle.std.specs.Prelude.{IfSome}
use Rattle.core_terms.specs.Caps.{IsCap}
use Rattle.rest_session.proofs.Calling.{cap_asked}
use Rattle.rest_session.proofs.calls.asked_by.Goals as goal

pub new-requires : goal.new-requires
new-requires c =
    let h = rw c.in-Caps.is at c.requires in
    let broker : IfSome c.in-Caps.broker IsCap = cap_asked c.in-Caps.broker h.0 in
    let cluster : IfSome c.in-Caps.cluster IsCap = cap_asked c.in-Caps.cluster h.1 in
    let leader : IfSome c.in-Caps.leader IsCap = cap_asked c.in-Caps.leader h.2 in
    assumption (broker, cluster, leader)
