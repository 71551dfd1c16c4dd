use Rattle.std.proofs.Common.{rules, ◌≡◌, [], ◌∷◌, ◌++◌}
use Rattle.live_tests.proofs.Fresh.{fresh_more}
use Rattle.live_tests.proofs.listeners.links_of.Goals as goal

pub loop-link-preserved : goal.loop-link-preserved
loop-link-preserved g c =
    let grown : c.push.new.self.items ≡ c.loop-link.links.items ++ c.link_of-link.result ∷ [] = search rules in
    rw grown (fresh_more c.loop-link.links.items c.link_of-link.result c.loop-link.invariant c.link_of-link.ensures.fresh)
