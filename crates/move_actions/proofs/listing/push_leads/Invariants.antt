use Rattle.std.proofs.Common.{◌≡◌, ◌++◌}
use Rattle.std.specs.List.{filter}
use Rattle.plan_terms.specs.Legal.{is_legal, each_below, leads_of}
use Rattle.move_actions.proofs.listing.push_leads.Given as goal

abbrev pub invariant-loop-part : goal.invariant-loop-part
invariant-loop-part l = l.out.items ≡ l.initial.out.items ++ filter (is_legal l.case l.lists) ((each_below (leads_of l.case.brokers) l.part))
