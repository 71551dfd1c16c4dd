use Rattle.std.proofs.Common.{◌≡◌, ◌++◌, map, take}
use Rattle.std.specs.List.{filter}
use Rattle.plan_terms.specs.Legal.{is_legal}
use Rattle.plan_terms.specs.declared.actions.Action.TheVariants.{Lead}
use Rattle.move_actions.proofs.listing.push_leads_of.Given as goal

abbrev pub invariant-loop-broker : goal.invariant-loop-broker
invariant-loop-broker l = l.out.items ≡ l.initial.out.items ++ filter (is_legal l.case l.lists) ((map (λ x. Lead l.part x.id) (take l.broker-index l.brokers)))
