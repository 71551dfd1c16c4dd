use Rattle.std.proofs.Common.{◌∙◌, List, map, ap, sym, subst}
use Rattle.std.specs.List.{All}
use Rattle.core_terms.specs.declared.shows.BrokerShown.{BrokerShown}
use Rattle.core_cases.specs.Carried.{IsWithin, idle}
use Rattle.core_cases.proofs.Carries.{rows-none, none-within}
use Rattle.core_cases.proofs.carried.Carried.new.Goals as goal

pub returns-clause-none : goal.returns-clause-none
returns-clause-none c = c.in_ok-rows.ensures ∙ ap (map idle) c.brokers.ensures.value ∙ rows-none c.args.case.now c.args.case.now.brokers

pub returns-clause-within : goal.returns-clause-within
returns-clause-within c =
    let Within : List BrokerShown → Type 0 = λ rows. All (IsWithin 0) rows in
    subst Within (sym (returns-clause-none c)) (none-within c.args.case.now c.args.case.now.brokers)
