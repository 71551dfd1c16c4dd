use Rattle.std.proofs.Common.{◌∙◌, Bool, length, map, ap, subst}
use Rattle.std.proofs.lemmas.List.{length-map}
use Rattle.plan_terms.specs.Cluster.{Cluster}
use Rattle.user_tasks.specs.Asks.{AskView}
use Rattle.core_terms.specs.Asked.{broker_asked, part_asked, state_for, case_of}
use Rattle.core_cases.specs.Excluded.{HasTopics}
use Rattle.core_cases.proofs.Belonging.{Belongs-same}
use Rattle.core_cases.proofs.asked.case_of.Goals as goal

pub returns-clause-value : goal.returns-clause-value
unfolding case_of
returns-clause-value c =
    let ask = c.args.ask.now in
    let old = c.args.present in
    let has : HasTopics c.in_ok-excluded.excluded ask.excluded =
    subst (λ (a : AskView). HasTopics c.in_ok-excluded.excluded a.excluded) c.ask.view_is (rw c.as_slice.ensures at c.in_ok-excluded.ensures) in
    c.set_leads_only.ensures
    ∙ ap (λ (k : Cluster). record k { options = record k.options { leads_only = c.asks_demotion.result } })
    (c.ask_parts.ensures ask has ∙ ap (λ (k : Cluster). record k { parts = map (part_asked ask) k.parts }) c.ask_brokers.ensures)
    ∙ ap (λ (b : Bool). record old { brokers = map (broker_asked ask) old.brokers; parts = map (part_asked ask) old.parts; options = record old.options { leads_only = b } }) c.asks_demotion.ensures

pub returns-clause-one_each : goal.returns-clause-one_each
unfolding case_of
returns-clause-one_each c = ap (λ (k : Cluster). length k.parts) (returns-clause-value c) ∙ length-map c.args.present.parts (part_asked c.args.ask.now)

pub returns-clause-belongs : goal.returns-clause-belongs
unfolding case_of
returns-clause-belongs c = λ lists belongs.
    Belongs-same (state_for c.args.ask.now) c.args.present c.set_leads_only.new.self lists (ap (λ (k : Cluster). k.brokers) (returns-clause-value c)) (returns-clause-one_each c) belongs
