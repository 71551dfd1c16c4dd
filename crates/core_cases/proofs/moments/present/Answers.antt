use Rattle.std.proofs.Common.{◌∙◌, length, map, ap}
use Rattle.plan_terms.specs.Cluster.{Cluster}
use Rattle.core_terms.specs.State.{broker_now, state_now}
use Rattle.core_cases.proofs.Belonging.{Belongs-same}
use Rattle.core_cases.proofs.moments.present.Goals as goal

pub returns-clause-belongs : goal.returns-clause-belongs
returns-clause-belongs c = λ samples stands lists belongs.
    let hosts = c.args.exec.now.hosts in
    let same =
    c.mark_brokers.ensures ∙ ap (λ (k : Cluster). record k { brokers = map (broker_now hosts) k.brokers }) (c.in_ok-case.ensures.value samples stands) in
    Belongs-same (state_now hosts) c.args.file.now.cluster c.mark_brokers.new.case lists (ap (λ (k : Cluster). k.brokers) same)
    (ap (λ (k : Cluster). length k.parts) c.mark_brokers.ensures ∙ c.in_ok-case.ensures.one_each) belongs
