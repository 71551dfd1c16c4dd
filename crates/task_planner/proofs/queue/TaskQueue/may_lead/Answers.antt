use Rattle.std.proofs.Common.{◌≡◌, ◌∙◌, ap, nat_eq, sym, true}
use Rattle.std.proofs.lemmas.Bool.{eq-eqb}
use Rattle.task_planner.specs.Queue.{moves}
use Rattle.task_planner.proofs.Grouped.{none-counted}
use Rattle.task_planner.proofs.queue.TaskQueue.may_lead.Goals as goal

pub returns-then-in_flight-eq0 : goal.returns-then-in_flight-eq0
returns-then-in_flight-eq0 c =
    let none : nat_eq c.args.counts.now.replica 0 ≡ true = eq-eqb c.args.counts.now.replica 0 (sym c.replica_tasks-in_flight.ensures ∙ c.if-in_flight-eq0.true) in
    rw (← c.self.view_is, none, none-counted moves c.self.inside.slots.items) (ap (λ n. nat_eq n 0) c.self.invariant.filed.movers_are)
