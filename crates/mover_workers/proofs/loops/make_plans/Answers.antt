use Rattle.std.proofs.Common.{Ok, Err}
use Rattle.core_terms.specs.declared.faults.StepFault.TheVariants.{Memory}
use Rattle.mover_workers.specs.Loops.{IsPlanUnit, no_copier}
use Rattle.mover_workers.specs.declared.steps.Step.TheVariants.{Closed}
use Rattle.mover_workers.proofs.Looping.{plan_unit_later, plans_done, plans_end, plans_idle, units_none, units_rested}
use Rattle.mover_workers.proofs.loops.make_plans.Goals as goal

pub loop-init : goal.loop-init
loop-init g c = record { since = g.met.X.Asker.stays c.args.asker.now; did = units_none IsPlanUnit plan_unit_later (g.X.Asker.known c.args.asker.now) no_copier }

pub loop-preserved-in-Ok-Done : goal.loop-preserved-in-Ok-Done
loop-preserved-in-Ok-Done g c =
    let h = rw c.in-Ok-Done.field-0-is at (c.in-Ok-Done.ensures.made no_copier) in
    record {
      since = g.met.X.Asker.goes_on _ c.loop.asker _ c.loop.invariant.since c.plan_step.ensures.since;
      did = plans_done _ (g.X.Asker.known c.loop.asker) _ no_copier no_copier c.loop.invariant.did h;
    }

pub loop-preserved : goal.loop-preserved
loop-preserved g c =
    let h = rw c.in-Ok-Idle.field-0-is at (c.in-Ok-Idle.ensures.made no_copier) in
    record {
      since = g.met.X.Asker.goes_on _ c.plan_step.new.asker _ (g.met.X.Asker.goes_on _ c.loop.asker _ c.loop.invariant.since c.plan_step.ensures.since) c.rest.ensures.since;
      did = units_rested IsPlanUnit plan_unit_later _ (g.X.Asker.known c.plan_step.new.asker) _ no_copier no_copier
          (plans_idle _ (g.X.Asker.known c.loop.asker) (g.X.Asker.known c.plan_step.new.asker) no_copier no_copier c.loop.invariant.did h) c.rest.ensures.rested;
    }

pub returns-in-Ok-Closed-clause-since : goal.returns-in-Ok-Closed-clause-since
returns-in-Ok-Closed-clause-since g c = g.met.X.Asker.goes_on _ c.loop.asker _ c.loop.invariant.since c.plan_step.ensures.since

pub returns-in-Ok-Closed-clause-planned : goal.returns-in-Ok-Closed-clause-planned
returns-in-Ok-Closed-clause-planned g c =
    let h = rw c.in-Ok-Closed.field-0-is at (c.in-Ok-Closed.ensures.made no_copier) in
    plans_end _ (g.X.Asker.known c.loop.asker) _ no_copier no_copier (Ok Closed) c.loop.invariant.did h

pub returns-in-Err-clause-since : goal.returns-in-Err-clause-since
returns-in-Err-clause-since g c = g.met.X.Asker.goes_on _ c.loop.asker _ c.loop.invariant.since c.plan_step.ensures.since

pub returns-in-Err-clause-planned : goal.returns-in-Err-clause-planned
returns-in-Err-clause-planned g c = plans_end _ (g.X.Asker.known c.loop.asker) _ no_copier no_copier (Err Memory) c.loop.invariant.did (c.in-Err.ensures.made no_copier)
