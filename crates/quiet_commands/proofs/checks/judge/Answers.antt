use Rattle.std.proofs.Common.{inr}
use Rattle.quiet_commands.specs.Input.{cluster_lists}
use Rattle.quiet_commands.proofs.Traces.{bad-other}
use Rattle.quiet_commands.proofs.checks.judge.Goals as goal

pub returns-in-Good : goal.returns-in-Good
returns-in-Good g c = record {
  good = record { trace = c.in-Ok.trace; read = c.in-Ok.ensures.ok; good = rw c.in-Good.is at c.in_ok-check.ensures };
  spelled = c.in_ok-from_slice-in-Good.ensures.items;
}

pub returns : goal.returns
returns g c =
    let judged = rw c.in-Fault.is at c.in_ok-check.ensures in
    record {
      bad = bad-other (cluster_lists c.args.loaded.now) c.args.goals.now c.args.bytes.now c.in-Ok.trace c.in-Ok.ensures.ok judged.1;
      why = inr (record {
        turn = c.in-Fault.turn;
        action = c.in-Fault.action;
        kind = c.in-Fault.kind;
        faulty = record { trace = c.in-Ok.trace; read = c.in-Ok.ensures.ok; fault = judged.0 };
        spelled = rw c.name.ensures at c.in_ok-fault_text-in-Fault.ensures;
      });
    }
