use Rattle.std.proofs.Common.{◌≡◌, length, arith}
use Rattle.plan_check.specs.Judged.{Checked}
use Rattle.plan_check.proofs.Places.{goal_left, not_planned, good_plan}
use Rattle.plan_check.proofs.checker.check.Goals as goal

pub returns-then-turns-kinds : goal.returns-then-turns-kinds
returns-then-turns-kinds g c =
    let x : Checked = record { case = c.args.case.now; start = c.args.start.now; goals = c.args.goals.now; trace = c.args.trace.now } in
    let before = rw (c.in_default.is, c.kinds-kinds.ensures) at c.in_ok-verdict.ensures in
    let all : c.len-turns.result ≡ length c.args.trace.now.turns.items = omega (arith, c.args.trace.now.turns.ok.0) in
    rw (c.fault.ensures, all) (goal_left x before (rw (all, c.kinds-kinds.ensures) at c.if-turns-kinds.true))

pub returns-then-not-trace : goal.returns-then-not-trace
returns-then-not-trace g c =
    let x : Checked = record { case = c.args.case.now; start = c.args.start.now; goals = c.args.goals.now; trace = c.args.trace.now } in
    let before = rw (c.in_default.is, c.kinds-kinds.ensures) at c.in_ok-verdict.ensures in
    let all : c.len-turns.result ≡ length c.args.trace.now.turns.items = omega (arith, c.args.trace.now.turns.ok.0) in
    rw (c.fault-then-not-trace.ensures, all) (not_planned x before (rw (all, c.kinds-kinds.ensures) at c.if-turns-kinds.false) c.if-not-trace.true)

pub returns : goal.returns
returns g c =
    let x : Checked = record { case = c.args.case.now; start = c.args.start.now; goals = c.args.goals.now; trace = c.args.trace.now } in
    let before = rw (c.in_default.is, c.kinds-kinds.ensures) at c.in_ok-verdict.ensures in
    let all : c.len-turns.result ≡ length c.args.trace.now.turns.items = omega (arith, c.args.trace.now.turns.ok.0) in
    good_plan x before (rw (all, c.kinds-kinds.ensures) at c.if-turns-kinds.false) c.if-not-trace.false c.requires
