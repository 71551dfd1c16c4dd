use Rattle.std.proofs.Common.{◌≡◌}
use Rattle.std.specs.Prelude.{OnErr, OnOk}
use Rattle.cc_base.specs.Outside.{IsPrefixOut, appended}
use Rattle.quiet_commands.specs.Ends.{line_behind, line_of}
use Rattle.quiet_commands.proofs.Telling.{drain_told, end_cut}
use Rattle.quiet_commands.proofs.ends.tell.Goals as goal

pub returns-in-Some-clause-told : goal.returns-in-Some-clause-told
returns-in-Some-clause-told g c =
    let d = c.in-Some.drain in
    let end = c.args.end.now in
    let old = g.O.Sink.written c.args.err.now in
    let mid = g.O.Sink.written c.write_all_of.new.sink in
    let new = g.O.Sink.written c.write_all_of-in-Some.new.sink in
    let second = c.write_all_of-in-Some in
    let first_is : mid ≡ appended old (line_of end) = rw c.line.ensures at c.in_ok-write_all_of.ensures.written in
    let out : OnOk second.result (new ≡ appended mid (line_behind d end)) = rw c.line_behind.ensures at second.ensures.written in
    let cut : OnErr second.result (IsPrefixOut mid new (line_behind d end)) = rw c.line_behind.ensures at second.ensures.prefix in
    rw c.in-Some.is (drain_told d end old mid new (g.O.Sink.faults c.args.err.now) (g.O.Sink.faults c.write_all_of.new.sink) (g.O.Sink.faults second.new.sink) second.result c.write_all_of.ensures.cause.later first_is second.ensures.cause out cut)

pub returns-in_err-write_all_of-clause-told : goal.returns-in_err-write_all_of-clause-told
returns-in_err-write_all_of-clause-told g c =
    let end = c.args.end.now in
    let old = g.O.Sink.written c.args.err.now in
    let new = g.O.Sink.written c.write_all_of.new.sink in
    let cut : IsPrefixOut old new (line_of end) = rw c.line.ensures at c.in_err-write_all_of.ensures.prefix in
    end_cut c.args.drain end old new (g.O.Sink.faults c.args.err.now) (g.O.Sink.faults c.write_all_of.new.sink) c.in_err-write_all_of.ensures.cause.failed cut
