use Rattle.std.specs.Prelude.{string_bytes}
use Rattle.cluster_json.specs.Views.{file_seen}
use Rattle.quiet_commands.specs.Commands.{apply, gen, plan}
use Rattle.quiet_commands.specs.Edges.{edge, io_of}
use Rattle.quiet_commands.proofs.Ending.{performed}
use Rattle.quiet_commands.proofs.quiet.perform.Goals as goal

pub returns-in-Plan-clause-performs : goal.returns-in-Plan-clause-performs
returns-in-Plan-clause-performs g c =
    let io = io_of g.L.Source.left g.L.Source.faults g.L.Sink.faults g.L.Sink.written c.args.console.now c.write.new.console in
    let e = edge g.F.Files.contents g.F.Files.faults c.args.files.now c.args.files.now io in
    rw c.in-Plan.is (performed (plan (string_bytes c.in-Plan.file) c.in-Plan.trace c.in-Plan.planning.ask) (file_seen c.args.file) e c.plan.result c.write.result c.plan.ensures c.write.ensures.written)

pub returns-in-Apply-clause-performs : goal.returns-in-Apply-clause-performs
returns-in-Apply-clause-performs g c =
    let io = io_of g.L.Source.left g.L.Source.faults g.L.Sink.faults g.L.Sink.written c.args.console.now c.write-in-Apply.new.console in
    let e = edge g.F.Files.contents g.F.Files.faults c.args.files.now c.args.files.now io in
    rw c.in-Apply.is (performed (apply (string_bytes c.in-Apply.file) c.in-Apply.planning.ask) (file_seen c.args.file) e c.apply.result c.write-in-Apply.result c.apply.ensures c.write-in-Apply.ensures.written)

pub returns-in-Gen-clause-performs : goal.returns-in-Gen-clause-performs
returns-in-Gen-clause-performs g c =
    let io = io_of g.L.Source.left g.L.Source.faults g.L.Sink.faults g.L.Sink.written c.args.console.now c.write-in-Gen.new.console in
    let e = edge g.F.Files.contents g.F.Files.faults c.args.files.now c.args.files.now io in
    let r = c.in-Gen.recipe in
    rw c.in-Gen.is
    (performed (gen r.seed r.brokers r.partitions c.in-Gen.whole c.in-Gen.planning.ask) (file_seen c.args.file) e c.generated.result c.write-in-Gen.result c.generated.ensures c.write-in-Gen.ensures.written)
