use Rattle.std.proofs.Common.{map, string_bytes, refl, arith, length, inl, inr}
use Rattle.cluster_json.specs.Views.{file_seen}
use Rattle.cc_program.specs.Lives.{IsCalled, shelf}
use Rattle.cc_program.proofs.Causes.{forgone}
use Rattle.cc_program.proofs.Crowds.{few_workers}
use Rattle.cc_program.proofs.Inserted.{links_counted}
use Rattle.cc_program.proofs.lives.run.Goals as goal

pub begin-requires-clause-few : goal.begin-requires-clause-few
begin-requires-clause-few g c κs within =
    let few = few_workers (map string_bytes c.args.words.now) _ c.in-Ok.ensures.ok.0 in
    let same = links_counted c.in-Ok.request.crew.serving in
    omega (arith, few.0, few.1, few.2, same)

pub begin-requires-clause-enough : goal.begin-requires-clause-enough
begin-requires-clause-enough g c κs within =
    let same = links_counted c.in-Ok.request.crew.serving in
    omega (arith, c.in-Ok.ensures.ok.1, c.count.ensures, same)

pub returns-in-Ok-load_file-clause-leaves : goal.returns-in-Ok-load_file-clause-leaves
returns-in-Ok-load_file-clause-leaves g c =
    let call : IsCalled (map string_bytes c.args.words.now) (length c.args.outside.copiers) = record { asked = _; means = c.in-Ok.ensures.ok.0; enough = omega (arith, c.in-Ok.ensures.ok.1, c.count.ensures) } in
    inr (record { call = call; loaded = rw c.deref.ensures at c.in-Ok-load_file.ensures.logs; file = file_seen c.in-Ok-load_file.file; meant = rw c.deref.ensures at c.in-Ok-load_file.ensures.loads; answered = c.begin.ensures.left })

pub returns-in-Err-Refused-clause-leaves : goal.returns-in-Err-Refused-clause-leaves
returns-in-Err-Refused-clause-leaves g c =
    let call : IsCalled (map string_bytes c.args.words.now) (length c.args.outside.copiers) = record { asked = _; means = c.in-Ok.ensures.ok.0; enough = omega (arith, c.in-Ok.ensures.ok.1, c.count.ensures) } in
    let loads = rw (c.in-Err-Refused.field-0-is, c.deref.ensures) at c.in-Err-Refused.ensures.loads in
    let logs = rw (c.in-Err-Refused.field-0-is, c.deref.ensures) at c.in-Err-Refused.ensures.logs in
    rw c.idle-in-Err-Refused.ensures (inl (record { call = call; loaded = logs; fault = loads.0; refused = loads.1; line_is = loads.2 }, refl, refl, record { outside = refl; links = refl; lanes = refl; movers = refl; planners = refl; board = refl; drain = refl }))

pub returns-in-Err-Failed-clause-leaves : goal.returns-in-Err-Failed-clause-leaves
returns-in-Err-Failed-clause-leaves g c =
    let call : IsCalled (map string_bytes c.args.words.now) (length c.args.outside.copiers) = record { asked = _; means = c.in-Ok.ensures.ok.0; enough = omega (arith, c.in-Ok.ensures.ok.1, c.count.ensures) } in
    let loads = rw c.in-Err-Failed.field-0-is at c.in-Err-Failed.ensures.loads in
    let logs = rw (c.in-Err-Failed.field-0-is, c.deref.ensures) at c.in-Err-Failed.ensures.logs in
    rw c.idle-in-Err-Failed.ensures (inl (((call, logs), loads), refl, refl, record { outside = refl; links = refl; lanes = refl; movers = refl; planners = refl; board = refl; drain = refl }))

pub returns-clause-leaves : goal.returns-clause-leaves
returns-clause-leaves g c =
    let call : IsCalled (map string_bytes c.args.words.now) (length c.args.outside.copiers) = record { asked = _; means = c.in-Ok.ensures.ok.0; enough = omega (arith, c.in-Ok.ensures.ok.1, c.count.ensures) } in
    let logs = rw (c.in-Err-Memory-load_file.field-0-is, c.deref.ensures) at c.in-Err-Memory-load_file.ensures.logs in
    rw c.idle-in-Err-Memory-load_file.ensures (inl (forgone (map string_bytes c.args.words.now) (length c.args.outside.copiers) (shelf g.F.Files.contents g.F.Files.faults g.F.Files.log c.args.files.now c.load_file.new.files) call logs, refl, refl, record { outside = refl; links = refl; lanes = refl; movers = refl; planners = refl; board = refl; drain = refl }))
