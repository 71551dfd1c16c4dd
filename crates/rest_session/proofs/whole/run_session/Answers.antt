use Rattle.std.proofs.Common.{◌∙◌, arith}
use Rattle.mover_rounds.specs.Made.{copier_of}
use Rattle.control_core.specs.Since.{since_on}
use Rattle.rest_session.proofs.Sessions.{link_open, session}
use Rattle.rest_session.proofs.whole.run_session.Goals as goal

pub close-requires : goal.close-requires
close-requires g c =
    let s = c.serve-ended in
    link_open c.args.book.now s.new.asker (g.V.Reviewer.board c.args.reviewer.now) (g.V.Reviewer.board s.new.reviewer) (copier_of g.K.Copier.copies g.K.Copier.faults c.args.copier.now) (copier_of g.K.Copier.copies g.K.Copier.faults s.new.copier) (g.L.Source.left c.args.link.now) (g.L.Sink.written c.args.link.now) (g.L.Sink.written s.new.link) s.result c.requires s.ensures.served

pub returns-clause-since : goal.returns-clause-since
returns-clause-since g c =
    let one = since_on g.A.Admin.faults c.args.book.now c.serve-ended.new.asker c.close.new.book c.serve-ended.ensures.since c.close.ensures.since in
    since_on g.A.Admin.faults c.args.book.now c.close.new.book c.finish-drain.new.book one c.finish-drain.ensures.since

pub returns-clause-session : goal.returns-clause-session
returns-clause-session g c =
    let s = c.serve-ended in
    let d = c.finish-drain in
    session c.args.book.now s.new.asker (g.V.Reviewer.board c.args.reviewer.now) (g.V.Reviewer.board s.new.reviewer) (copier_of g.K.Copier.copies g.K.Copier.faults c.args.copier.now) (copier_of g.K.Copier.copies g.K.Copier.faults s.new.copier) (g.L.Source.left c.args.link.now) (g.L.Sink.written c.args.link.now) (g.L.Sink.written s.new.link) s.result c.requires s.ensures.served
    c.close.new.book d.new.book (copier_of g.K.Copier.copies g.K.Copier.faults d.new.copier) d.result (c.close.ensures.since.file ∙ s.ensures.since.file) c.close.ensures.journal c.close.ensures.blameless d.ensures.cause d.ensures.rounds

pub returns-clause-fault : goal.returns-clause-fault
returns-clause-fault g c = λ number e. let cause = rw e at c.finish-drain.ensures.cause in omega (arith, cause.1)
