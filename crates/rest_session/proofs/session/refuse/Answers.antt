use Rattle.std.proofs.Common.{sym, ◌∙◌}
use Rattle.rest_session.proofs.Refusing.{last_of, never_written, refused_cut, refused_told}
use Rattle.rest_session.proofs.session.refuse.Goals as goal

pub returns-in-Ok : goal.returns-in-Ok
returns-in-Ok g c =
    let e = c.write_reply.ensures in
    let d = c.in_default in
    record {
      refused = refused_told (g.L.Sink.written c.args.link.now) (g.L.Sink.written c.write_reply.new.link) c.args.why c.end_of-in-Ok.result (last_of c.args.why d.not-End d.not-Truncated d.not-ReadFault d.not-Memory) c.end_of-in-Ok.ensures c.in-Ok.ensures.replied;
      later = e.cause.later;
      cause = λ q. absurd (never_written c.args.why (sym c.end_of-in-Ok.ensures ∙ q));
      left = e.left;
      faults = e.faults;
    }

pub returns : goal.returns
returns g c =
    let e = c.write_reply.ensures in
    let d = c.in_default in
    record {
      refused = refused_cut (g.L.Sink.written c.args.link.now) (g.L.Sink.written c.write_reply.new.link) c.args.why (last_of c.args.why d.not-End d.not-Truncated d.not-ReadFault d.not-Memory) c.in-Err.ensures.replied;
      later = e.cause.later;
      cause = λ q. c.in-Err.ensures.cause.failed;
      left = e.left;
      faults = e.faults;
    }
