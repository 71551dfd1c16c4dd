use Rattle.std.proofs.Common.{◌<◌, ◌^◌, ◌+◌, ◌∙◌, refl, arith}
use Rattle.std.specs.Prelude.{IsNone}
use Rattle.rest_stream.specs.Answers.{stop_of}
use Rattle.rest_stream.specs.Stream.{stream_of}
use Rattle.rest_stream.proofs.Leading.{few_left, leads_end, leads_on}
use Rattle.rest_stream.proofs.whole.read_whole.Goals as goal

pub loop-raw-preserved : goal.loop-raw-preserved
loop-raw-preserved g c =
    let is = c.in-Ok.ensures in
    let goes = c.loop-raw.invariant.open_still in
    let none : IsNone (stop_of c.next.result) = rw is refl in
    let last = rw is at (c.next.ensures.last goes) in
    let few : c.loop-raw.reader.given + 1 < 2 ^ 48 = few_left c.loop-raw.reader.given c.in-Ok.raw last c.if-closes.false in
    record {
      open_still = rw (c.next.ensures.ended goes) none;
      few = omega (arith, few, c.next.ensures.counts goes none);
      leads = rw c.in_ok-push-in-Ok.ensures.items (leads_on c.loop-raw.requests.items c.loop-raw.reader.given c.in-Ok.raw (g.S.Source.left c.args.source.now) (stream_of c.loop-raw.reader.held (g.S.Source.left c.loop-raw.source)) _ _ (omega (arith, few, c.next.ensures.counts goes none)) c.loop-raw.invariant.leads (rw is at (c.next.ensures.request goes)) (c.next.ensures.told goes none) c.if-closes.false);
      later = omega (arith, c.loop-raw.invariant.later, c.next.ensures.later);
      beside = c.next.ensures.beside ∙ c.loop-raw.invariant.beside;
    }

pub returns-in-Err-clause-requests : goal.returns-in-Err-clause-requests
returns-in-Err-clause-requests g c =
    let is = c.in-Err.ensures in
    let goes = c.loop-raw.invariant.open_still in
    leads_end c.loop-raw.requests.items c.loop-raw.reader.given _ (g.S.Source.left c.args.source.now) (stream_of c.loop-raw.reader.held (g.S.Source.left c.loop-raw.source)) c.loop-raw.invariant.leads (rw is at (c.next.ensures.stopped goes))
