use Rattle.std.proofs.Common.{◌≡◌, ℕ, ◌+◌, ◌<◌, ◌^◌, List, [], refl, ap, sym, ◌∙◌, subst, arith}
use Rattle.std.specs.Prelude.{IsNone, Option}
use Rattle.cc_base.specs.Outside.{Beside}
use Rattle.mover_rounds.specs.Made.{copier_of}
use Rattle.rest_stream.specs.Answers.{stop_of}
use Rattle.rest_stream.specs.Stream.{stream_of}
use Rattle.rest_stream.proofs.Leading.{few_left}
use Rattle.rest_session.proofs.Serving.{IsServing, leads_first, none_served, risen_cut, serving_closed, serving_cut, serving_more, serving_refused, serving_shut}
use Rattle.rest_session.proofs.session.serve_with.Goals as goal

pub loop-raw-init : goal.loop-raw-init
loop-raw-init g c = record {
  open_still = rw c.requires refl;
  few = rw c.requires (omega arith);
  since = g.met.X.Asker.stays c.args.asker.now;
  since_board = g.met.V.Reviewer.stays c.args.reviewer.now;
  serving = rw c.requires (record {
    raws = [];
    leads = leads_first (g.L.Source.left c.args.link.now);
    did = none_served (g.D.Site.offers c.args.site.now) (g.X.Asker.known c.args.asker.now) (g.V.Reviewer.board c.args.reviewer.now) (copier_of g.K.Copier.copies g.K.Copier.faults c.args.copier.now) (g.L.Sink.written c.args.link.now);
  });
  source = omega arith;
  sink = omega arith;
}

pub returns-then-is_err-clause-served : goal.returns-then-is_err-clause-served
returns-then-is_err-clause-served g c =
    let inv = c.loop-raw.invariant in
    let is = c.in-Ok.ensures in
    let goes = inv.open_still in
    let none : IsNone (stop_of c.next.result) = rw is refl in
    let law = g.met.L.Link.beside_source in
    let beside = sym (law c.next.new.source) ∙ (c.next.ensures.beside ∙ law c.loop-raw.link) in
    let so_far = subst (λ (o : Option (List ℕ)). IsServing (g.D.Site.offers c.args.site.now) (g.L.Source.left c.args.link.now) (g.L.Sink.written c.args.link.now) (stream_of c.loop-raw.reader.held (g.L.Source.left c.loop-raw.link)) o c.loop-raw.reader.given (g.X.Asker.known c.args.asker.now) (g.X.Asker.known c.loop-raw.asker) (g.V.Reviewer.board c.args.reviewer.now) (g.V.Reviewer.board c.loop-raw.reviewer) (copier_of g.K.Copier.copies g.K.Copier.faults c.args.copier.now) (copier_of g.K.Copier.copies g.K.Copier.faults c.loop-raw.copier)) (sym (ap (λ (b : Beside). b.1) beside)) inv.serving in
    serving_cut (g.D.Site.offers c.args.site.now) (g.X.Asker.known c.args.asker.now) (g.X.Asker.known c.loop-raw.asker) (g.X.Asker.known c.answer.new.asker) (g.V.Reviewer.board c.args.reviewer.now) (g.V.Reviewer.board c.loop-raw.reviewer) (g.V.Reviewer.board c.answer.new.reviewer) (copier_of g.K.Copier.copies g.K.Copier.faults c.args.copier.now) (copier_of g.K.Copier.copies g.K.Copier.faults c.loop-raw.copier) (copier_of g.K.Copier.copies g.K.Copier.faults c.answer.new.copier) (g.L.Source.left c.args.link.now) (g.L.Sink.written c.args.link.now) (stream_of c.loop-raw.reader.held (g.L.Source.left c.loop-raw.link)) (g.L.Sink.written c.next.new.source) (stream_of c.next.new.self.held (g.L.Source.left c.next.new.source)) (g.L.Sink.written c.answer.new.link) c.loop-raw.reader.given c.in-Ok.raw so_far (rw is at (c.next.ensures.request goes)) (c.next.ensures.told goes none) c.answer.result c.if-is_err.ensures.value c.answer.ensures.answered

pub returns-then-is_err-clause-write_fault : goal.returns-then-is_err-clause-write_fault
returns-then-is_err-clause-write_fault g c =
    let law = g.met.L.Link.beside_source in
    let beside = sym (law c.next.new.source) ∙ (c.next.ensures.beside ∙ law c.loop-raw.link) in
    let same : g.L.Sink.faults c.next.new.source ≡ g.L.Sink.faults c.loop-raw.link = ap (λ (b : Beside). b.0) beside in
    λ q. risen_cut (g.L.Sink.faults c.args.link.now) (g.L.Sink.faults c.next.new.source) (g.L.Sink.faults c.answer.new.link) c.answer.result c.if-is_err.ensures.value (omega (arith, same, c.loop-raw.invariant.sink)) c.answer.ensures.cause.failed

pub returns-then-raw-clause-served : goal.returns-then-raw-clause-served
returns-then-raw-clause-served g c =
    let inv = c.loop-raw.invariant in
    let is = c.in-Ok.ensures in
    let goes = inv.open_still in
    let none : IsNone (stop_of c.next.result) = rw is refl in
    let law = g.met.L.Link.beside_source in
    let beside = sym (law c.next.new.source) ∙ (c.next.ensures.beside ∙ law c.loop-raw.link) in
    let so_far = subst (λ (o : Option (List ℕ)). IsServing (g.D.Site.offers c.args.site.now) (g.L.Source.left c.args.link.now) (g.L.Sink.written c.args.link.now) (stream_of c.loop-raw.reader.held (g.L.Source.left c.loop-raw.link)) o c.loop-raw.reader.given (g.X.Asker.known c.args.asker.now) (g.X.Asker.known c.loop-raw.asker) (g.V.Reviewer.board c.args.reviewer.now) (g.V.Reviewer.board c.loop-raw.reviewer) (copier_of g.K.Copier.copies g.K.Copier.faults c.args.copier.now) (copier_of g.K.Copier.copies g.K.Copier.faults c.loop-raw.copier)) (sym (ap (λ (b : Beside). b.1) beside)) inv.serving in
    serving_closed (g.D.Site.offers c.args.site.now) (g.X.Asker.known c.args.asker.now) (g.X.Asker.known c.loop-raw.asker) (g.X.Asker.known c.answer.new.asker) (g.V.Reviewer.board c.args.reviewer.now) (g.V.Reviewer.board c.loop-raw.reviewer) (g.V.Reviewer.board c.answer.new.reviewer) (copier_of g.K.Copier.copies g.K.Copier.faults c.args.copier.now) (copier_of g.K.Copier.copies g.K.Copier.faults c.loop-raw.copier) (copier_of g.K.Copier.copies g.K.Copier.faults c.answer.new.copier) (g.L.Source.left c.args.link.now) (g.L.Sink.written c.args.link.now) (stream_of c.loop-raw.reader.held (g.L.Source.left c.loop-raw.link)) (g.L.Sink.written c.next.new.source) (stream_of c.next.new.self.held (g.L.Source.left c.next.new.source)) (g.L.Sink.written c.answer.new.link) c.loop-raw.reader.given c.in-Ok.raw so_far (rw is at (c.next.ensures.request goes)) (c.next.ensures.told goes none) c.answer.result c.if-is_err.ensures.value c.answer.ensures.answered c.if-raw.true

pub returns-then-is_shut-clause-served : goal.returns-then-is_shut-clause-served
returns-then-is_shut-clause-served g c =
    let inv = c.loop-raw.invariant in
    let is = c.in-Ok.ensures in
    let goes = inv.open_still in
    let none : IsNone (stop_of c.next.result) = rw is refl in
    let law = g.met.L.Link.beside_source in
    let beside = sym (law c.next.new.source) ∙ (c.next.ensures.beside ∙ law c.loop-raw.link) in
    let so_far = subst (λ (o : Option (List ℕ)). IsServing (g.D.Site.offers c.args.site.now) (g.L.Source.left c.args.link.now) (g.L.Sink.written c.args.link.now) (stream_of c.loop-raw.reader.held (g.L.Source.left c.loop-raw.link)) o c.loop-raw.reader.given (g.X.Asker.known c.args.asker.now) (g.X.Asker.known c.loop-raw.asker) (g.V.Reviewer.board c.args.reviewer.now) (g.V.Reviewer.board c.loop-raw.reviewer) (copier_of g.K.Copier.copies g.K.Copier.faults c.args.copier.now) (copier_of g.K.Copier.copies g.K.Copier.faults c.loop-raw.copier)) (sym (ap (λ (b : Beside). b.1) beside)) inv.serving in
    serving_shut (g.D.Site.offers c.args.site.now) (g.X.Asker.known c.args.asker.now) (g.X.Asker.known c.loop-raw.asker) (g.X.Asker.known c.answer.new.asker) (g.V.Reviewer.board c.args.reviewer.now) (g.V.Reviewer.board c.loop-raw.reviewer) (g.V.Reviewer.board c.answer.new.reviewer) (copier_of g.K.Copier.copies g.K.Copier.faults c.args.copier.now) (copier_of g.K.Copier.copies g.K.Copier.faults c.loop-raw.copier) (copier_of g.K.Copier.copies g.K.Copier.faults c.answer.new.copier) (g.L.Source.left c.args.link.now) (g.L.Sink.written c.args.link.now) (stream_of c.loop-raw.reader.held (g.L.Source.left c.loop-raw.link)) (g.L.Sink.written c.next.new.source) (stream_of c.next.new.self.held (g.L.Source.left c.next.new.source)) (g.L.Sink.written c.answer.new.link) c.loop-raw.reader.given c.in-Ok.raw so_far (rw is at (c.next.ensures.request goes)) (c.next.ensures.told goes none) c.answer.result c.if-is_err.ensures.value c.answer.ensures.answered c.if-raw.false (c.is_shut.ensures c.if-is_shut.true)

pub loop-raw-preserved : goal.loop-raw-preserved
loop-raw-preserved g c =
    let inv = c.loop-raw.invariant in
    let is = c.in-Ok.ensures in
    let goes = inv.open_still in
    let none : IsNone (stop_of c.next.result) = rw is refl in
    let law = g.met.L.Link.beside_source in
    let beside = sym (law c.next.new.source) ∙ (c.next.ensures.beside ∙ law c.loop-raw.link) in
    let so_far = subst (λ (o : Option (List ℕ)). IsServing (g.D.Site.offers c.args.site.now) (g.L.Source.left c.args.link.now) (g.L.Sink.written c.args.link.now) (stream_of c.loop-raw.reader.held (g.L.Source.left c.loop-raw.link)) o c.loop-raw.reader.given (g.X.Asker.known c.args.asker.now) (g.X.Asker.known c.loop-raw.asker) (g.V.Reviewer.board c.args.reviewer.now) (g.V.Reviewer.board c.loop-raw.reviewer) (copier_of g.K.Copier.copies g.K.Copier.faults c.args.copier.now) (copier_of g.K.Copier.copies g.K.Copier.faults c.loop-raw.copier)) (sym (ap (λ (b : Beside). b.1) beside)) inv.serving in
    let few : c.loop-raw.reader.given + 1 < 2 ^ 48 = few_left c.loop-raw.reader.given c.in-Ok.raw (rw is at (c.next.ensures.last goes)) c.if-raw.false in
    let same : g.L.Sink.faults c.next.new.source ≡ g.L.Sink.faults c.loop-raw.link = ap (λ (b : Beside). b.0) beside in
    record {
      open_still = rw (c.next.ensures.ended goes) none;
      few = omega (arith, few, c.next.ensures.counts goes none);
      since = g.met.X.Asker.goes_on c.args.asker.now c.loop-raw.asker c.answer.new.asker inv.since c.answer.ensures.since;
      since_board = g.met.V.Reviewer.goes_on c.args.reviewer.now c.loop-raw.reviewer c.answer.new.reviewer inv.since_board c.answer.ensures.since_board;
      serving = rw c.answer.ensures.left (serving_more (g.D.Site.offers c.args.site.now) (g.X.Asker.known c.args.asker.now) (g.X.Asker.known c.loop-raw.asker) (g.X.Asker.known c.answer.new.asker) (g.V.Reviewer.board c.args.reviewer.now) (g.V.Reviewer.board c.loop-raw.reviewer) (g.V.Reviewer.board c.answer.new.reviewer) (copier_of g.K.Copier.copies g.K.Copier.faults c.args.copier.now) (copier_of g.K.Copier.copies g.K.Copier.faults c.loop-raw.copier) (copier_of g.K.Copier.copies g.K.Copier.faults c.answer.new.copier) (g.L.Source.left c.args.link.now) (g.L.Sink.written c.args.link.now) (stream_of c.loop-raw.reader.held (g.L.Source.left c.loop-raw.link)) (g.L.Sink.written c.next.new.source) (stream_of c.next.new.self.held (g.L.Source.left c.next.new.source)) (g.L.Sink.written c.answer.new.link) c.loop-raw.reader.given c.in-Ok.raw so_far (rw is at (c.next.ensures.request goes)) (c.next.ensures.told goes none) c.next.new.self.given c.answer.result c.if-is_err.ensures.value (omega (arith, few, c.next.ensures.counts goes none)) c.answer.ensures.answered c.if-raw.false);
      source = omega (arith, inv.source, c.next.ensures.later, c.answer.ensures.faults);
      sink = omega (arith, inv.sink, same, c.answer.ensures.cause.later);
    }

pub returns-in-Err-clause-served : goal.returns-in-Err-clause-served
returns-in-Err-clause-served g c =
    let inv = c.loop-raw.invariant in
    let law = g.met.L.Link.beside_source in
    let beside = sym (law c.next.new.source) ∙ (c.next.ensures.beside ∙ law c.loop-raw.link) in
    let out : g.L.Sink.written c.next.new.source ≡ g.L.Sink.written c.loop-raw.link = ap (λ (b : Beside). b.1) beside in
    serving_refused (g.D.Site.offers c.args.site.now) (g.X.Asker.known c.args.asker.now) (g.X.Asker.known c.loop-raw.asker) (g.V.Reviewer.board c.args.reviewer.now) (g.V.Reviewer.board c.loop-raw.reviewer) (copier_of g.K.Copier.copies g.K.Copier.faults c.args.copier.now) (copier_of g.K.Copier.copies g.K.Copier.faults c.loop-raw.copier) (g.L.Source.left c.args.link.now) (g.L.Sink.written c.args.link.now) (stream_of c.loop-raw.reader.held (g.L.Source.left c.loop-raw.link)) (g.L.Sink.written c.loop-raw.link) (g.L.Sink.written c.refuse.new.link) c.loop-raw.reader.given c.in-Err.why c.refuse.result inv.serving (rw c.in-Err.ensures at (c.next.ensures.stopped inv.open_still)) (rw out at c.refuse.ensures.refused)
