use Rattle.std.proofs.Common.{List, ℕ, subst}
use Rattle.std.specs.Prelude.{IfErr, IfOk, IfSome, Option}
use Rattle.rest_stream.specs.Heads.{IsFramed}
use Rattle.rest_stream.specs.Stream.{StopsBy}
use Rattle.rest_stream.proofs.Held.{framed_stream, if_ok, on_ok}
use Rattle.rest_stream.proofs.Windows.{always_stopped}
use Rattle.rest_stream.proofs.request.framed_head.Goals as goal

pub returns-clause-why : goal.returns-clause-why
returns-clause-why g c =
    subst (λ (o : Option (List ℕ)). IfErr c.framed_by_spans.result (λ e. IfSome o (λ s. StopsBy s e))) c.in_ok-spans.ensures.stream
    (always_stopped c.find_head.new.inbox.held.items _ (g.S.Source.left c.find_head.new.source) c.framed_by_spans.result c.deref.ensures.value c.framed_by_spans.ensures.why)

pub returns-clause-stream : goal.returns-clause-stream
returns-clause-stream g c = on_ok c.framed_by_spans.result c.in_ok-spans.ensures.stream

pub returns-clause-held : goal.returns-clause-held
returns-clause-held g c = rw c.deref.ensures.value at c.framed_by_spans.ensures.framed

pub returns-clause-framed : goal.returns-clause-framed
returns-clause-framed g c =
    let held = rw c.deref.ensures.value at c.framed_by_spans.ensures.framed in
    subst (λ (o : Option (List ℕ)). IfOk c.framed_by_spans.result (λ f. IfSome o (λ s. IsFramed s f))) c.in_ok-spans.ensures.stream
    (if_ok c.framed_by_spans.result (framed_stream c.find_head.new.inbox.held.items (g.S.Source.left c.find_head.new.source)) held)
