use Rattle.std.proofs.Common.{◌∙◌, ap, rules, take, drop}
use Rattle.cc_base.specs.Outside.{appended}
use Rattle.cc_base.proofs.Told.{appended_further, rest_from}
use Rattle.cc_base.proofs.outside.write_all_of.Goals as goal

pub loop-done-preserved : goal.loop-done-preserved
loop-done-preserved g c =
    let bytes = c.args.bytes.now in
    let told = g.S.Sink.written c.args.sink.now in
    record {
      fits = search rules;
      out = c.in-Ok.ensures.written ∙ ap (λ ys. appended (g.S.Sink.written c.loop-done.sink) (take c.in-Ok.n ys)) (rest_from c.loop-done.done bytes) ∙ ap (λ old. appended old (take c.in-Ok.n (drop c.loop-done.done bytes))) c.loop-done.invariant.out ∙ appended_further told c.loop-done.done c.in-Ok.n bytes;
      kept = search rules;
      beside = search rules;
    }
