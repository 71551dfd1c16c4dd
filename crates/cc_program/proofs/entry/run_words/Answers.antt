use Rattle.std.proofs.Common.{rules, ◌∙◌, refl, sym}
use Rattle.cc_program.proofs.entry.run_words.Goals as goal

pub returns-else-wants_live : goal.returns-else-wants_live
returns-else-wants_live g c =
    let ended = c.run_quiet-status.ensures.ended in
    let words = sym c.deref-in-Ok.ensures.value in
    rw c.lent.ensures (ended.0, c.exit_code.ensures ∙ ended.1, ended.4, rw c.in-Ok.is tt, rw c.in-Ok.is ((λ live. absurd cc), (λ quiet. record { kept = refl; runs = rw words ended.2; logs = rw words ended.3 })))

pub returns-in-Err : goal.returns-in-Err
returns-in-Err g c =
    let way = c.end_without_words.result in
    rw c.lent-in-Err.ensures (way, c.exit_code-code.ensures ∙ c.conclude.ensures.status, c.conclude.ensures.told, rw c.in-Err.is (search rules, refl, refl), rw c.in-Err.is tt)
