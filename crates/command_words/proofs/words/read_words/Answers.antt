use Rattle.std.proofs.Common.{◌∙◌, ap, sym, map, string_bytes, option_map}
use Rattle.command_words.proofs.Meanings.{meaning_taken, meaning_refused}
use Rattle.command_words.specs.Meaning.{told}
use Rattle.command_words.proofs.words.read_words.Goals as goal

pub returns-in_default-clause-usage : goal.returns-in_default-clause-usage
returns-in_default-clause-usage c =
    let words = map string_bytes c.args.words.now in
    λ _. meaning_refused _ words c.in-Err-try_get_matches_from.error c.in-Ok.ensures c.in-Err-try_get_matches_from.ensures.kinds
    (λ oom. c.in_default.not-OutOfMemory (c.kind.ensures ∙ oom))

pub returns-in-Ok-Some-clause-ok : goal.returns-in-Ok-Some-clause-ok
returns-in-Ok-Some-clause-ok c =
    let words = map string_bytes c.args.words.now in
    meaning_taken _ words c.in-Ok-try_get_matches_from.matches c.in-Ok.ensures c.in-Ok-try_get_matches_from.ensures.kinds c.in-Ok-try_get_matches_from.ensures.matches
    ∙ sym c.in-Ok-Some.ensures ∙ ap (option_map told) c.in-Ok-Some.field-0-is

pub returns-in-Ok-None-clause-usage : goal.returns-in-Ok-None-clause-usage
returns-in-Ok-None-clause-usage c =
    let words = map string_bytes c.args.words.now in
    λ _. meaning_taken _ words c.in-Ok-try_get_matches_from.matches c.in-Ok.ensures c.in-Ok-try_get_matches_from.ensures.kinds c.in-Ok-try_get_matches_from.ensures.matches
    ∙ sym c.in-Ok-None.ensures ∙ ap (option_map told) c.in-Ok-None.field-0-is
