use Rattle.std.proofs.Common.{◌≡◌, ◌∙◌, ℕ, ◌+◌, List, None, Some, cond, is_some, bytes_eq, string_bytes, hash_map_len, sym, ap, subst}
use Rattle.std.specs.Map.{update}
use Rattle.std.proofs.lemmas.Map.Text.{hash_map_updates_text}
use Rattle.core_cases.specs.Index.{IsIndex, number_in}
use Rattle.core_cases.proofs.Indexed.{number-more}
use Rattle.core_cases.proofs.index.number_topic.Goals as goal

pub returns-in_ok-insert-in-None-clause-kept : goal.returns-in_ok-insert-in-None-clause-kept
returns-in_ok-insert-in-None-clause-kept c = λ parts places h.
    let m = c.args.numbers.now in
    let n = c.insert.new.self in
    let topic = c.args.topic.now in
    let key = string_bytes c.in_ok-from_str-in-None.field-0 in
    let named : key ≡ topic = c.in_ok-from_str-in-None.ensures.ok in
    let none : number_in m topic ≡ None = sym c.in-None.ensures.value in
    let long : hash_map_len n ≡ hash_map_len m + 1 =
    c.in_ok-insert-in-None.ensures.len ∙ ap (λ o. hash_map_len m + cond (is_some o) 0 1) (c.in_ok-insert-in-None.ensures.old ∙ ap (number_in m) named ∙ none) in
    let is : (text : List ℕ) → number_in n text ≡ update bytes_eq (number_in m) topic (Some (hash_map_len m)) text =
    λ text. hash_map_updates_text key m n (Some c.len-number.result) c.in_ok-insert-in-None.ensures.updates text
    ∙ ap (λ name. update bytes_eq (number_in m) name (Some c.len-number.result) text) named
    ∙ ap (λ k. update bytes_eq (number_in m) topic (Some k) text) c.len-number.ensures.len in
    let P : ℕ → Type 0 = λ k. IsIndex parts (number_in n) places k in
    subst P (sym long) (number-more parts places (hash_map_len m) topic (number_in m) (number_in n) none is h)
