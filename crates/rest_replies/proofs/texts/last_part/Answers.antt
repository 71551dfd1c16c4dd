use Rattle.std.proofs.Common.{◌≡◌, ℕ, ◌+◌, ◌-◌, ◌≤◌, ◌==◌, Bool, not, List, length, drop, ap, ◌∙◌, arith, rules}
use Rattle.std.proofs.lemmas.List.{take_rest}
use Rattle.std.proofs.lemmas.List.Sums.{suffix_len_is}
use Rattle.std.specs.List.{after_last, suffix_len}
use Rattle.plan_terms.specs.Bytes.{slash}
use Rattle.rest_replies.proofs.texts.last_part.Goals as goal

abbrev is_other : ℕ → Bool
is_other b = not (b == slash)

-- where the bytes from a place on are all that pass at the end, they stand behind the last `/`
behind : (xs : List ℕ) (n : ℕ) → n ≤ length xs → suffix_len is_other xs ≡ length xs - n → drop n xs ≡ after_last (λ b. b == slash) xs
behind xs n le e = ap (λ k. drop k xs) (omega (arith, e))

pub returns-in-Some : goal.returns-in-Some
returns-in-Some c =
    let path = c.args.path.now in
    let n = c.in-Some.at + 1 in
    let le : n ≤ length path = search rules in
    take_rest path n ∙ behind path n le (suffix_len_is is_other path n 0 le (search rules) (search rules))

pub returns-in-None : goal.returns-in-None
returns-in-None c =
    let path = c.args.path.now in
    behind path 0 (omega arith) (suffix_len_is is_other path 0 0 (omega arith) (search rules) (search rules))
