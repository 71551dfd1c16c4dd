-- What `parse` reads of digits.
use Rattle.std.proofs.Common.{◌≡◌, true, rules}
use Rattle.std.specs.List.{list_all}
use Rattle.std.proofs.lemmas.Str.Parse.{IsNumeralModel, numerals_by_fold}
use Rattle.plan_terms.specs.Digits.{is_digit, number_after}

pub own_numerals : IsNumeralModel (λ ds. list_all is_digit ds ≡ true) (number_after 0)
own_numerals = numerals_by_fold _ (search rules) number_after (search rules)
