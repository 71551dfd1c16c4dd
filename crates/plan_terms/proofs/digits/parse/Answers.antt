use Rattle.std.proofs.Common.{◌<◌, ◌^◌, arith}
use Rattle.std.proofs.lemmas.Str.Parse.{digits_value_short, parse_gives}
use Rattle.plan_terms.specs.Digits.{number_after}
use Rattle.plan_terms.proofs.DigitLemmas.{own_numerals}
use Rattle.plan_terms.proofs.digits.parse.Goals as goal

pub returns-clause-small : goal.returns-clause-small
returns-clause-small c = digits_value_short own_numerals c.args.text.now c.args.most c.requires.digits c.requires.few

pub returns-clause-value : goal.returns-clause-value
returns-clause-value c =
    let few : number_after 0 c.args.text.now < 10 ^ 19 = digits_value_short own_numerals c.args.text.now 19 c.requires.digits (omega (arith, c.requires.few, c.requires.fits)) in
    let fits : number_after 0 c.args.text.now < 2 ^ 64 = omega arith in
    rw (parse_gives own_numerals 64 c.args.text.now c.parse.result c.parse.ensures.value.0 c.requires.digits c.requires.some fits) at c.ok.ensures.value
