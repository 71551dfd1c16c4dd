use Rattle.std.proofs.Common.{arith}
use Rattle.std.proofs.lemmas.Str.Pattern.{split_parts}
use Rattle.plan_terms.proofs.CommaLemmas.{cut_pieces}
use Rattle.plan_terms.proofs.commas.cut.Goals as goal

pub returns-clause-pieces : goal.returns-clause-pieces
returns-clause-pieces c = cut_pieces c.args.text.now c.split_once.result (split_parts 44 c.args.text.now c.split_once.result c.split_once.ensures.cases (omega arith))
