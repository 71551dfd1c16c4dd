use Rattle.std.proofs.Common.{◌≡◌, ◌++◌, map}
use Rattle.form_urlencoded.specs.Parse.{raw_pairs_left}
use Rattle.rest_parse.specs.Query.{Pair, pairs_of, text_of}
use Rattle.rest_parse.proofs.query.read_pairs.Given as goal

abbrev pub invariant-loop-raw_name : goal.invariant-loop-raw_name
invariant-loop-raw_name l = l.pairs.items ++ map (λ (p : Pair). (text_of p.0, text_of p.1)) (raw_pairs_left l.raw_name-iterator) ≡ pairs_of l.query
