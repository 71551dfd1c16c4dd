use Rattle.std.proofs.Common.{◌≡◌, ◌<◌, arith, get_or}
use Rattle.std.proofs.lemmas.Bool.{ltb-true}
use Rattle.candidate_order.proofs.RestLemmas.{read}
use Rattle.candidate_order.proofs.rests.Rests.knows_move.Goals as goal

pub returns : goal.returns
returns g c = λ e s.
    let brokers = c.args.self.now.brokers.items in
    let target = c.requires.target in
    let k = c.args.target.now.place in
    let less : c.index.result.now < c.args.since = ltb-true _ _ e in
    let at : c.index.result.now ≡ get_or brokers k 0 = read brokers k c.index.result.now (omega (arith, target.place_within, c.requires.brokers)) c.index.ensures in
    c.requires.rest.none k target.place_within (omega (arith, at, less)) (rw target.place_is at s)
