use Rattle.std.proofs.Common.{◌≡◌, arith, get_or, map}
use Rattle.plan_terms.specs.Trace.{Step}
use Rattle.candidate_order.specs.declared.kinds.Kind.TheVariants.{Moves}
use Rattle.candidate_order.proofs.RestLemmas.{moves-rest, no-moves, read}
use Rattle.candidate_order.proofs.rests.Rests.moves_since.Goals as goal

pub index-since-requires : goal.index-since-requires
index-since-requires g c = omega (arith, c.requires.source.place_within, c.requires.rests.row_each Moves)

pub returns-then-index-since : goal.returns-then-index-since
returns-then-index-since g c = no-moves _ _ _ _

pub returns : goal.returns
returns g c =
    let case = c.args.case.now in
    let lists = c.args.book.now.lists in
    let r = c.args.self.now in
    let rests = c.requires.rests in
    let source = c.requires.source in
    let k = c.args.source.now.place in
    let since : c.index-since.result.now ≡ get_or r.moves.items k 0 = read r.moves.items k c.index-since.result.now (omega (arith, source.place_within, rests.row_each Moves)) c.index-since.ensures in
    let from : c.index.result.now ≡ get_or r.brokers.items k 0 = read r.brokers.items k c.index.result.now (omega (arith, source.place_within, rests.broker_each)) c.index.ensures in
    rw since (moves-rest case (Step case (map (λ x. g.G.Goal.meaning x case) c.args.earlier.now) (g.G.Goal.meaning c.args.goal.now case) lists) lists r rests k c.args.source.now.id source.place_within source.place_is (omega (arith, since, from, c.if-index-since.false)))
