use Rattle.std.proofs.Common.{◌∙◌, sym, get_or}
use Rattle.goal_terms.proofs.BoundLemmas.{total-small}
use Rattle.goal_terms.proofs.CaseLemmas.{Limits-case}
use Rattle.goal_terms.proofs.PlaceLemmas.{room_at_id-place}
use Rattle.goal_terms.specs.Rooms.{bound_room}
use Rattle.plan_terms.specs.Cluster.{id_at}
use Rattle.goal_terms.specs.Quantity.{quantity, total}
use Rattle.broker_goals.proofs.excess.room_at_place.Goals as goal

pub returns-then-is_dead : goal.returns-then-is_dead
returns-then-is_dead g c =
    let limits = Limits-case c.args.case.now c.brokers-brokers.ensures.case in
    let bounds = g.B.Band.bounds c.args.band.now c.args.case.now in
    let weights = g.A.Amount.weights c.args.kind.now in
    let all = total weights c.args.case.now.parts c.args.book.now.lists in
    let amount = quantity weights c.args.case.now.parts (id_at c.args.case.now.brokers c.args.place) c.args.book.now.lists in
    let at = room_at_id-place (bound_room bounds all amount) c.args.case.now.brokers c.args.place c.broker_at-broker.result.now limits.ids c.requires.place in
    let lost = sym c.is_dead.ensures ∙ c.if-is_dead.true in
    sym (rw lost at (rw c.broker_at-broker.ensures.is at at))

pub returns : goal.returns
returns g c =
    let limits = Limits-case c.args.case.now c.brokers-brokers.ensures.case in
    let bounds = g.B.Band.bounds c.args.band.now c.args.case.now in
    let weights = g.A.Amount.weights c.args.kind.now in
    let all = total weights c.args.case.now.parts c.args.book.now.lists in
    let amount = quantity weights c.args.case.now.parts (id_at c.args.case.now.brokers c.args.place) c.args.book.now.lists in
    let at = room_at_id-place (bound_room bounds all amount) c.args.case.now.brokers c.args.place c.broker_at-broker.result.now limits.ids c.requires.place in
    let live = sym c.is_dead.ensures ∙ c.if-is_dead.false in
    rw (c.room_with.ensures, c.requires.all, c.amount_at-amount.ensures.value) (sym (rw live at (rw c.broker_at-broker.ensures.is at at)))

pub room_with-requires-clause-all : goal.room_with-requires-clause-all
room_with-requires-clause-all g c =
    let limits = Limits-case c.args.case.now c.brokers-brokers.ensures.case in
    rw c.requires.all (total-small (g.A.Amount.weights c.args.kind.now) c.args.case.now c.args.book.now.lists limits
    (λ k d l. g.met.A.Amount.small_weights c.args.kind.now (get_or c.args.case.now.parts k d) (limits.loads k d l)) c.requires.belongs.lists_belong)
