use Rattle.std.proofs.Common.{get_or, refl}
use Rattle.goal_terms.proofs.CaseLemmas.{Limits-case}
use Rattle.goal_terms.proofs.SideLemmas.{trade-covered}
use Rattle.broker_goals.proofs.sides.sides_of.Goals as goal

pub side_of-giver-requires-clause-had : goal.side_of-giver-requires-clause-had
side_of-giver-requires-clause-had g c =
    let limits = Limits-case c.args.case.now c.brokers-brokers.ensures.case in
    (trade-covered (g.A.Amount.weights c.args.kind.now) c.args.case.now c.args.book.now.lists c.args.action c.trade_of-trade.result _ _ limits
    (λ k d l. g.met.A.Amount.small_weights c.args.kind.now (get_or c.args.case.now.parts k d) (limits.loads k d l)) c.requires.belongs.lists_belong c.requires.applies c.trade_of-trade.ensures refl refl).giver

pub side_of-giver-requires-clause-small : goal.side_of-giver-requires-clause-small
side_of-giver-requires-clause-small g c =
    let limits = Limits-case c.args.case.now c.brokers-brokers.ensures.case in
    (trade-covered (g.A.Amount.weights c.args.kind.now) c.args.case.now c.args.book.now.lists c.args.action c.trade_of-trade.result _ _ limits
    (λ k d l. g.met.A.Amount.small_weights c.args.kind.now (get_or c.args.case.now.parts k d) (limits.loads k d l)) c.requires.belongs.lists_belong c.requires.applies c.trade_of-trade.ensures refl refl).giver_small

pub side_of-taker-requires-clause-had : goal.side_of-taker-requires-clause-had
side_of-taker-requires-clause-had g c =
    let limits = Limits-case c.args.case.now c.brokers-brokers.ensures.case in
    (trade-covered (g.A.Amount.weights c.args.kind.now) c.args.case.now c.args.book.now.lists c.args.action c.trade_of-trade.result _ _ limits
    (λ k d l. g.met.A.Amount.small_weights c.args.kind.now (get_or c.args.case.now.parts k d) (limits.loads k d l)) c.requires.belongs.lists_belong c.requires.applies c.trade_of-trade.ensures refl refl).taker

pub side_of-taker-requires-clause-small : goal.side_of-taker-requires-clause-small
side_of-taker-requires-clause-small g c =
    let limits = Limits-case c.args.case.now c.brokers-brokers.ensures.case in
    (trade-covered (g.A.Amount.weights c.args.kind.now) c.args.case.now c.args.book.now.lists c.args.action c.trade_of-trade.result _ _ limits
    (λ k d l. g.met.A.Amount.small_weights c.args.kind.now (get_or c.args.case.now.parts k d) (limits.loads k d l)) c.requires.belongs.lists_belong c.requires.applies c.trade_of-trade.ensures refl refl).taker_small
