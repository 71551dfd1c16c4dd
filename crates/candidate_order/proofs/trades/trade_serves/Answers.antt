use Rattle.std.proofs.Common.{sym, refl, get_or}
use Rattle.std.proofs.lemmas.Bool.{false≢true}
use Rattle.plan_terms.proofs.EffectLemmas.{fits-legal, targets_known-legal}
use Rattle.candidate_order.proofs.LookLemmas.{all-stay, stay-all, all-others, all-both}
use Rattle.candidate_order.proofs.trades.trade_serves.Goals as goal

pub returns-then-not-all_stay : goal.returns-then-not-all_stay
returns-then-not-all_stay g c =
    let lists = c.args.book.now.lists in
    let case = c.args.case.now in (
      λ t. absurd (false≢true t),
      λ s. c.if-not-all_stay.ensures.1 (stay-all case.parts lists c.args.action g.G.Goal.weighs (λ x. g.G.Goal.meaning x case) (λ x. g.G.Goal.room_at x case lists)
          c.args.earlier.now c.args.outs.now c.args.backs.now c.args.givers.now c.args.takers.now
          (λ k d l. g.met.G.Goal.rooms_decide (get_or c.args.earlier.now k d) case lists (c.requires.made k d l) c.brokers-brokers.ensures.case c.requires.belongs.lists_belong)
          (fits-legal case lists c.args.action s.legal) c.requires.outs c.requires.backs c.requires.givers c.requires.takers s.accepted),
    )

pub lessens-requires-clause-applies : goal.lessens-requires-clause-applies
lessens-requires-clause-applies g c = fits-legal c.args.case.now c.args.book.now.lists c.args.action (sym c.if-not-legal.ensures)

pub lessens-requires-clause-known : goal.lessens-requires-clause-known
lessens-requires-clause-known g c = targets_known-legal c.args.case.now c.args.book.now.lists c.args.action (sym c.if-not-legal.ensures)

pub others_accept-requires-clause-applies : goal.others_accept-requires-clause-applies
others_accept-requires-clause-applies g c = fits-legal c.args.case.now c.args.book.now.lists c.args.action (sym c.if-not-legal.ensures)

pub others_accept-requires-clause-known : goal.others_accept-requires-clause-known
others_accept-requires-clause-known g c = targets_known-legal c.args.case.now c.args.book.now.lists c.args.action (sym c.if-not-legal.ensures)

pub returns : goal.returns
returns g c =
    let lists = c.args.book.now.lists in
    let case = c.args.case.now in (
      λ t. record {
        legal = sym c.if-not-legal.ensures;
        accepted = all-both lists c.args.action g.G.Goal.weighs (λ x. g.G.Goal.meaning x case) c.args.earlier.now
            (all-stay case.parts lists c.args.action g.G.Goal.weighs (λ x. g.G.Goal.meaning x case) (λ x. g.G.Goal.room_at x case lists)
            c.args.earlier.now c.args.outs.now c.args.backs.now c.args.givers.now c.args.takers.now
            (λ k d l. g.met.G.Goal.rooms_decide (get_or c.args.earlier.now k d) case lists (c.requires.made k d l) c.brokers-brokers.ensures.case c.requires.belongs.lists_belong)
            (fits-legal case lists c.args.action (sym c.if-not-legal.ensures)) c.requires.outs c.requires.backs c.requires.givers c.requires.takers (c.if-not-all_stay.ensures.0 refl))
            (c.others_accept.ensures.0 t);
        lessens = c.if-not-lessens.ensures.0 refl;
      },
      λ s. c.others_accept.ensures.1 (all-others lists c.args.action g.G.Goal.weighs (λ x. g.G.Goal.meaning x case) c.args.earlier.now s.accepted),
    )
