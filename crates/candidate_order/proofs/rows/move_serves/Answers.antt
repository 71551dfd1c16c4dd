use Rattle.std.proofs.Common.{◌∙◌, sym, refl, get_or}
use Rattle.std.proofs.lemmas.Bool.{false≢true}
use Rattle.plan_terms.proofs.EffectLemmas.{fits-legal, targets_known-legal}
use Rattle.plan_terms.specs.declared.actions.Action.TheVariants.{Move}
use Rattle.candidate_order.proofs.LookLemmas.{all-pass, pass-all, all-weighed, all-others, all-both, idle-move}
use Rattle.candidate_order.proofs.rows.move_serves.Goals as goal

pub returns-then-not-may_help : goal.returns-then-not-may_help
returns-then-not-may_help g c =
    let lists = c.args.book.now.lists in
    let case = c.args.case.now in
    let to = c.args.target.now.id in (
      λ t. absurd (false≢true t),
      λ s. absurd (idle-move (g.G.Goal.weighs c.args.goal.now) (g.G.Goal.meaning c.args.goal.now case) (g.G.Goal.heat_at c.args.goal.now case lists) case.parts lists
          (g.met.G.Goal.cold_pairs c.args.goal.now case lists c.requires.made_goal c.brokers-brokers.ensures.case c.requires.belongs.lists_belong)
          (g.met.G.Goal.idle_trades c.args.goal.now case lists c.requires.made_goal c.brokers-brokers.ensures.case c.requires.belongs.lists_belong)
          c.args.part c.args.source.now.id to (fits-legal case lists (Move c.args.part c.args.source.now.id to) s.legal)
          (rw (← c.requires.own, ← c.requires.source.heat_is, ← c.requires.target.heat_is) (sym c.if-not-may_help.ensures)) s.lessens),
    )

pub returns-then-not-all_pass : goal.returns-then-not-all_pass
returns-then-not-all_pass g c =
    let lists = c.args.book.now.lists in
    let case = c.args.case.now in
    let to = c.args.target.now.id in (
      λ t. absurd (false≢true t),
      λ s.
          let fit = fits-legal case lists (Move c.args.part c.args.source.now.id to) s.legal in
          c.if-not-all_pass.ensures.1 (pass-all case.parts lists g.G.Goal.weighs (λ x. g.G.Goal.meaning x case) (λ x. g.G.Goal.room_at x case lists) c.args.part c.args.source.now.id to
          c.args.earlier.now c.args.weights.now c.as_slice-givers.result.now c.as_slice-takers.result.now
          (λ k d l. g.met.G.Goal.rooms_decide (get_or c.args.earlier.now k d) case lists (c.requires.made k d l) c.brokers-brokers.ensures.case c.requires.belongs.lists_belong)
          fit c.requires.weights (c.as_slice-givers.ensures.value ∙ c.requires.source.rooms_are) (c.as_slice-takers.ensures.value ∙ c.requires.target.rooms_are)
          (all-weighed case.parts lists g.G.Goal.weighs (λ x. g.G.Goal.meaning x case) (λ x. g.G.Goal.room_at x case lists) c.args.part c.args.source.now.id to c.args.earlier.now fit s.accepted)),
    )

pub lessens-requires-clause-applies : goal.lessens-requires-clause-applies
lessens-requires-clause-applies g c = fits-legal c.args.case.now c.args.book.now.lists (Move c.args.part c.args.source.now.id c.args.target.now.id) (sym c.if-not-legal.ensures)

pub lessens-requires-clause-known : goal.lessens-requires-clause-known
lessens-requires-clause-known g c = targets_known-legal c.args.case.now c.args.book.now.lists (Move c.args.part c.args.source.now.id c.args.target.now.id) (sym c.if-not-legal.ensures)

pub others_accept-requires-clause-applies : goal.others_accept-requires-clause-applies
others_accept-requires-clause-applies g c = fits-legal c.args.case.now c.args.book.now.lists (Move c.args.part c.args.source.now.id c.args.target.now.id) (sym c.if-not-legal.ensures)

pub others_accept-requires-clause-known : goal.others_accept-requires-clause-known
others_accept-requires-clause-known g c = targets_known-legal c.args.case.now c.args.book.now.lists (Move c.args.part c.args.source.now.id c.args.target.now.id) (sym c.if-not-legal.ensures)

pub returns : goal.returns
returns g c =
    let lists = c.args.book.now.lists in
    let case = c.args.case.now in
    let to = c.args.target.now.id in
    let fit = fits-legal case lists (Move c.args.part c.args.source.now.id to) (sym c.if-not-legal.ensures) in (
      λ t. record {
        legal = sym c.if-not-legal.ensures;
        accepted = all-both lists (Move c.args.part c.args.source.now.id to) g.G.Goal.weighs (λ x. g.G.Goal.meaning x case) c.args.earlier.now
            (all-pass case.parts lists g.G.Goal.weighs (λ x. g.G.Goal.meaning x case) (λ x. g.G.Goal.room_at x case lists) c.args.part c.args.source.now.id to
            c.args.earlier.now c.args.weights.now c.as_slice-givers.result.now c.as_slice-takers.result.now
            (λ k d l. g.met.G.Goal.rooms_decide (get_or c.args.earlier.now k d) case lists (c.requires.made k d l) c.brokers-brokers.ensures.case c.requires.belongs.lists_belong)
            fit c.requires.weights (c.as_slice-givers.ensures.value ∙ c.requires.source.rooms_are) (c.as_slice-takers.ensures.value ∙ c.requires.target.rooms_are) (c.if-not-all_pass.ensures.0 refl))
            (c.others_accept.ensures.0 t);
        lessens = c.if-not-lessens.ensures.0 refl;
      },
      λ s. c.others_accept.ensures.1 (all-others lists (Move c.args.part c.args.source.now.id to) g.G.Goal.weighs (λ x. g.G.Goal.meaning x case) c.args.earlier.now s.accepted),
    )
