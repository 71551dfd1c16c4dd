use Rattle.std.proofs.Common.{◌≡◌, ℕ, false, map, get_or, sym, refl, ◌∙◌}
use Rattle.std.proofs.lemmas.Bool.{false≢true}
use Rattle.plan_terms.specs.Cluster.{some_broker, ids_of}
use Rattle.plan_terms.specs.States.{is_new}
use Rattle.std.specs.Prelude.{Bool}
use Rattle.std.specs.List.{filter}
use Rattle.std.proofs.lemmas.List.Elements.{All-map}
use Rattle.plan_terms.proofs.EffectLemmas.{fits-legal}
use Rattle.plan_terms.specs.Trace.{Step}
use Rattle.plan_terms.specs.declared.actions.Action.{Action}
use Rattle.plan_terms.specs.declared.actions.Action.TheVariants.{Move}
use Rattle.plan_terms.specs.declared.cluster.Broker.{Broker}
use Rattle.goal_terms.specs.Pairs.{taker}
use Rattle.candidate_order.specs.Looks.{is_below}
use Rattle.candidate_order.specs.CandidateList.{moves_of_replica}
use Rattle.candidate_order.specs.declared.kept.Row.{Row}
use Rattle.candidate_order.proofs.Firsts.{kept-option}
use Rattle.candidate_order.proofs.LookLemmas.{below-alone}
use Rattle.candidate_order.proofs.RowLemmas.{moves-rows, moves-passed}
use Rattle.candidate_order.proofs.rows.first_anywhere.Goals as goal

pub returns-then-not-helps_below_alone : goal.returns-then-not-helps_below_alone
returns-then-not-helps_below_alone g c =
    let rows_are : map (λ (r : Row). r.id) c.as_slice-rows.result.now ≡ ids_of c.args.case.now.brokers = rw c.as_slice-rows.ensures.value c.requires.scan.brokers_are in
    rw (moves-rows (λ (r : Row). r.id) c.as_slice-rows.result.now c.args.case.now c.args.source.now.id c.args.part rows_are) c.first_to-then-not-helps_below_alone.ensures

pub returns : goal.returns
returns g c =
    let case = c.args.case.now in
    let lists = c.args.book.now.lists in
    let p = c.args.part in
    let a = c.args.source.now.id in
    let hot = g.G.Goal.heat_at c.args.goal.now case lists in
    let keep : Action → Bool = λ x. is_below (hot (taker x)) in
    let below = c.as_slice-below.result.now in
    let below_are : map (λ (r : Row). r.id) below ≡ filter (λ b. is_below (hot b)) (ids_of case.brokers) = rw c.as_slice-below.ensures.value c.requires.scan.below_are.brokers_are in
    kept-option (Step case (map (λ x. g.G.Goal.meaning x case) c.args.earlier.now) (g.G.Goal.meaning c.args.goal.now case) lists) keep
    (moves_of_replica case a p) (map (λ (r : Row). Move p a r.id) below)
    (record {
      idle = All-map (λ x. keep x ≡ false → Step case (map (λ x. g.G.Goal.meaning x case) c.args.earlier.now) (g.G.Goal.meaning c.args.goal.now case) lists x → ⊥) (λ (y : Broker). Move p a y.id) case.brokers
          (λ k y l e s. below-alone (g.G.Goal.weighs c.args.goal.now) (g.G.Goal.meaning c.args.goal.now case) hot case.parts lists
          (g.met.G.Goal.idle_trades c.args.goal.now case lists c.requires.made_goal c.brokers-brokers.ensures.case c.requires.belongs.lists_belong)
          p a (get_or case.brokers k y).id (fits-legal case lists (Move p a (get_or case.brokers k y).id) s.legal)
          (rw (← c.requires.own, ← c.requires.source.heat_is) (sym c.if-not-helps_below_alone.ensures)) e s.lessens);
    })
    (moves-passed (λ (r : Row). r.id) below (λ b. is_below (hot b)) case a p below_are)
    c.first_to-2.result c.first_to-2.ensures

pub returns-then-gives_to_new : goal.returns-then-gives_to_new
returns-then-gives_to_new g c =
    let case = c.args.case.now in
    let lists = c.args.book.now.lists in
    let p = c.args.part in
    let a = c.args.source.now.id in
    let added : ℕ → Bool = λ b. some_broker (λ x. is_new x.state) case b in
    let keep : Action → Bool = λ x. added (taker x) in
    let new = c.as_slice-added.result.now in
    let new_are : map (λ (r : Row). r.id) new ≡ filter added (ids_of case.brokers) = rw c.as_slice-added.ensures.value c.requires.scan.added_are.brokers_are in
    kept-option (Step case (map (λ x. g.G.Goal.meaning x case) c.args.earlier.now) (g.G.Goal.meaning c.args.goal.now case) lists) keep
    (moves_of_replica case a p) (map (λ (r : Row). Move p a r.id) new)
    (record {
      idle = All-map (λ x. keep x ≡ false → Step case (map (λ x. g.G.Goal.meaning x case) c.args.earlier.now) (g.G.Goal.meaning c.args.goal.now case) lists x → ⊥) (λ (y : Broker). Move p a y.id) case.brokers
          (λ k y l e s. false≢true (sym e ∙ c.if-gives_to_new.ensures refl lists p (get_or case.brokers k y).id s.legal));
    })
    (moves-passed (λ (r : Row). r.id) new added case a p new_are)
    c.first_to.result c.first_to.ensures
