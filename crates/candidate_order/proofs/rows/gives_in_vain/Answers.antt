use Rattle.std.proofs.Common.{◌≡◌, ℕ, false, map, get_or, sym, refl, ap, ◌∙◌}
use Rattle.std.proofs.lemmas.Bool.{false≢true}
use Rattle.plan_terms.specs.Cluster.{some_broker, ids_of}
use Rattle.plan_terms.specs.States.{is_new}
use Rattle.std.specs.Prelude.{Bool, None}
use Rattle.std.specs.List.{All, filter}
use Rattle.std.proofs.lemmas.List.Elements.{All-map}
use Rattle.plan_terms.proofs.EffectLemmas.{fits-legal}
use Rattle.plan_terms.specs.Trace.{Step}
use Rattle.plan_terms.specs.declared.actions.Action.{Action}
use Rattle.plan_terms.specs.declared.actions.Action.TheVariants.{Move}
use Rattle.plan_terms.specs.declared.cluster.Broker.{Broker}
use Rattle.goal_terms.specs.Pairs.{taker}
use Rattle.candidate_order.specs.Looks.{is_below}
use Rattle.candidate_order.specs.CandidateList.{moves_of_replica}
use Rattle.candidate_order.specs.Scan.{IsRow}
use Rattle.candidate_order.specs.declared.kept.Row.{Row}
use Rattle.candidate_order.proofs.Firsts.{kept-option}
use Rattle.candidate_order.proofs.LookLemmas.{weighed-below}
use Rattle.candidate_order.proofs.RowLemmas.{moves-passed}
use Rattle.candidate_order.proofs.rows.gives_in_vain.Goals as goal

pub returns : goal.returns
returns g c = λ none p.
    let case = c.args.case.now in
    let lists = c.args.book.now.lists in
    let a = c.args.source.now.id in
    let hot = g.G.Goal.heat_at c.args.goal.now case lists in
    let step : Action → Type 0 = Step case (map (λ x. g.G.Goal.meaning x case) c.args.earlier.now) (g.G.Goal.meaning c.args.goal.now case) lists in
    let keep : Action → Bool = λ x. is_below (hot (taker x)) in
    let below = c.as_slice-below.result.now in
    let below_are : map (λ (r : Row). r.id) below ≡ filter (λ b. is_below (hot b)) (ids_of case.brokers) = rw c.as_slice-below.ensures.value c.requires.scan.below_are.brokers_are in
    let rows_are : All (IsRow g.G.Goal.weighs (λ x. g.G.Goal.room_at x case lists) hot c.args.earlier.now case) below = rw c.as_slice-below.ensures.value c.requires.scan.below_are.rows_are in
    let idle : (b : ℕ) → is_below (hot b) ≡ false → step (Move p a b) → ⊥ = λ b e s.
    weighed-below (g.G.Goal.weighs c.args.goal.now) (g.G.Goal.meaning c.args.goal.now case) hot case.parts lists
    (g.met.G.Goal.idle_trades c.args.goal.now case lists c.requires.made_goal c.brokers-brokers.ensures.case c.requires.belongs.lists_belong)
    p a b (fits-legal case lists (Move p a b) s.legal)
    (rw (← c.whole.ensures, ← c.requires.source.heat_is) (sym c.if-not-helps_below_alone.ensures)) e s.lessens in
    kept-option step keep (moves_of_replica case a p) (map (λ (r : Row). Move p a r.id) below)
    (record {
      idle = All-map (λ x. keep x ≡ false → step x → ⊥) (λ (y : Broker). Move p a y.id) case.brokers (λ k y l e s. idle (get_or case.brokers k y).id e s);
    })
    (moves-passed (λ (r : Row). r.id) below (λ b. is_below (hot b)) case a p below_are)
    None
    (All-map (λ x. step x → ⊥) (λ (r : Row). Move p a r.id) below
    (λ k r l s. idle (get_or below k r).id (ap is_below (sym (rows_are k r l).heat_is) ∙ c.none_below-2.ensures none k r l) s))

pub returns-then-gives_to_new : goal.returns-then-gives_to_new
returns-then-gives_to_new g c = λ none p.
    let case = c.args.case.now in
    let lists = c.args.book.now.lists in
    let a = c.args.source.now.id in
    let hot = g.G.Goal.heat_at c.args.goal.now case lists in
    let step : Action → Type 0 = Step case (map (λ x. g.G.Goal.meaning x case) c.args.earlier.now) (g.G.Goal.meaning c.args.goal.now case) lists in
    let added : ℕ → Bool = λ b. some_broker (λ x. is_new x.state) case b in
    let keep : Action → Bool = λ x. added (taker x) in
    let new = c.as_slice-added.result.now in
    let new_are : map (λ (r : Row). r.id) new ≡ filter added (ids_of case.brokers) = rw c.as_slice-added.ensures.value c.requires.scan.added_are.brokers_are in
    let rows_are : All (IsRow g.G.Goal.weighs (λ x. g.G.Goal.room_at x case lists) hot c.args.earlier.now case) new = rw c.as_slice-added.ensures.value c.requires.scan.added_are.rows_are in
    let idle : (b : ℕ) → is_below (hot b) ≡ false → step (Move p a b) → ⊥ = λ b e s.
    weighed-below (g.G.Goal.weighs c.args.goal.now) (g.G.Goal.meaning c.args.goal.now case) hot case.parts lists
    (g.met.G.Goal.idle_trades c.args.goal.now case lists c.requires.made_goal c.brokers-brokers.ensures.case c.requires.belongs.lists_belong)
    p a b (fits-legal case lists (Move p a b) s.legal)
    (rw (← c.whole.ensures, ← c.requires.source.heat_is) (sym c.if-not-helps_below_alone.ensures)) e s.lessens in
    kept-option step keep (moves_of_replica case a p) (map (λ (r : Row). Move p a r.id) new)
    (record {
      idle = All-map (λ x. keep x ≡ false → step x → ⊥) (λ (y : Broker). Move p a y.id) case.brokers
          (λ k y l e s. false≢true (sym e ∙ c.if-gives_to_new.ensures refl lists p (get_or case.brokers k y).id s.legal));
    })
    (moves-passed (λ (r : Row). r.id) new added case a p new_are)
    None
    (All-map (λ x. step x → ⊥) (λ (r : Row). Move p a r.id) new
    (λ k r l s. idle (get_or new k r).id (ap is_below (sym (rows_are k r l).heat_is) ∙ c.none_below.ensures none k r l) s))
