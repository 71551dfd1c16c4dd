-- The turns of a failure can be made on its lists.
use Rattle.std.proofs.Common.{◌≡◌, ℕ, ◌+◌, ◌<◌, List, [], ◌∷◌, ◌++◌, length, get_or, drop, map, ap, sym}
use Rattle.std.specs.Prelude.{IsTrue}
use Rattle.std.proofs.lemmas.List.{drop_more}
use Rattle.plan_terms.specs.Cluster.{Cluster, Lists}
use Rattle.plan_terms.specs.Effect.{after, after_all}
use Rattle.plan_terms.specs.Goal.{Meaning}
use Rattle.plan_terms.specs.Legal.{is_legal}
use Rattle.plan_terms.specs.Trace.{Steps, Turns, after_turns}
use Rattle.plan_terms.specs.declared.actions.Action.{Action}
use Rattle.goal_set.specs.Kept.{FailureView, IsFailure, actions_of}
use Rattle.goal_set.specs.declared.trace.Turned.{Turned}
use Rattle.plan_summary.specs.Legal.{AreLegal, AreLegalTurns}

module _ (c : Cluster) where
  steps-legal : (earlier : List Meaning) (goal : Meaning) (lists : Lists) (as' : List Action) → Steps c earlier goal lists as' → AreLegal c lists as'
  unfolding Steps AreLegal
  steps-legal earlier goal lists [] h = tt
  steps-legal earlier goal lists (a ∷ as') h = (h.0.legal, steps-legal earlier goal (after a lists) as' h.1)

  -- turns of goals, and one more turn
  turns-legal : (earlier goals : List Meaning) (lists : Lists) (ts : List (List Action)) (last : List Action)
      → Turns c earlier goals lists ts → AreLegal c (after_turns ts lists) last → AreLegalTurns c lists (ts ++ last ∷ [])
  unfolding Turns AreLegalTurns
  turns-legal earlier [] lists [] last h l = (l, tt)
  turns-legal earlier [] lists (t ∷ ts) last h l = absurd h
  turns-legal earlier (g ∷ gs) lists [] last h l = absurd h
  turns-legal earlier (g ∷ gs) lists (t ∷ ts) last h l =
      (steps-legal earlier g lists t h.0.steps, turns-legal (earlier ++ g ∷ []) gs (after_all t lists) ts last h.2 l)

pub failure-legal : (f : FailureView) → IsFailure f → AreLegalTurns f.case f.start (actions_of f.trace)
failure-legal f h =
    let e = h.failed in
    rw e.turns_are (turns-legal f.case [] e.met f.start e.done e.last e.before (steps-legal f.case e.met e.broken (after_turns e.done f.start) e.last e.turn.steps))

-- ---- what is left to be made, one step on

module _ (c : Cluster) (lists : Lists) where
  module _ (actions : List Action) (i : ℕ) (d : Action) (l : i < length actions) where
    next : drop i actions ≡ get_or actions i d ∷ drop (i + 1) actions
    next = drop_more actions i d l

    pub legal-here : AreLegal c lists (drop i actions) → IsTrue (is_legal c lists (get_or actions i d))
    unfolding AreLegal
    legal-here h = (rw next at h).0

    pub legal-next : AreLegal c lists (drop i actions) → AreLegal c (after (get_or actions i d) lists) (drop (i + 1) actions)
    unfolding AreLegal
    legal-next h = (rw next at h).1

    pub after-next : after_all (drop (i + 1) actions) (after (get_or actions i d) lists) ≡ after_all (drop i actions) lists
    after-next = sym (ap (λ as'. after_all as' lists) next)

  module _ (turns : List Turned) (i : ℕ) (t : Turned) (l : i < length turns) (at : t ≡ get_or turns i t) where
    abbrev from : ℕ → List (List Action)
    from n = map (λ (u : Turned). u.actions) (drop n turns)

    next_turn : from i ≡ t.actions ∷ from (i + 1)
    next_turn = ap (map (λ (u : Turned). u.actions)) (rw (← at) at (drop_more turns i t l))

    pub turn-legal : AreLegalTurns c lists (from i) → AreLegal c lists t.actions
    unfolding AreLegalTurns
    turn-legal h = (rw next_turn at h).0

    pub turns-next : AreLegalTurns c lists (from i) → AreLegalTurns c (after_all t.actions lists) (from (i + 1))
    unfolding AreLegalTurns
    turns-next h = (rw next_turn at h).1

    pub after_turns-next : after_turns (from (i + 1)) (after_all t.actions lists) ≡ after_turns (from i) lists
    after_turns-next = sym (ap (λ ts. after_turns ts lists) next_turn)
