-- Runs that take the first candidate each time, one action or one turn longer.
use Rattle.std.proofs.Common.{◌≡◌, ◌<◌, List, [], ◌∷◌, ◌++◌, length, take, get_or, arith, append_assoc}
use Rattle.std.proofs.lemmas.List.{append-nil}
use Rattle.candidate_order.specs.CandidateList.{FirstStep}
use Rattle.goal_optimizer.specs.Firsts.{FirstSteps, FirstTurns}
use Rattle.plan_terms.specs.Cluster.{Cluster, Lists}
use Rattle.plan_terms.specs.Effect.{after, after_all}
use Rattle.plan_terms.specs.Goal.{Meaning}
use Rattle.plan_terms.specs.Trace.{after_turns}
use Rattle.plan_terms.specs.declared.actions.Action.{Action}

pub firsts-nil : (c : Cluster) (earlier : List Meaning) (goal : Meaning) (lists : Lists) → FirstSteps c earlier goal lists []
unfolding FirstSteps
firsts-nil c earlier goal lists = tt

pub firsts-push : (c : Cluster) (earlier : List Meaning) (goal : Meaning) (lists : Lists) (actions : List Action) (a : Action)
    → FirstSteps c earlier goal lists actions → FirstStep c earlier goal (after_all actions lists) a → FirstSteps c earlier goal lists (actions ++ a ∷ [])
unfolding FirstSteps
firsts-push c earlier goal lists [] a s f = (f, tt)
firsts-push c earlier goal lists (x ∷ xs) a s f = (s.0, firsts-push c earlier goal (after x lists) xs a s.1 f)

pub turns-nil : (c : Cluster) (earlier goals : List Meaning) (lists : Lists) → FirstTurns c earlier goals lists []
unfolding FirstTurns
turns-nil c earlier goals lists = tt

pub turns-push : (c : Cluster) (earlier goals : List Meaning) (lists : Lists) (turns : List (List Action)) (t : List Action) (g : Meaning) → length turns < length goals
    → g ≡ get_or goals (length turns) g → FirstTurns c earlier goals lists turns → FirstSteps c (earlier ++ take (length turns) goals) g (after_turns turns lists) t
    → FirstTurns c earlier goals lists (turns ++ t ∷ [])
unfolding FirstTurns
turns-push c earlier [] lists turns t g l e f s = absurd (omega arith)
turns-push c earlier (h ∷ goals) lists [] t g l e f s = (rw (append-nil earlier, e) at s, tt)
turns-push c earlier (h ∷ goals) lists (u ∷ turns) t g l e f s =
    (f.0, turns-push c (earlier ++ h ∷ []) goals (after_all u lists) turns t g (omega arith) e f.1 (rw (append_assoc earlier (h ∷ []) (take (length turns) goals)) s))
