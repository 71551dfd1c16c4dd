-- Laws of the definitions, which hold for every cluster, goals and lists.
use Rattle.std.specs.Prelude.{◌≡◌, ◌<◌, ◌≤◌, ◌==◌, ◌&&◌, ℕ, Bool, false, IsTrue, List}
use Rattle.std.specs.List.{All, count_by}
use Rattle.plan_terms.specs.Faults.{IsCase}
use Rattle.plan_terms.specs.declared.actions.Action.TheVariants.{Move, Lead, Swap}
use Rattle.plan_terms.specs.Belongs.{Belongs}
use Rattle.plan_terms.specs.Cluster.{Cluster, Lists}
use Rattle.plan_terms.specs.Effect.{after, after_all}
use Rattle.plan_terms.specs.Goal.{Meaning, Lessens}
use Rattle.plan_terms.specs.Legal.{is_legal, all_actions}
use Rattle.plan_terms.specs.Trace.{AllAccept, NoneLeft, Turn}
use Rattle.plan_terms.specs.declared.actions.Action.{Action}

-- where none is left, no legal action at all helps: the list of actions misses none
abbrev pub NoLegalActionHelps : Type 0
NoLegalActionHelps = (c : Cluster) (earlier : List Meaning) (goal : Meaning) (lists : Lists) → Belongs c lists → NoneLeft c earlier goal lists
    → (a : Action) → IsTrue (is_legal c lists a) → AllAccept earlier lists a → Lessens goal lists a → ⊥

-- no unit of an earlier goal is worse after a turn than before it
abbrev pub TurnKeepsEarlier : Type 0
TurnKeepsEarlier = (c : Cluster) (earlier : List Meaning) (goal : Meaning) (lists : Lists) (actions : List Action) → Turn c earlier goal lists actions
    → All (λ g. (u : ℕ) → u < g.units → g.excess (after_all actions lists) u ≤ g.excess lists u) earlier

-- a legal action leaves lists that belong to the cluster
abbrev pub LegalKeepsLists : Type 0
LegalKeepsLists = (c : Cluster) (lists : Lists) (a : Action) → Belongs c lists → IsTrue (is_legal c lists a) → Belongs c (after a lists)

-- the same kind of action on the same partitions and brokers
abbrev pub same_action : Action → Action → Bool
same_action (Move p a b) (Move q x y) = (p == q) && (a == x) && (b == y)
same_action (Lead p b) (Lead q y) = (p == q) && (b == y)
same_action (Swap p a r b) (Swap q x s y) = (p == q) && (a == x) && (r == s) && (b == y)
same_action _ _ = false

-- the list of actions has each legal one once
abbrev pub EachActionOnce : Type 0
EachActionOnce = (c : Cluster) (lists : Lists) → IsCase c → Belongs c lists
    → (a : Action) → IsTrue (is_legal c lists a) → count_by (same_action a) (all_actions c lists) ≡ 1
