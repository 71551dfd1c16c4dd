-- One turn more of a plan, and a turn at which it fails.
use Rattle.std.proofs.Common.{◌≡◌, ℕ, ◌+◌, ◌<◌, List, [], ◌∷◌, ◌++◌, length, map, take, drop, get_or, refl, ap, sym, ◌∙◌, arith}
use Rattle.std.specs.Prelude.{IsTrue}
use Rattle.std.proofs.lemmas.List.{take_more, map-append, take-append-drop, drop_more, length-map, length-take}
use Rattle.plan_terms.specs.Cluster.{Cluster, Lists}
use Rattle.plan_terms.specs.Effect.{after_all}
use Rattle.plan_terms.specs.Goal.{Meaning, measure}
use Rattle.plan_terms.specs.Trace.{Turn, Turns, after_turns, Failed}
use Rattle.plan_terms.proofs.Runs.{Turns-push}
use Rattle.plan_terms.specs.declared.actions.Action.{Action}

module _ {X : Type 0} (m : X → Meaning) (xs : List X) (i : ℕ) (d x : X) (l : i < length xs) (at : x ≡ get_or xs i d) where
  goals_more : map m (take (i + 1) xs) ≡ map m (take i xs) ++ m x ∷ []
  goals_more = rw (take_more xs i d l, ← at) (map-append m (take i xs) (x ∷ []))

  goals_split : map m xs ≡ map m (take i xs) ++ m x ∷ map m (drop (i + 1) xs)
  goals_split =
      let whole : map m (take i xs ++ drop i xs) ≡ map m xs = ap (map m) (take-append-drop i xs) in
      let parts : map m (take i xs ++ drop i xs) ≡ map m (take i xs) ++ map m (drop i xs) = map-append m (take i xs) (drop i xs) in
      let rest : drop i xs ≡ x ∷ drop (i + 1) xs = rw (← at) at (drop_more xs i d l) in
      sym whole ∙ parts ∙ ap (λ ys. map m (take i xs) ++ map m ys) rest

  module _ (c : Cluster) (start : Lists) (turns : List (List Action)) (turn : List Action)
      (before : Turns c [] (map m (take i xs)) start turns) (here : Turn c (map m (take i xs)) (m x) (after_turns turns start) turn) where
    pub planned_more : (IsTrue (m x).hard → measure (m x) (after_all turn (after_turns turns start)) ≡ 0) → Turns c [] (map m (take (i + 1) xs)) start (turns ++ turn ∷ [])
    planned_more met = rw goals_more (Turns-push c [] (map m (take i xs)) (m x) turns turn start before here met)

    pub failed_here : (left : ℕ) → IsTrue (m x).hard → left ≡ measure (m x) (after_all turn (after_turns turns start)) → 0 < left → Failed c (map m xs) start (turns ++ turn ∷ []) i left
    failed_here left hard is above = record {
      met = map m (take i xs);
      broken = m x;
      untried = map m (drop (i + 1) xs);
      done = turns;
      last = turn;
      place_is = rw (length-map (take i xs) m, length-take i xs) (omega arith);
      goals_are = goals_split;
      turns_are = refl;
      before = before;
      turn = here;
      hard = hard;
      left_is = is;
      above = above;
    }
