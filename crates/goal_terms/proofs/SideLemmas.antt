-- The amounts of the two brokers of an action, before and after it.
use Rattle.std.specs.Prelude.{IsTrue, map}
use Rattle.std.proofs.Common.{◌≡◌, ℕ, ◌+◌, ◌-◌, ◌^◌, ◌<◌, ◌≤◌, length, get_or, ap, sym, ◌∙◌, arith}
use Rattle.std.proofs.lemmas.List.{get_or-map, length-map}
use Rattle.std.specs.List.{All}
use Rattle.plan_terms.specs.Cluster.{Cluster, Lists}
use Rattle.plan_terms.specs.Effect.{after}
use Rattle.plan_terms.specs.Fits.{fits}
use Rattle.plan_terms.specs.Belongs.{Belongs}
use Rattle.plan_terms.specs.declared.actions.Action.{Action}
use Rattle.goal_terms.specs.Limits.{Limits, SmallWeights}
use Rattle.goal_terms.specs.Quantity.{Weights, quantity, trade}
use Rattle.goal_terms.specs.declared.trade.Trade.{Trade}
use Rattle.goal_terms.proofs.TradeLemmas.{trades, lengths-after}
use Rattle.goal_terms.proofs.BoundLemmas.{quantity-short, lists-short}

-- lists as long as short ones are short
short-lengths : (lists lists' : Lists) → map length lists' ≡ map length lists → All (λ list. length list ≤ 8) lists → All (λ list. length list ≤ 8) lists'
short-lengths lists lists' e h = λ k d l.
    let m : k < length lists = omega (arith, l, length-map lists (length {A = ℕ}), length-map lists' (length {A = ℕ}), ap (length {A = ℕ}) e) in
    let same : length (get_or lists' k d) ≡ length (get_or lists k d) = sym (get_or-map length lists' k d 0 l) ∙ ap (λ ns. get_or ns k 0) e ∙ get_or-map length lists k d 0 m in
    omega (arith, same, h k d m)

-- an action that fits leaves short lists
pub short-after : (c : Cluster) (lists : Lists) (a : Action) → Belongs c lists → IsTrue (fits lists a) → All (λ list. length list ≤ 8) (after a lists)
short-after c lists a h fit = short-lengths lists (after a lists) (lengths-after a lists fit) (lists-short c lists h)

-- each of the two has what it gives, and what they have afterwards is small
pub record IsCovered (t : Trade) (gives takes : ℕ) : Type 0 where
  pub giver : t.out ≤ gives + t.back
  pub taker : t.back ≤ takes + t.out
  pub giver_small : gives + t.back - t.out < 2 ^ 49
  pub taker_small : takes + t.out - t.back < 2 ^ 49

-- the two brokers of an action have what they give
pub trade-covered : (w : Weights) (c : Cluster) (lists : Lists) (a : Action) (t : Trade) (gives takes : ℕ)
    → Limits c → All (SmallWeights w) c.parts → Belongs c lists → IsTrue (fits lists a) → t ≡ trade w c.parts lists a
    → gives ≡ quantity w c.parts t.from lists → takes ≡ quantity w c.parts t.to lists → IsCovered t gives takes
trade-covered w c lists a t gives takes limits small belongs fit e i j =
    let law = rw (← e) at (trades w c.parts lists belongs.one_each a fit) in
    let later = short-after c lists a belongs fit in
    let giver_later = quantity-short w c (after a lists) limits small later t.from in
    let taker_later = quantity-short w c (after a lists) limits small later t.to in
    record {
      giver = omega (arith, law.giver);
      taker = omega (arith, law.taker);
      giver_small = omega (arith, law.giver, giver_later);
      taker_small = omega (arith, law.taker, taker_later);
    }
