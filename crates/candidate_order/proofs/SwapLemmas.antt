-- Swaps that are not legal, or cannot help.
use Rattle.std.specs.Prelude.{not, IfSome, IsTrue, option_map, Option, Some, None}
use Rattle.std.proofs.Common.{◌≡◌, ℕ, ◌<◌, List, [], ◌∷◌, get_or, false, true, inl, inr, arith, refl}
use Rattle.std.proofs.lemmas.Bool.{cases_lt, lt-ltb, le-ltb, and_parts, and_from, or_parts, not-false, false≢true, eqb-true}
use Rattle.std.proofs.lemmas.Bool.Decides.{nat_tests}
use Rattle.plan_terms.specs.Cluster.{Cluster, Lists, list_of, leads}
use Rattle.plan_terms.specs.Fits.{fits}
use Rattle.plan_terms.specs.Goal.{Meaning, Lessens}
use Rattle.plan_terms.specs.Legal.{any_new, is_legal, is_live, is_open}
use Rattle.plan_terms.specs.declared.actions.Action.{Action}
use Rattle.plan_terms.specs.declared.actions.Action.TheVariants.{Lead, Swap}
use Rattle.plan_terms.specs.declared.cluster.Part.{Part}
use Rattle.goal_terms.specs.Pairs.{ColdPairs, IdleTrades, giver, taker}
use Rattle.goal_terms.specs.Quantity.{Weights, part_weight, trade}
use Rattle.goal_terms.specs.declared.heat.Heat.{Heat}
use Rattle.candidate_order.specs.Looks.{is_cold, is_above, is_below, may_meet, may_swap, trades_nothing}
use Rattle.candidate_order.proofs.LookLemmas.{cold-is, not_above, not_below}

-- a swap goes to a later partition
pub swap-rises : (c : Cluster) (lists : Lists) (p a q b : ℕ) → is_legal c lists (Swap p a q b) ≡ true → p < q
unfolding is_legal
swap-rises c lists p a q b h = grind (arith, nat_tests, and_parts, and_from)

-- what it says of its source alone
module _ (c : Cluster) (lists : Lists) (p a q b : ℕ) (h : is_legal c lists (Swap p a q b) ≡ true) where
  pub swap-live : is_live c a ≡ true
  unfolding is_legal
  swap-live = grind (arith, and_parts, and_from)

  pub swap-open : is_open c.parts p ≡ true
  unfolding is_legal
  swap-open = grind (arith, and_parts, and_from)

  pub swap-balances : not c.options.leads_only ≡ true
  unfolding is_legal
  swap-balances = grind (arith, and_parts, and_from)

  pub swap-old : not (any_new c) ≡ true
  unfolding is_legal
  swap-old = grind (arith, and_parts, and_from)

-- who leads is the first member
pub leads-giver : (xs : List ℕ) (a : ℕ) → leads xs a ≡ true → get_or xs 0 0 ≡ a
leads-giver [] a h = absurd (false≢true h)
leads-giver (x ∷ xs) a h = eqb-true x a h

-- a trade of weights that cannot help does not
pub idle-trade : (o : Option Weights) (m : Meaning) (hot : ℕ → Heat) (parts : List Part) (lists : Lists) → ColdPairs m hot lists → IfSome o (IdleTrades m hot parts lists)
    → (x : Action) → IsTrue (fits lists x)
    → may_swap (option_map (λ w. (trade w parts lists x).out) o) (option_map (λ w. (trade w parts lists x).back) o) (hot (giver lists x)) (hot (taker x)) ≡ false
    → Lessens m lists x → ⊥
idle-trade None m hot parts lists cold idle x fit e less =
    let both = and_parts (is_cold (hot (giver lists x))) (is_cold (hot (taker x))) (not-false _ e) in
    cold.none x fit (cold-is (hot (giver lists x)) both.0) (cold-is (hot (taker x)) both.1) less
idle-trade (Some w) m hot parts lists cold idle x fit e less =
    let out = (trade w parts lists x).out in
    let back = (trade w parts lists x).back in
    elim (cases_lt back out) as (λ _. ⊥) [
      | inl l ↦
          let rest = or_parts (is_above (hot (giver lists x))) (is_below (hot (taker x))) (rw (lt-ltb back out l) at e) in
          idle.falling x fit (not_above (hot (giver lists x)) rest.0) (not_below (hot (taker x)) rest.1) (omega arith) less
      | inr g ↦ elim (cases_lt out back) as (λ _. ⊥) [
        | inl l ↦
            let rest = or_parts (is_above (hot (taker x))) (is_below (hot (giver lists x))) (rw (le-ltb back out g, lt-ltb out back l) at e) in
            idle.rising x fit (not_below (hot (giver lists x)) rest.1) (not_above (hot (taker x)) rest.0) (omega arith) less
        | inr k ↦ idle.equal x fit (omega arith) less
      ]
    ]

-- so it is for a swap
pub idle-swap : (o : Option Weights) (m : Meaning) (hot : ℕ → Heat) (parts : List Part) (lists : Lists) → ColdPairs m hot lists → IfSome o (IdleTrades m hot parts lists)
    → (p a q b : ℕ) → IsTrue (fits lists (Swap p a q b))
    → may_swap (option_map (λ w. part_weight w parts p (leads (list_of lists p) a)) o) (option_map (λ w. part_weight w parts q (leads (list_of lists q) b)) o) (hot a) (hot b) ≡ false
    → Lessens m lists (Swap p a q b) → ⊥
idle-swap o m hot parts lists cold idle p a q b fit e less = idle-trade o m hot parts lists cold idle (Swap p a q b) fit e less

-- and for a lead
pub idle-lead : (o : Option Weights) (m : Meaning) (hot : ℕ → Heat) (parts : List Part) (lists : Lists) → ColdPairs m hot lists → IfSome o (IdleTrades m hot parts lists)
    → (p a b : ℕ) → IsTrue (fits lists (Lead p b)) → leads (list_of lists p) a ≡ true
    → may_swap (option_map (λ w. part_weight w parts p true) o) (option_map (λ w. part_weight w parts p false) o) (hot a) (hot b) ≡ false
    → Lessens m lists (Lead p b) → ⊥
idle-lead o m hot parts lists cold idle p a b fit first e less =
    idle-trade o m hot parts lists cold idle (Lead p b) fit (rw (leads-giver (list_of lists p) a first) e) less

-- nor does a swap of two brokers that cannot help each other
pub idle-meet : (o : Option Weights) (m : Meaning) (hot : ℕ → Heat) (parts : List Part) (lists : Lists) → ColdPairs m hot lists → IfSome o (IdleTrades m hot parts lists)
    → (p a q b : ℕ) → IsTrue (fits lists (Swap p a q b))
    → may_meet (option_map (λ w. part_weight w parts p (leads (list_of lists p) a)) o) (hot a) (hot b) ≡ false
    → Lessens m lists (Swap p a q b) → ⊥
idle-meet None m hot parts lists cold idle p a q b fit e less =
    let both = and_parts (is_cold (hot a)) (is_cold (hot b)) (not-false _ e) in
    cold.none (Swap p a q b) fit (cold-is (hot a) both.0) (cold-is (hot b) both.1) less
idle-meet (Some w) m hot parts lists cold idle p a q b fit e less =
    let out = part_weight w parts p (leads (list_of lists p) a) in
    let back = part_weight w parts q (leads (list_of lists q) b) in
    let rest = or_parts _ _ e in
    let source = or_parts (is_above (hot a)) (is_below (hot a)) rest.0 in
    let target = or_parts (is_above (hot b)) (is_below (hot b)) rest.1 in
    elim (cases_lt back out) as (λ _. ⊥) [
      | inl l ↦ idle.falling (Swap p a q b) fit (not_above (hot a) source.0) (not_below (hot b) target.1) (omega arith) less
      | inr g ↦ idle.rising (Swap p a q b) fit (not_below (hot a) source.1) (not_above (hot b) target.0) (omega arith) less
    ]

-- nor does one by which as much comes back as goes
pub nothing-trades : (o back : Option ℕ) (s t : Heat) → trades_nothing o back ≡ true → may_swap o back s t ≡ false
nothing-trades None back s t e = absurd (false≢true e)
nothing-trades (Some m) None s t e = absurd (false≢true e)
nothing-trades (Some m) (Some n) s t e = rw (eqb-true m n e, le-ltb n n (omega arith)) refl
