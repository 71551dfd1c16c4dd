-- The numbers of a cluster that is to be made lie in their ranges.
use Rattle.std.proofs.Common.{◌≡◌, ℕ, ◌<◌, ◌≤◌, Bool, true, false, List, [], ◌∷◌, refl, arith}
use Rattle.std.specs.Prelude.{Option, Some, None, ◌&&◌, nat_le, option_map, option_and_then, if◌then◌else◌}
use Rattle.std.proofs.lemmas.Bool.Decides.{nat_tests}
use Rattle.command_words.specs.Meaning as words

pub record IsInRange (o : words.GenAsked) : Type 0 where
  pub seed : o.seed < 2147483648
  pub some : 1 ≤ o.brokers
  pub few : o.brokers ≤ 200
  pub parts : o.partitions ≤ 10000

tested : (least most n m : ℕ) (b : Bool) → (b ≡ true → (least ≤ n) × (n ≤ most)) → (if b then Some n else None) ≡ Some m → (least ≤ m) × (m ≤ most)
tested least most n m true h e = let same : n ≡ m = cc in rw same at (h refl)
tested least most n m false h e = absurd cc

both : (least most n : ℕ) → (nat_le least n && nat_le n most) ≡ true → (least ≤ n) × (n ≤ most)
both least most n h = grind (arith, nat_tests)

ranged : (least most m : ℕ) (x : Option ℕ) → words.within least most x ≡ Some m → (least ≤ m) × (m ≤ most)
ranged least most m None e = absurd cc
ranged least most m (Some n) e = tested least most n m _ (both least most n) e

-- the numbers of `gen`, where each is in its range if it is there
module _ (o : words.GenAsked) where
  by_partitions : (made : ℕ → words.GenAsked) (p : Option ℕ) → ((m : ℕ) → p ≡ Some m → IsInRange (made m)) → option_map made p ≡ Some o → IsInRange o
  by_partitions made None good e = absurd cc
  by_partitions made (Some p) good e = let same : made p ≡ o = cc in rw same at (good p refl)

  by_number : (next : ℕ → Option words.GenAsked) (n : Option ℕ) → ((m : ℕ) → n ≡ Some m → next m ≡ Some o → IsInRange o) → option_and_then next n ≡ Some o → IsInRange o
  by_number next None good e = absurd cc
  by_number next (Some n) good e = good n refl e

  gen-in_range : (rows : List _) → words.gen_of rows ≡ Some o → IsInRange o
  gen-in_range rows e = by_number _ (words.seed_of rows) (λ s at_s e'. by_number _ (words.brokers_of rows) (λ b at_b e''. by_partitions (words.gen_with rows s b) (words.partitions_of rows) (λ p at_p.
      let seed : (0 ≤ s) × (s ≤ 2147483647) = search (ranged, at_s) in
      let brokers : (1 ≤ b) × (b ≤ 200) = search (ranged, at_b) in
      let parts : (0 ≤ p) × (p ≤ 10000) = search (ranged, at_p) in
      record { seed = omega arith; some = brokers.0; few = brokers.1; parts = parts.1 }) e'') e') e

  other : {X : Type 0} (f : X → words.Asked) (x : Option X) → ((y : X) → f y ≡ words.gen o → ⊥) → option_map f x ≡ Some (words.gen o) → IsInRange o
  other f None never e = absurd cc
  other f (Some y) never e = let same : f y ≡ words.gen o = cc in absurd (never y same)

  own : (x : Option words.GenAsked) → ((p : words.GenAsked) → x ≡ Some p → IsInRange p) → option_map words.gen x ≡ Some (words.gen o) → IsInRange o
  own None h e = absurd cc
  own (Some p) h e = let same : p ≡ o = cc in rw same at (h p refl)

module _ (o : words.GenAsked) where
  chosen : (pl : Option words.PlanAsked) (ch : Option words.CheckAsked) (ap' : Option words.ApplyAsked) (ge : Option words.GenAsked) (se : Option words.SessionAsked) (sv : Option words.ServeAsked)
      → ((p : words.GenAsked) → ge ≡ Some p → IsInRange p) → (a b c d e f : Bool)
      → (if a then option_map words.plan pl
      else (if b then option_map words.check ch
      else (if c then option_map words.apply ap'
      else (if d then option_map words.gen ge
      else (if e then option_map words.session se
      else (if f then option_map words.serve sv else None)))))) ≡ Some (words.gen o) → IsInRange o
  chosen pl ch ap' ge se sv good true b c d e f h = other o words.plan pl (λ y s. cc) h
  chosen pl ch ap' ge se sv good false true c d e f h = other o words.check ch (λ y s. cc) h
  chosen pl ch ap' ge se sv good false false true d e f h = other o words.apply ap' (λ y s. cc) h
  chosen pl ch ap' ge se sv good false false false true e f h = own o ge good h
  chosen pl ch ap' ge se sv good false false false false true f h = other o words.session se (λ y s. cc) h
  chosen pl ch ap' ge se sv good false false false false false true h = other o words.serve sv (λ y s. cc) h
  chosen pl ch ap' ge se sv good false false false false false false h = absurd cc

  found : (s : Option (List ℕ × List _)) → option_and_then words.asked_of s ≡ Some (words.gen o) → IsInRange o
  found None h = absurd cc
  found (Some p) h =
      chosen (words.plan_of p.1) (words.check_of p.1) (words.apply_of p.1) (words.gen_of p.1) (words.session_of p.1) (words.serve_of p.1) (λ q at_q. gen-in_range q p.1 at_q) _ _ _ _ _ _ h

  unrefused : (ks : List _) (s : Option (List ℕ × List _)) → words.unless_refused ks (option_and_then words.asked_of s) ≡ Some (words.gen o) → IsInRange o
  unrefused [] s h = found s h
  unrefused (k ∷ ks) s h = absurd cc

  pub in_range : (given : List (List ℕ)) → words.meaning given ≡ Some (words.gen o) → IsInRange o
  in_range given h = search (unrefused, h)
