-- An action and its inverse.
use Rattle.std.specs.Prelude.{if◌then◌else◌, not, ◌&&◌}
use Rattle.std.proofs.Common.{◌≡◌, ℕ, ◌<◌, true, false, eqb, List, [], ◌∷◌, length, get_or, set, refl, ap, sym, ◌∙◌, eq-eqb, inl, inr}
use Rattle.std.proofs.lemmas.Bool.{ne_eqb, and_parts, and_from, or_cases, or_left, or_right, false≢true, not-true, not_from_false, cases_Bool, both_ways}
use Rattle.std.proofs.lemmas.List.{set-set, set_comm, set-get_or, get_or-set_same, get_or-set_other, length-set}
use Rattle.plan_terms.specs.Belongs.{AreReplicaLists, distinct}
use Rattle.plan_terms.specs.Cluster.{Lists, list_of, has, leads}
use Rattle.plan_terms.specs.Effect.{replace, exchange_first, after, inverse}
use Rattle.plan_terms.specs.Fits.{fits}
use Rattle.plan_terms.proofs.EffectLemmas.{fits-Move, fits-Lead, fits-Swap}
use Rattle.plan_terms.proofs.MemberLemmas.{eqb-sym, has-replaced, has-later, replace-replace}
use Rattle.plan_terms.specs.declared.actions.Action.{Action}
use Rattle.plan_terms.specs.declared.actions.Action.TheVariants.{Move, Lead, Swap}

-- who comes is a member
has-comes : (a b : ℕ) (xs : List ℕ) → has xs a ≡ true → has (replace a b xs) b ≡ true
has-comes a b [] h = absurd (false≢true h)
has-comes a b (x ∷ xs) h = elim (cases_Bool (eqb x a)) as (λ _. has (if eqb x a then b ∷ xs else x ∷ replace a b xs) b ≡ true) [
  | inl same ↦ rw same (or_left (eqb b b) (has xs b) (eq-eqb b b refl))
  | inr other ↦ rw other (or_right (eqb x b) (has (replace a b xs) b) (has-comes a b xs (in_rest other)))
] where
  in_rest : eqb x a ≡ false → has xs a ≡ true
  in_rest other = elim (or_cases (eqb x a) (has xs a) h) as (λ _. has xs a ≡ true) [ inl first ↦ absurd (both_ways (eqb x a) other first) | inr later ↦ later ]

-- a member is not who is none
apart : (a b : ℕ) (xs : List ℕ) → has xs a ≡ true → has xs b ≡ false → eqb b a ≡ false
apart a b xs h n = ne_eqb b a (λ e. let both : has xs a ≡ false = rw e at n in both_ways (has xs a) both h)

-- the first member comes back
undone_first : (b : ℕ) (xs : List ℕ) → distinct xs ≡ true → has xs b ≡ true → leads xs b ≡ false → exchange_first (get_or xs 0 0) (exchange_first b xs) ≡ xs
undone_first b [] d h n = refl
undone_first b (x ∷ xs) d h n =
    let parts = and_parts (not (has xs x)) (distinct xs) d in
    ap (λ ys. x ∷ ys) (replace-replace b x xs (not-true (has xs x) parts.0))

first_fits : (b : ℕ) (xs : List ℕ) → distinct xs ≡ true → has xs b ≡ true → leads xs b ≡ false → (has (exchange_first b xs) (get_or xs 0 0) && not (leads (exchange_first b xs) (get_or xs 0 0))) ≡ true
first_fits b [] d h n = absurd (false≢true h)
first_fits b (x ∷ xs) d h n =
    let other : eqb b x ≡ false = eqb-sym x b n in
    and_from _ _ (or_right (eqb b x) (has (replace b x xs) x) (has-comes b x xs (has-later b x xs h n))) (not_from_false (eqb b x) other)

-- one list is written, and written back
back : (lists : Lists) (p : ℕ) (list : List ℕ) (f : List ℕ → List ℕ) → p < length lists → f list ≡ list_of lists p → set (set lists p list) p (f (list_of (set lists p list) p)) ≡ lists
back lists p list f l e =
    rw (get_or-set_same lists p list [] l, e) (set-set lists p list (list_of lists p) ∙ set-get_or lists p [])

module _ (lists : Lists) (one two : List ℕ) (p q : ℕ) (l : p < length lists) (m : q < length lists) (ne : p ≡ q → ⊥) where
  both : Lists
  both = set (set lists p one) q two

  at_p : list_of (set (set lists p one) q two) p ≡ one
  at_p = get_or-set_other (set lists p one) q p two [] ne ∙ get_or-set_same lists p one [] l

  at_q : list_of (set (set lists p one) q two) q ≡ two
  at_q = get_or-set_same (set lists p one) q two [] (rw length-set m)

  back_both : set (set (set (set lists p one) q two) p (list_of lists p)) q (list_of lists q) ≡ lists
  back_both =
      let ne' : q ≡ p → ⊥ = λ e. ne (sym e) in
      rw (set_comm (set lists p one) q p two (list_of lists p) ne', set-set lists p one (list_of lists p), set-get_or lists p [], set-set lists q two (list_of lists q)) (set-get_or lists q [])

module _ (lists : Lists) (h : AreReplicaLists lists) where
  -- the lists come back
  pub inverse-undoes : (a : Action) → fits lists a ≡ true → after (inverse lists a) (after a lists) ≡ lists
  inverse-undoes (Move p a b) f =
      let fit = fits-Move lists p a b f in
      back lists p (replace a b (list_of lists p)) (replace b a) fit.within (replace-replace a b (list_of lists p) fit.target)
  inverse-undoes (Lead p b) f =
      let fit = fits-Lead lists p b f in
      back lists p (exchange_first b (list_of lists p)) (exchange_first (get_or (list_of lists p) 0 0)) fit.within
      (undone_first b (list_of lists p) (h p [] fit.within).once fit.member fit.later)
  inverse-undoes (Swap p a q b) f =
      let fit = fits-Swap lists p a q b f in
      let one = replace a b (list_of lists p) in
      let two = replace b a (list_of lists q) in
      rw (
        at_p lists one two p q fit.first fit.second fit.apart,
        at_q lists one two p q fit.first fit.second fit.apart,
        replace-replace a b (list_of lists p) fit.target_comes,
        replace-replace b a (list_of lists q) fit.source_comes,
      )
      (back_both lists one two p q fit.first fit.second fit.apart)

  -- the inverse fits the lists after the action
  pub inverse-fits : (a : Action) → fits lists a ≡ true → fits (after a lists) (inverse lists a) ≡ true
  inverse-fits (Move p a b) f =
      let fit = fits-Move lists p a b f in
      let gone = has-replaced a b (list_of lists p) (h p [] fit.within).once (apart a b (list_of lists p) fit.source fit.target) in
      rw (get_or-set_same lists p (replace a b (list_of lists p)) [] fit.within)
      (and_from _ _ (has-comes a b (list_of lists p) fit.source) (not_from_false _ gone))
  inverse-fits (Lead p b) f =
      let fit = fits-Lead lists p b f in
      rw (get_or-set_same lists p (exchange_first b (list_of lists p)) [] fit.within)
      (first_fits b (list_of lists p) (h p [] fit.within).once fit.member fit.later)
  inverse-fits (Swap p a q b) f =
      let fit = fits-Swap lists p a q b f in
      let one = replace a b (list_of lists p) in
      let two = replace b a (list_of lists q) in
      let gone = has-replaced a b (list_of lists p) (h p [] fit.first).once (apart a b (list_of lists p) fit.source fit.target_comes) in
      let gone_too = has-replaced b a (list_of lists q) (h q [] fit.second).once (apart b a (list_of lists q) fit.target fit.source_comes) in
      rw (at_p lists one two p q fit.first fit.second fit.apart, at_q lists one two p q fit.first fit.second fit.apart)
      (and_from _ _ (and_from _ _ (and_from _ _ (and_from _ _ (not_from_false _ (ne_eqb p q fit.apart)) (has-comes a b (list_of lists p) fit.source)) (not_from_false _ gone_too)) (has-comes b a (list_of lists q) fit.target)) (not_from_false _ gone))
