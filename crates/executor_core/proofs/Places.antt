-- The first place that passes, in a list that grows.
use Rattle.std.proofs.Common.{◌≡◌, ◌∙◌, ℕ, ◌+◌, ◌<◌, ◌≤◌, Bool, true, false, cond, eqb, List, [], ◌∷◌, ◌++◌, length, get_or, take, nat_lt, not, Option, Some, None, refl, ap, sym, arith, position, set, inl, inr, is_none, is_some}
use Rattle.std.specs.Option.{option_or}
use Rattle.std.specs.List.{position_or_len}
use Rattle.std.proofs.lemmas.Bool.{cases_eq, eq-eqb, false≢true, ne_eqb}
use Rattle.std.proofs.lemmas.Bool.Decides.{nat_tests}
use Rattle.std.proofs.lemmas.List.{get_or_default, get_or-set_other, get_or-set_same, length_push, length-take-le, take_more}
use Rattle.std.proofs.lemmas.List.Folds.{position_or_len_push}
use Rattle.std.proofs.lemmas.List.Sums.{prefix_len-le-length}
use Rattle.exec_terms.specs.Words.{is_on}
use Rattle.exec_terms.specs.declared.task.Task.{Task}

found-push : (n l : ℕ) (b : Bool) → n ≤ l → cond (nat_lt (cond (eqb n l) (l + cond b 0 1) n) (l + 1)) (Some (cond (eqb n l) (l + cond b 0 1) n)) None ≡ option_or (cond (nat_lt n l) (Some n) None) (cond b (Some l) None)
found-push n l true h = grind (arith, nat_tests)
found-push n l false h = grind (arith, nat_tests)

module _ {X : Type 0} (p : X → Bool) where
  -- an element more is found where it passes and none before it does
  pub position-push : (xs : List X) (y : X) → position p (xs ++ y ∷ []) ≡ option_or (position p xs) (cond (p y) (Some (length xs)) None)
  position-push xs y =
      ap (λ n. cond (nat_lt (position_or_len p (xs ++ y ∷ [])) n) (Some (position_or_len p (xs ++ y ∷ []))) None) (length_push xs y)
      ∙ ap (λ k. cond (nat_lt k (length xs + 1)) (Some k) None) (position_or_len_push p xs y) ∙ found-push (position_or_len p xs) (length xs) (p y) (prefix_len-le-length (λ x. not (p x)) xs)

  -- the next element of a list
  pub position-more : (xs : List X) (i : ℕ) (x : X) → i < length xs → x ≡ get_or xs i x → position p (take (i + 1) xs) ≡ option_or (position p (take i xs)) (cond (p x) (Some i) None)
  position-more xs i x h is =
      ap (position p) (take_more xs i x h ∙ ap (λ (y : X). take i xs ++ y ∷ []) (sym is)) ∙ position-push (take i xs) x
      ∙ ap (λ n. option_or (position p (take i xs)) (cond (p x) (Some n) None)) (length-take-le i xs (omega arith))

-- what a place reads as is None where a test says so, whatever is read past the end
pub none_read : (xs : List (Option ℕ)) (i : ℕ) (d : Option ℕ) (none : Bool) → i < length xs → d ≡ get_or xs i d → is_some d ≡ not none → none ≡ true → get_or xs i None ≡ None
none_read xs i d none h is e t = get_or_default xs i None d h ∙ sym is ∙ nothing d (e ∙ ap not t)
  where
    nothing : (o : Option ℕ) → is_some o ≡ false → o ≡ None
    nothing None q = refl
    nothing (Some x) q = absurd (false≢true (sym q))

pub some_read : (xs : List (Option ℕ)) (i : ℕ) (d : Option ℕ) (none : Bool) → i < length xs → d ≡ get_or xs i d → is_some d ≡ not none → none ≡ false → is_none (get_or xs i None) ≡ false
some_read xs i d none h is e t = ap is_none (get_or_default xs i None d h ∙ sym is) ∙ something d (e ∙ ap not t)
  where
    something : (o : Option ℕ) → is_some o ≡ true → is_none o ≡ false
    something None q = absurd (false≢true q)
    something (Some x) q = refl

kept_some : (o rest : Option ℕ) → is_none o ≡ false → option_or o rest ≡ o
kept_some None rest h = absurd (false≢true (sym h))
kept_some (Some x) rest h = refl

kept_none : (o : Option ℕ) → option_or o None ≡ o
kept_none None = refl
kept_none (Some x) = refl

module _ (tasks : List Task) (i : ℕ) (task : Task) (old : List (Option ℕ)) (parts : ℕ) where
  -- the place of a task more is noted at its partition, where none was
  pub noted-new : i < length tasks → task ≡ get_or tasks i task → length old ≡ parts → task.part < parts → get_or old task.part None ≡ None
      → ((p : ℕ) → p < parts → get_or old p None ≡ position (is_on p) (take i tasks))
      → (p : ℕ) → p < parts → get_or (set old task.part (Some i)) p None ≡ position (is_on p) (take (i + 1) tasks)
  noted-new h is long known none before p l =
      sym (position-more (is_on p) tasks i task h is ∙ ap (λ o. option_or o (cond (eqb task.part p) (Some i) None)) (sym (before p l)) ∙ here)
    where
      here : option_or (get_or old p None) (cond (eqb task.part p) (Some i) None) ≡ get_or (set old task.part (Some i)) p None
      here = elim (cases_eq task.part p) as (λ _. option_or (get_or old p None) (cond (eqb task.part p) (Some i) None) ≡ get_or (set old task.part (Some i)) p None) [
        | inl e ↦
            let there : get_or (set old task.part (Some i)) p None ≡ Some i = ap (λ k. get_or (set old task.part (Some i)) k None) (sym e) ∙ get_or-set_same old task.part (Some i) None (omega (arith, long)) in
            ap (λ b. option_or (get_or old p None) (cond b (Some i) None)) (eq-eqb task.part p e) ∙ ap (λ o. option_or o (Some i)) (ap (λ k. get_or old k None) (sym e) ∙ none) ∙ sym there
        | inr n ↦
            ap (λ b. option_or (get_or old p None) (cond b (Some i) None)) (ne_eqb task.part p n) ∙ kept_none (get_or old p None)
            ∙ sym (get_or-set_other old task.part p (Some i) None (λ e. n (sym e)))
      ]

  -- and is left out where one was
  pub noted-old : i < length tasks → task ≡ get_or tasks i task → is_none (get_or old task.part None) ≡ false
      → ((p : ℕ) → p < parts → get_or old p None ≡ position (is_on p) (take i tasks))
      → (p : ℕ) → p < parts → get_or old p None ≡ position (is_on p) (take (i + 1) tasks)
  noted-old h is some before p l =
      sym (position-more (is_on p) tasks i task h is ∙ ap (λ o. option_or o (cond (eqb task.part p) (Some i) None)) (sym (before p l)) ∙ here)
    where
      here : option_or (get_or old p None) (cond (eqb task.part p) (Some i) None) ≡ get_or old p None
      here = elim (cases_eq task.part p) as (λ _. option_or (get_or old p None) (cond (eqb task.part p) (Some i) None) ≡ get_or old p None) [
        | inl e ↦ kept_some (get_or old p None) (cond (eqb task.part p) (Some i) None) (rw e at some)
        | inr n ↦ ap (λ b. option_or (get_or old p None) (cond b (Some i) None)) (ne_eqb task.part p n) ∙ kept_none (get_or old p None)
      ]
