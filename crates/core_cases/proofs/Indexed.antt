-- The index grows by a topic or by a partition.
use Rattle.std.proofs.Common.{◌≡◌, ◌∙◌, ℕ, ◌+◌, ◌<◌, ◌≤◌, Bool, true, false, cond, eqb, ◌&&◌, List, [], ◌∷◌, ◌++◌, length, Option, Some, None, refl, sym, ap, arith, inl, inr, ◌⊎◌, bytes_eq, is_some}
use Rattle.std.specs.Map.{update}
use Rattle.std.specs.Option.{option_or}
use Rattle.std.proofs.lemmas.Bool.{eq-eqb, eqb-true, ne_eqb, false≢true}
use Rattle.std.proofs.lemmas.Slice.Eq.{bytes_eq-Decides}
use Rattle.plan_terms.specs.declared.cluster.Part.{Part}
use Rattle.executor_core.proofs.Places.{position-push}
use Rattle.core_terms.specs.Works.{part_place}
use Rattle.core_cases.specs.Index.{IsIndex, place_behind}

-- nothing is there
pub none_is : (o : Option ℕ) → is_some o ≡ false → o ≡ None
none_is None h = refl
none_is (Some x) h = absurd (false≢true (sym h))

some_is : {m n : ℕ} → Some m ≡ Some n → m ≡ n
some_is e = cc

module _ (parts : List Part) (places : ℕ → ℕ → Option ℕ) (count : ℕ) (name : List ℕ) (old new : List ℕ → Option ℕ) where
  -- a topic without a number gets the next one
  pub number-more : old name ≡ None → ((text : List ℕ) → new text ≡ update bytes_eq old name (Some count) text) → IsIndex parts old places count → IsIndex parts new places (count + 1)
  number-more none is h = record { finds = finds; apart = apart; few = few; free = λ t number l. h.free t number (omega arith) }
    where
      has : (text : List ℕ) → ((text ≡ name) × (new text ≡ Some count)) ⊎ (new text ≡ old text)
      has text =
          elim (bytes_eq name text) as (λ b. bytes_eq name text ≡ b → ((text ≡ name) × (new text ≡ Some count)) ⊎ (new text ≡ old text)) [
            | true ↦ λ e. inl (sym ((bytes_eq-Decides name text).0 e), is text ∙ ap (λ b. cond b (Some count) (old text)) e)
            | false ↦ λ e. inr (is text ∙ ap (λ b. cond b (Some count) (old text)) e)
          ] refl

      finds : (topic : List ℕ) (number : ℕ) → place_behind (λ t. places t number) (new topic) ≡ part_place parts topic number
      finds topic number =
          let behind : Option ℕ → Option ℕ = place_behind (λ t. places t number) in
          elim (has topic) as (λ _. behind (new topic) ≡ part_place parts topic number) [
            | inl w ↦ ap behind w.1 ∙ h.free count number (omega arith) ∙ sym (ap behind (ap old w.0 ∙ none)) ∙ h.finds topic number
            | inr w ↦ ap behind w ∙ h.finds topic number
          ]

      few : (a : List ℕ) (t : ℕ) → new a ≡ Some t → t < count + 1
      few a t e = elim (has a) as (λ _. t < count + 1) [ inl w ↦ omega (arith, some_is (sym w.1 ∙ e)) | inr w ↦ omega (arith, h.few a t (sym w ∙ e)) ]

      apart : (a b : List ℕ) (t : ℕ) → new a ≡ Some t → new b ≡ Some t → a ≡ b
      apart a b t ea eb = elim (has a) as (λ _. a ≡ b) [
        | inl u ↦ elim (has b) as (λ _. a ≡ b) [ inl v ↦ u.0 ∙ sym v.0 | inr v ↦ absurd (omega (arith, some_is (sym u.1 ∙ ea), h.few b t (sym v ∙ eb))) ]
        | inr u ↦ elim (has b) as (λ _. a ≡ b) [ inl v ↦ absurd (omega (arith, some_is (sym v.1 ∙ eb), h.few a t (sym u ∙ ea))) | inr v ↦ h.apart a b t (sym u ∙ ea) (sym v ∙ eb) ]
      ]

module _ (parts : List Part) (part : Part) (numbers : List ℕ → Option ℕ) (old new : ℕ → ℕ → Option ℕ) (count topic : ℕ) where
  -- a partition more, behind the number of its topic
  pub place-more : numbers part.topic ≡ Some topic → ((t n : ℕ) → new t n ≡ option_or (old t n) (cond (eqb topic t && eqb part.number n) (Some (length parts)) None)) → IsIndex parts numbers old count → IsIndex (parts ++ part ∷ []) numbers new count
  place-more named is h = record { finds = finds; apart = h.apart; few = h.few; free = free }
    where
      free : (t number : ℕ) → count ≤ t → new t number ≡ None
      free t number l =
          let low : topic < count = h.few part.topic topic named in
          let other : eqb topic t ≡ false = ne_eqb topic t (λ e. omega (arith, e)) in
          is t number ∙ ap (λ o. option_or o (cond (eqb topic t && eqb part.number number) (Some (length parts)) None)) (h.free t number l)
          ∙ ap (λ b. cond (b && eqb part.number number) (Some (length parts)) None) other

      -- the same topic is the same number
      same : (t : ℕ) (name : List ℕ) → numbers name ≡ Some t → eqb topic t ≡ bytes_eq part.topic name
      same t name e =
          elim (bytes_eq part.topic name) as (λ b. bytes_eq part.topic name ≡ b → eqb topic t ≡ b) [
            | true ↦ λ s. eq-eqb topic t (some_is (sym named ∙ ap numbers ((bytes_eq-Decides part.topic name).0 s) ∙ e))
            | false ↦ λ s. ne_eqb topic t (λ q. false≢true (sym s ∙ (bytes_eq-Decides part.topic name).1 (h.apart part.topic name topic named (e ∙ ap Some (sym q)))))
          ] refl

      push : (name : List ℕ) (number : ℕ) → part_place (parts ++ part ∷ []) name number ≡ option_or (part_place parts name number) (cond (bytes_eq part.topic name && eqb part.number number) (Some (length parts)) None)
      push name number = position-push (λ p. bytes_eq p.topic name && eqb p.number number) parts part

      -- a topic without a number is none of the partition's
      strange : (name : List ℕ) → numbers name ≡ None → bytes_eq part.topic name ≡ false
      strange name e =
          elim (bytes_eq part.topic name) as (λ b. bytes_eq part.topic name ≡ b → b ≡ false) [
            | true ↦ λ s. absurd (let q : Some topic ≡ None = sym named ∙ ap numbers ((bytes_eq-Decides part.topic name).0 s) ∙ e in cc)
            | false ↦ λ s. refl
          ] refl

      finds : (name : List ℕ) (number : ℕ) → place_behind (λ t. new t number) (numbers name) ≡ part_place (parts ++ part ∷ []) name number
      finds name number =
          let here : Bool → Option ℕ = λ b. cond (b && eqb part.number number) (Some (length parts)) None in
          elim (numbers name) as (λ o. numbers name ≡ o → place_behind (λ t. new t number) o ≡ part_place (parts ++ part ∷ []) name number) [
            | None ↦ λ e. sym (push name number ∙ ap (λ o. option_or o (here (bytes_eq part.topic name))) (sym (h.finds name number) ∙ ap (place_behind (λ t. old t number)) e) ∙ ap here (strange name e))
            | Some t ↦ λ e. is t number ∙ ap (λ b. option_or (old t number) (here b)) (same t name e)
                ∙ ap (λ o. option_or o (here (bytes_eq part.topic name))) (sym (ap (place_behind (λ t. old t number)) e) ∙ h.finds name number) ∙ sym (push name number)
          ] refl

module _ (old new : ℕ → ℕ → Option ℕ) (topic number place : ℕ) where
  -- a place behind two numbers that had none
  pub place-noted : old topic number ≡ None → ((t n : ℕ) → new t n ≡ cond (eqb topic t && eqb number n) (Some place) (old t n))
      → (t n : ℕ) → new t n ≡ option_or (old t n) (cond (eqb topic t && eqb number n) (Some place) None)
  place-noted none is t n =
      is t n
      ∙ elim (eqb topic t) as (λ a. eqb topic t ≡ a → cond (a && eqb number n) (Some place) (old t n) ≡ option_or (old t n) (cond (a && eqb number n) (Some place) None)) [
        | true ↦ λ ea. elim (eqb number n) as (λ b. eqb number n ≡ b → cond b (Some place) (old t n) ≡ option_or (old t n) (cond b (Some place) None)) [
          | true ↦ λ eb.
              let unnoted : old t n ≡ None = sym (ap (λ k. old k n) (eqb-true topic t ea)) ∙ sym (ap (λ k. old topic k) (eqb-true number n eb)) ∙ none in
              sym (ap (λ o. option_or o (Some place)) unnoted)
          | false ↦ λ eb. kept (old t n)
        ] refl
        | false ↦ λ ea. kept (old t n)
      ] refl
    where
      kept : (o : Option ℕ) → o ≡ option_or o None
      kept None = refl
      kept (Some x) = refl
