-- From request to request of a stream.
use Rattle.std.proofs.lemmas.Bool.Decides.{nat_tests}
use Rattle.std.proofs.Common.{◌≡◌, ℕ, suc, ◌+◌, ◌^◌, ◌<◌, ◌≤◌, nat_lt, arith, Bool, true, false, true≢false, List, [], ◌∷◌, ◌++◌, refl, sym, ◌∙◌, subst, append_assoc}
use Rattle.std.specs.Prelude.{Option, Some, None, IfSome, IsSome, IsTrue, IsFalse}
use Rattle.std.proofs.lemmas.List.{append-nil}
use Rattle.rest_stream.specs.Stream.{IsRequest, Requests, StopsBy, closed, is_last, stopped}
use Rattle.rest_stream.specs.Whole.{Leads}
use Rattle.rest_stream.specs.declared.raw.RawRequest.{RawRequest}
use Rattle.rest_stream.specs.declared.raw.Stop.{Stop}

module _ (raws : List RawRequest) (n : ℕ) (raw : RawRequest) where
  -- a further request that doesn't close
  pub leads_on : (whole before after : Option (List ℕ)) (m : ℕ) → m ≡ suc n → Leads whole raws n before → IfSome before (λ s. IfSome after (IsRequest (is_last n) s raw)) → (IsSome before → IsSome after) → raw.closes ≡ false
      → Leads whole (raws ++ raw ∷ []) m after
  leads_on None before after m same h is told goes = tt
  leads_on (Some s) None after m same h is told goes = elim h [ ]
  leads_on (Some s) (Some b) None m same h is told goes = absurd (true≢false (sym (told refl)))
  leads_on (Some s) (Some b) (Some a) m same h is told goes = λ more end later.
      subst (λ (rs : List RawRequest). Requests 0 s rs end) (sym (append_assoc raws (raw ∷ []) more))
      (h (raw ∷ more) end (a, is, (λ (t : IsTrue raw.closes). absurd (true≢false (sym t ∙ goes))), (λ _. subst (λ (k : ℕ). Requests k a more end) same later)))

  -- one that closes
  pub leads_closed : (whole before after : Option (List ℕ)) → Leads whole raws n before → IfSome before (λ s. IfSome after (IsRequest (is_last n) s raw)) → (IsSome before → IsSome after) → raw.closes ≡ true
      → IfSome whole (λ s. Requests 0 s (raws ++ raw ∷ []) closed)
  leads_closed None before after h is told shut = tt
  leads_closed (Some s) None after h is told shut = elim h [ ]
  leads_closed (Some s) (Some b) None h is told shut = absurd (true≢false (sym (told refl)))
  leads_closed (Some s) (Some b) (Some a) h is told shut = h (raw ∷ []) closed (a, is, (λ _. (refl, refl)), (λ (f : IsFalse raw.closes). absurd (true≢false (sym shut ∙ f))))

-- no further request
pub leads_end : (raws : List RawRequest) (n : ℕ) (why : Stop) (whole before : Option (List ℕ)) → Leads whole raws n before → IfSome before (λ s. StopsBy s why) → IfSome whole (λ s. Requests 0 s raws (stopped why))
leads_end raws n why None before h is = tt
leads_end raws n why (Some s) None h is = elim h [ ]
leads_end raws n why (Some s) (Some b) h is = subst (λ (rs : List RawRequest). Requests 0 s rs (stopped why)) (append-nil raws) (h [] (stopped why) is)

-- a request that doesn't close isn't the last that may be
pub few_left : (n : ℕ) (raw : RawRequest) → (2 ^ 48 ≤ n + 1 → IsTrue raw.closes) → raw.closes ≡ false → n + 1 < 2 ^ 48
few_left n raw last goes = by (nat_lt (n + 1) (2 ^ 48)) refl
  where
    by : (b : Bool) → nat_lt (n + 1) (2 ^ 48) ≡ b → n + 1 < 2 ^ 48
    by true e = grind (arith, nat_tests)
    by false e = let over : 2 ^ 48 ≤ n + 1 = grind (arith, nat_tests) in absurd (true≢false (sym (last over) ∙ goes))
