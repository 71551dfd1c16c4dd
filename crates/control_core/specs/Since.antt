-- The same book after a while: laws of it.
use Rattle.std.proofs.Common.{ℕ, refl, ◌∙◌, arith, inl, inr}
use Rattle.std.proofs.lemmas.Bool.{cases_lt}
use Rattle.control_core.specs.Books.{BookView, IsSince}

-- it is the same at once
pub since_itself : {A : Type 0} (faults : A → ℕ) (b : BookView A) → IsSince faults b b
since_itself faults b = record { file = refl; settled = refl; later = omega arith; risen = λ l. absurd (omega (arith, l)); early = λ s. refl; late_stays = λ h. h; late = λ s l. absurd (omega (arith, l)) }

-- and the same after two whiles
pub since_on : {A : Type 0} (faults : A → ℕ) (b c d : BookView A) → IsSince faults b c → IsSince faults c d → IsSince faults b d
since_on faults b c d p q = record {
  file = q.file ∙ p.file;
  settled = q.settled ∙ p.settled;
  later = omega (arith, p.later, q.later);
  risen = λ l. elim (cases_lt b.failures c.failures) [
    | inl m ↦ let h = p.risen m in omega (arith, h, q.later)
    | inr m ↦ let h = q.risen (omega (arith, l, m)) in omega (arith, h, p.later)
  ];
  early = λ s. q.early (p.settled ∙ s) ∙ p.early s;
  late_stays = λ h. q.late_stays (p.late_stays h);
  late = λ s l. elim (cases_lt b.failures c.failures) [
    | inl m ↦ q.late_stays (p.late s m)
    | inr m ↦ q.late (p.settled ∙ s) (omega (arith, l, m))
  ];
}
