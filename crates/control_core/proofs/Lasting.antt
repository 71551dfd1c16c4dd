-- A book lasts through its steps.
use Rattle.std.proofs.Common.{◌≡◌, ℕ, ◌≤◌, Bool, true, false, cond, arith}
use Rattle.std.specs.Prelude.{Result, Ok, Err, OnOk, IfErr}
use Rattle.core_terms.specs.declared.events.Event.{Event}
use Rattle.core_terms.specs.declared.faults.StepFault.{StepFault}
use Rattle.core_terms.specs.declared.faults.StepFault.TheVariants.{AdminFault, Memory}
use Rattle.core_terms.specs.declared.replies.Reply.{Reply}
use Rattle.control_core.specs.Books.{BookView, IsSince, IsStepFault, one_more}

module _ {A : Type 0} (faults : A → ℕ) (b c : BookView A) (e : Event) where
  -- the book after an entry, and after a fault
  since_entry : c.file ≡ b.file → c.settled ≡ b.settled → faults b.admin ≤ faults c.admin → (c.failures ≡ b.failures) × (c.late ≡ b.late) → IsSince faults b c
  since_entry file settled later h = record {
    file = file;
    settled = settled;
    later = later;
    risen = λ l. absurd (omega (arith, h.0, l));
    early = λ s. h.1;
    late_stays = λ l. omega (arith, h.1, l);
    late = λ s l. absurd (omega (arith, h.0, l));
  }

  early_after : (s : Bool) → c.late ≡ cond s (one_more b.late) b.late → s ≡ false → c.late ≡ b.late
  early_after true h e = absurd (cc e)
  early_after false h e = h

  late_after : (s : Bool) → c.late ≡ cond s (one_more b.late) b.late → 1 ≤ b.late → 1 ≤ c.late
  late_after true h l = omega (arith, h)
  late_after false h l = omega (arith, h, l)

  since_fault : (f : StepFault) → c.file ≡ b.file → c.settled ≡ b.settled → faults b.admin ≤ faults c.admin → IsStepFault faults b e c f → IsSince faults b c
  since_fault (AdminFault n) file settled later h = record {
    file = file;
    settled = settled;
    later = later;
    risen = λ l. h.1;
    early = early_after b.settled h.4;
    late_stays = late_after b.settled h.4;
    late = λ s l. let k : c.late ≡ one_more b.late = rw s at h.4 in omega (arith, k);
  }
  since_fault Memory file settled later h = since_entry file settled later (h.1, h.2)

  pub since_step : (r : Result Reply (StepFault × Event)) → c.file ≡ b.file → c.settled ≡ b.settled → faults b.admin ≤ faults c.admin → OnOk r ((c.failures ≡ b.failures) × (c.late ≡ b.late))
      → IfErr r (λ x. IsStepFault faults b e c x.0) → IsSince faults b c
  since_step (Ok y) file settled later k x = since_entry file settled later k
  since_step (Err y) file settled later k x = since_fault y.0 file settled later x
