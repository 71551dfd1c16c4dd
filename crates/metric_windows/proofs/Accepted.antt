-- What `add` answers, and the tables that it leaves.
use Rattle.std.proofs.Common.{◌≡◌, ◌∙◌, ℕ, ◌<◌, ◌≤◌, Bool, true, false, cond, List, [], ◌∷◌, ◌++◌, length, Some, None, nat_le, sym, ap}
use Rattle.metric_windows.specs.declared.tally.Tally.{Tally}
use Rattle.metric_windows.specs.declared.fault.SampleFault.TheVariants.{TooOld, WindowFull}
use Rattle.plan_terms.specs.Loads.{IsLoads}
use Rattle.metric_windows.specs.Samples.{window_of, newest, is_past, oldest_kept, samples_in, refusal}
use Rattle.plan_terms.specs.declared.settings.Sample.{Sample}
use Rattle.metric_windows.specs.Tables.{Tables, AreTables, tally_in, with_load, stored}
use Rattle.metric_windows.specs.StandsFor.{StandsFor}
use Rattle.metric_windows.proofs.Numbers.{le_test, no_le_from_lt}
use Rattle.metric_windows.proofs.Stands.{StandsFor-sample}

module _ (t : Tables) (samples : List Sample) (s : Sample) (w : ℕ) (w_is : w ≡ window_of t.rules s.time) (stands : StandsFor t samples) where
  past_is : (b : Bool) → is_past t.rules t.newest w ≡ b → is_past t.rules (newest t.rules samples) (window_of t.rules s.time) ≡ b
  past_is b h = ap (λ o. is_past t.rules o (window_of t.rules s.time)) (sym stands.newest_is) ∙ ap (λ v. is_past t.rules t.newest v) (sym w_is) ∙ h

  pub refusal-past : (o : ℕ) → is_past t.rules t.newest w ≡ true → o ≡ oldest_kept t.rules t.newest → refusal t.rules samples s ≡ Some (TooOld o)
  unfolding refusal
  refusal-past o h e =
      let old : oldest_kept t.rules (newest t.rules samples) ≡ o = ap (λ n. oldest_kept t.rules n) (sym stands.newest_is) ∙ sym e in
      ap (λ b. cond b (Some (TooOld (oldest_kept t.rules (newest t.rules samples)))) (cond (nat_le 65536 (length (samples_in t.rules samples s.part (window_of t.rules s.time)))) (Some WindowFull) None)) (past_is true h)
      ∙ ap (λ n. Some (TooOld n)) old

  count_is : s.part < t.parts → is_past t.rules t.newest w ≡ false → (tally_in t s.part w).count ≡ length (samples_in t.rules samples s.part (window_of t.rules s.time))
  count_is known h = ap (λ (y : Tally). y.count) (stands.tallies s.part w known h) ∙ ap (λ v. length (samples_in t.rules samples s.part v)) w_is

  refusal-open : (b : Bool) → s.part < t.parts → is_past t.rules t.newest w ≡ false → nat_le 65536 (tally_in t s.part w).count ≡ b → refusal t.rules samples s ≡ cond b (Some WindowFull) None
  unfolding refusal
  refusal-open b known h full =
      ap (λ x. cond x (Some (TooOld (oldest_kept t.rules (newest t.rules samples)))) (cond (nat_le 65536 (length (samples_in t.rules samples s.part (window_of t.rules s.time)))) (Some WindowFull) None)) (past_is false h)
      ∙ ap (λ x. cond (nat_le 65536 x) (Some WindowFull) None) (sym (count_is known h))
      ∙ ap (λ x. cond x (Some WindowFull) None) full

  pub refusal-full : s.part < t.parts → is_past t.rules t.newest w ≡ false → (tally : Tally) → tally ≡ tally_in t s.part w → 65536 ≤ tally.count → refusal t.rules samples s ≡ Some WindowFull
  refusal-full known h tally e l = refusal-open true known h (ap (λ (y : Tally). nat_le 65536 y.count) (sym e) ∙ le_test 65536 tally.count l)

  pub refusal-none : s.part < t.parts → is_past t.rules t.newest w ≡ false → (tally : Tally) → tally ≡ tally_in t s.part w → tally.count < 65536 → refusal t.rules samples s ≡ None
  refusal-none known h tally e l = refusal-open false known h (ap (λ (y : Tally). nat_le 65536 y.count) (sym e) ∙ no_le_from_lt 65536 tally.count l)

  pub StandsFor-stored : AreTables t → s.part < t.parts → IsLoads s.loads → is_past t.rules t.newest w ≡ false → (tally more : Tally) (new : Tables) → tally ≡ tally_in t s.part w → tally.count < 65536 → more ≡ with_load tally s.loads → new ≡ stored t s.part w more → StandsFor new (samples ++ s ∷ [])
  StandsFor-stored good known fine h tally more new e l m n =
      let into : new ≡ stored t s.part (window_of t.rules s.time) (with_load (tally_in t s.part (window_of t.rules s.time)) s.loads) =
      n ∙ ap (λ y. stored t s.part w y) (m ∙ ap (λ y. with_load y s.loads) e) ∙ ap (λ v. stored t s.part v (with_load (tally_in t s.part v) s.loads)) w_is in
      rw into (StandsFor-sample t samples s good stands known fine (refusal-none known h tally e l))
