-- Partitions with their loads, one more at a time.
use Rattle.std.proofs.Common.{◌≡◌, ◌∙◌, ℕ, ◌+◌, ◌<◌, ◌≤◌, zero, suc, List, [], ◌∷◌, ◌++◌, length, get_or, take, drop, false, Option, Some, None, refl, ap, sym, arith, add-zero, append_assoc, append-nil, length-append, length-drop}
use Rattle.std.proofs.lemmas.List.{drop_all, drop_more, length-take-le, take_all, take_more}
use Rattle.plan_terms.specs.Cluster.{Cluster}
use Rattle.plan_terms.specs.declared.cluster.Loads.{Loads}
use Rattle.plan_terms.specs.declared.cluster.Part.{Part}
use Rattle.load_model.specs.Changed.{with_loads}
use Rattle.plan_terms.specs.declared.settings.Sample.{Sample}
use Rattle.plan_terms.specs.declared.settings.WindowRules.{WindowRules}
use Rattle.metric_windows.specs.Samples.{load_of}
use Rattle.core_terms.specs.Input.{loaded_from, loaded_one}
use Rattle.core_cases.specs.Changes.{loaded_at}

-- the partition behind so many others gets the loads
with_loads-at : (xs : List Part) (p : Part) (ys : List Part) (l : Loads) → with_loads (xs ++ p ∷ ys) (length xs) l ≡ xs ++ record p { loads = l } ∷ ys
with_loads-at [] p ys l = refl
with_loads-at (x ∷ xs) p ys l = ap (λ (r : List Part). x ∷ r) (with_loads-at xs p ys l)

loaded_at-at : (xs : List Part) (p : Part) (ys : List Part) (o : Option Loads) → loaded_at (xs ++ p ∷ ys) (length xs) o ≡ xs ++ loaded_one o p ∷ ys
loaded_at-at xs p ys None = refl
loaded_at-at xs p ys (Some l) = with_loads-at xs p ys l

module _ (loads : ℕ → Option Loads) where
  pub length-loaded_from : (i : ℕ) (ps : List Part) → length (loaded_from loads i ps) ≡ length ps
  length-loaded_from i [] = refl
  length-loaded_from i (p ∷ ps) = ap suc (length-loaded_from (suc i) ps)

  -- one partition more at the end
  loaded_from-push : (i : ℕ) (xs : List Part) (p : Part) → loaded_from loads i (xs ++ p ∷ []) ≡ loaded_from loads i xs ++ loaded_one (loads (i + length xs)) p ∷ []
  loaded_from-push i [] p = rw add-zero refl
  loaded_from-push i (x ∷ xs) p = ap (λ (r : List Part). loaded_one (loads i) x ∷ r) (loaded_from-push (suc i) xs p ∙ ap (λ n. loaded_from loads (suc i) xs ++ loaded_one (loads n) p ∷ []) (omega arith))

  -- the loads of the partition at a place, behind those before it
  pub loaded_next : (ps : List Part) (i : ℕ) (d : Part) → i < length ps
      → loaded_at (loaded_from loads 0 (take i ps) ++ drop i ps) i (loads i) ≡ loaded_from loads 0 (take (i + 1) ps) ++ drop (i + 1) ps
  loaded_next ps i d h =
      let p : Part = get_or ps i d in
      let front : List Part = loaded_from loads 0 (take i ps) in
      let long : length front ≡ i = length-loaded_from 0 (take i ps) ∙ length-take-le i ps (omega arith) in
      let rest : List Part = drop (i + 1) ps in
      let same : 0 + length (take i ps) ≡ i = omega (arith, length-take-le i ps (omega arith)) in
      let here : loaded_at (front ++ drop i ps) i (loads i) ≡ front ++ loaded_one (loads i) p ∷ rest =
      ap (λ (tail : List Part). loaded_at (front ++ tail) i (loads i)) (drop_more ps i d h)
      ∙ ap (λ n. loaded_at (front ++ p ∷ rest) n (loads i)) (sym long) ∙ loaded_at-at front p rest (loads i) in
      let grown : loaded_from loads 0 (take (i + 1) ps) ≡ front ++ loaded_one (loads i) p ∷ [] =
      ap (loaded_from loads 0) (take_more ps i d h) ∙ loaded_from-push 0 (take i ps) p ∙ ap (λ n. front ++ loaded_one (loads n) p ∷ []) same in
      here ∙ sym (append_assoc front (loaded_one (loads i) p ∷ []) rest) ∙ ap (λ (l : List Part). l ++ rest) (sym grown)

-- loads change no number of partitions
pub length-with_loads : (ps : List Part) (i : ℕ) (l : Loads) → length (with_loads ps i l) ≡ length ps
length-with_loads [] i l = refl
length-with_loads (p ∷ ps) zero l = refl
length-with_loads (p ∷ ps) (suc i) l = ap suc (length-with_loads ps i l)

pub length-loaded_at : (ps : List Part) (i : ℕ) (o : Option Loads) → length (loaded_at ps i o) ≡ length ps
length-loaded_at ps i None = refl
length-loaded_at ps i (Some l) = length-with_loads ps i l

-- what stands where no partition is
abbrev pub no_part : Part
no_part = record { topic = []; number = 0; loads = record { lead = []; follow = [] }; excluded = false; chunks = 0 }

-- a front with its loads, and the rest, are as many as before
pub length-front : (loads : ℕ → Option Loads) (ps : List Part) (i : ℕ) → i ≤ length ps → length (loaded_from loads 0 (take i ps) ++ drop i ps) ≡ length ps
length-front loads ps i h =
    length-append (loaded_from loads 0 (take i ps)) (drop i ps) ∙ ap (λ n. n + length (drop i ps)) (length-loaded_from loads 0 (take i ps) ∙ length-take-le i ps h)
    ∙ omega (arith, length-drop i ps)

-- one partition more has its loads
pub loaded-step : (c k new : Cluster) (rules : WindowRules) (samples : List Sample) (i : ℕ)
    → k ≡ record c { parts = loaded_from (load_of rules samples) 0 (take i c.parts) ++ drop i c.parts }
    → new ≡ record k { parts = loaded_at k.parts i (load_of rules samples i) } → i < length c.parts
    → new ≡ record c { parts = loaded_from (load_of rules samples) 0 (take (i + 1) c.parts) ++ drop (i + 1) c.parts }
loaded-step c k new rules samples i before step h =
    step ∙ ap (λ (x : Cluster). record x { parts = loaded_at x.parts i (load_of rules samples i) }) before
    ∙ ap (λ (ps : List Part). record c { parts = ps }) (loaded_next (load_of rules samples) c.parts i no_part h)

-- at the end all have theirs
pub loaded-all : (c k : Cluster) (loads : ℕ → Option Loads) (i : ℕ) → i ≡ length c.parts → k ≡ record c { parts = loaded_from loads 0 (take i c.parts) ++ drop i c.parts }
    → k ≡ record c { parts = loaded_from loads 0 c.parts }
loaded-all c k loads i end before =
    before ∙ ap (λ n. record c { parts = loaded_from loads 0 (take n c.parts) ++ drop n c.parts }) end ∙ ap (λ (ps : List Part). record c { parts = ps }) whole
  where
    whole : loaded_from loads 0 (take (length c.parts) c.parts) ++ drop (length c.parts) c.parts ≡ loaded_from loads 0 c.parts
    whole =
        ap (λ (xs : List Part). loaded_from loads 0 xs ++ drop (length c.parts) c.parts) (take_all (length c.parts) c.parts (omega arith))
        ∙ ap (λ (xs : List Part). loaded_from loads 0 c.parts ++ xs) (drop_all (length c.parts) c.parts (omega arith)) ∙ append-nil (loaded_from loads 0 c.parts)
