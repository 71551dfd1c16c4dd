-- What is added up, read as the sums of a cluster's lists.
use Rattle.std.proofs.Common.{◌≡◌, ◌∙◌, ℕ, ◌+◌, ◌*◌, Bool, true, false, cond, ◌&&◌, eqb, List, [], ◌∷◌, length, zero, refl, sym, ap, arith, mul-add, mul-one, mul-zero, zero-add}
use Rattle.std.specs.Prelude.{slice_index, bytes_eq}
use Rattle.std.specs.List.{count_by}
use Rattle.std.proofs.lemmas.List.Sums.{sum_by-cons}
use Rattle.plan_terms.specs.Cluster.{Cluster, Lists, leads}
use Rattle.plan_terms.specs.Load.{count, leaders, load, leader_in, list_load, potential_out, sum_parts, topic_count, topic_leaders}
use Rattle.plan_terms.specs.declared.cluster.Part.{Part}
use Rattle.load_model.specs.Amounts.{amount}
use Rattle.load_model.specs.Places.{topic_at}
use Rattle.load_model.specs.declared.amounts.Amount.TheVariants.{Load, Replicas, Leaders, PotentialOut, LeaderIn, OfTopic, LedInTopic}

abbrev count_in : ℕ → List ℕ → ℕ
count_in b list = count_by (λ x. eqb x b) list

count_in-cons : (b x : ℕ) (xs : List ℕ) → count_in b (x ∷ xs) ≡ cond (eqb x b) 1 0 + count_in b xs
count_in-cons b x xs = sum_by-cons (λ y. cond (eqb y b) 1 0) x xs

even-step : (w n : ℕ) (t : Bool) → cond t w 0 + w * n ≡ w * (cond t 1 0 + n)
even-step w n true = ap (λ m. m + w * n) (sym (mul-one w)) ∙ sym (mul-add w 1 n)
even-step w n false = omega (arith, ap (λ m. w * m) (zero-add n))

-- each place carries the same
even_load : (w b : ℕ) (list : List ℕ) → list_load w w b list ≡ w * count_in b list
even_load w b [] = sym (mul-zero w)
even_load w b (x ∷ xs) = even-step w (count_in b xs) (eqb x b) ∙ ap (λ n. w * n) (sym (count_in-cons b x xs))

-- only the first place carries
first_load : (w b : ℕ) (list : List ℕ) → list_load w 0 b list ≡ cond (leads list b) w 0
first_load w b [] = refl
first_load w b (x ∷ xs) = omega arith

one_load : (b : ℕ) (list : List ℕ) → list_load 1 1 b list ≡ count_in b list
one_load b list = even_load 1 b list ∙ omega arith

pub amount-load : (c : Cluster) (r b : ℕ) (lists : Lists) → amount (Load r) c.parts b lists ≡ load c r b lists
unfolding amount
amount-load c r b lists = refl

pub amount-replicas : (ps : List Part) (b : ℕ) (lists : Lists) → length lists ≡ length ps → amount Replicas ps b lists ≡ count b lists
unfolding amount
amount-replicas ps b lists e = by ps lists e where
  by : (qs : List Part) (ls : Lists) → length ls ≡ length qs → sum_parts (λ p list. list_load 1 1 b list) qs ls ≡ count b ls
  by [] [] h = refl
  by [] (list ∷ ls) h = absurd (omega arith)
  by (q ∷ qs) [] h = absurd (omega arith)
  by (q ∷ qs) (list ∷ ls) h = omega (arith, one_load b list, by qs ls (omega arith), sum_by-cons (count_in b) list ls)

pub amount-leaders : (ps : List Part) (b : ℕ) (lists : Lists) → length lists ≡ length ps → amount Leaders ps b lists ≡ leaders b lists
unfolding amount
amount-leaders ps b lists e = by ps lists e where
  by : (qs : List Part) (ls : Lists) → length ls ≡ length qs → sum_parts (λ p list. list_load 1 0 b list) qs ls ≡ leaders b ls
  by [] [] h = refl
  by [] (list ∷ ls) h = absurd (omega arith)
  by (q ∷ qs) [] h = absurd (omega arith)
  by (q ∷ qs) (list ∷ ls) h = omega (arith, first_load 1 b list, by qs ls (omega arith), sum_by-cons (λ l. cond (leads l b) 1 0) list ls)

-- sums of what is the same
sum_parts-same : (f g : Part → List ℕ → ℕ) → ((p : Part) (list : List ℕ) → f p list ≡ g p list) → (ps : List Part) (lists : Lists) → sum_parts f ps lists ≡ sum_parts g ps lists
sum_parts-same f g same ps lists = let e : f ≡ g = (λ j p list. same p list j) in ap (λ h. sum_parts h ps lists) e

pub amount-potential_out : (c : Cluster) (b : ℕ) (lists : Lists) → amount PotentialOut c.parts b lists ≡ potential_out c b lists
unfolding amount
amount-potential_out c b lists = sum_parts-same _ _ (λ p list. even_load (slice_index p.loads.lead 2) b list) c.parts lists

pub amount-leader_in : (c : Cluster) (b : ℕ) (lists : Lists) → amount LeaderIn c.parts b lists ≡ leader_in c b lists
unfolding amount
amount-leader_in c b lists = sum_parts-same _ _ (λ p list. first_load (slice_index p.loads.lead 1) b list) c.parts lists

topic_load : (t : Bool) (b : ℕ) (list : List ℕ) → list_load (cond t 1 0) (cond t 1 0) b list ≡ cond t (count_in b list) 0
topic_load true b list = one_load b list
topic_load false b list = even_load 0 b list ∙ omega arith

pub amount-topic_count : (c : Cluster) (t b : ℕ) (lists : Lists) → amount (OfTopic t) c.parts b lists ≡ topic_count c (topic_at c.parts t) b lists
unfolding amount
amount-topic_count c t b lists = sum_parts-same _ _ (λ p list. topic_load (bytes_eq p.topic (topic_at c.parts t)) b list) c.parts lists

led_load : (t : Bool) (b : ℕ) (list : List ℕ) → list_load (cond t 1 0) 0 b list ≡ cond (t && leads list b) 1 0
led_load true b list = first_load 1 b list
led_load false b list = first_load 0 b list ∙ none (leads list b) where
  none : (l : Bool) → cond l 0 0 ≡ zero
  none true = refl
  none false = refl

pub amount-topic_leaders : (c : Cluster) (t b : ℕ) (lists : Lists) → amount (LedInTopic t) c.parts b lists ≡ topic_leaders c (topic_at c.parts t) b lists
unfolding amount
amount-topic_leaders c t b lists = sum_parts-same _ _ (λ p list. led_load (bytes_eq p.topic (topic_at c.parts t)) b list) c.parts lists
