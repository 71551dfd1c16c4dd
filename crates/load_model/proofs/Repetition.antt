-- The first repetition in a list is that among what tells its members apart.
use Rattle.std.proofs.Common.{◌≡◌, ◌∙◌, ℕ, ◌+◌, ◌<◌, Bool, true, false, cond, eqb, List, [], ◌∷◌, ◌++◌, length, get_or, take, drop, map, suc, Some, refl, sym, ap, ◌&&◌, Bor, add-one}
use Rattle.std.specs.List.{list_any}
use Rattle.std.specs.Str.{bytes_eq}
use Rattle.std.proofs.lemmas.List.{map-append, map_more, take_more, drop_more}
use Rattle.indexmap.specs.IndexSet.{insert_key}
use Rattle.plan_terms.specs.Faults.{repeat_from, first_repeat, same_id, same_part, same_topic}
use Rattle.plan_terms.specs.declared.cluster.Broker.{Broker}
use Rattle.plan_terms.specs.declared.cluster.MinLeaders.{MinLeaders}
use Rattle.plan_terms.specs.declared.cluster.Part.{Part}
use Rattle.load_model.proofs.Listed.{list_any-map}

module _ {X Y : Type 0} (same : Y → Y → Bool) (f : X → Y) where
  repeat_from-map : (seen : List X) (n : ℕ) (xs : List X) → repeat_from same (map f seen) n (map f xs) ≡ repeat_from (λ a b. same (f a) (f b)) seen n xs
  repeat_from-map seen n [] = refl
  repeat_from-map seen n (x ∷ xs) =
      ap (λ b. cond b (Some n) (repeat_from same (map f seen ++ f x ∷ []) (suc n) (map f xs))) (list_any-map (same (f x)) f seen)
      ∙ ap (λ ys. cond (list_any (λ b. same (f x) (f b)) seen) (Some n) (repeat_from same ys (suc n) (map f xs))) (sym (map-append f seen (x ∷ [])))
      ∙ ap (λ o. cond (list_any (λ b. same (f x) (f b)) seen) (Some n) o) (repeat_from-map (seen ++ x ∷ []) (suc n) xs)

  pub first_repeat-map : (xs : List X) → first_repeat same (map f xs) ≡ first_repeat (λ a b. same (f a) (f b)) xs
  first_repeat-map xs = repeat_from-map [] 0 xs

-- what tells a partition from others
abbrev pub Key : Type 0
Key = ℕ × List ℕ

abbrev pub key : Part → Key
key p = (p.number, p.topic)

abbrev pub same_key : Key → Key → Bool
same_key a b = eqb a.0 b.0 && bytes_eq a.1 b.1

-- a loop over a list, at the place of x
module _ {X : Type 0} (same : X → X → Bool) (xs : List X) (i : ℕ) (x : X) (l : i < length xs) (at : x ≡ get_or xs i x) where
  opened : repeat_from same (take i xs) i (drop i xs) ≡ cond (list_any (same x) (take i xs)) (Some i) (repeat_from same (take i xs ++ x ∷ []) (suc i) (drop (suc i) xs))
  opened = let cut : drop i xs ≡ x ∷ drop (suc i) xs = rw (← at, add-one i) at (drop_more xs i x l) in ap (repeat_from same (take i xs) i) cut

  pub repeat_from-here : list_any (same x) (take i xs) ≡ true → repeat_from same (take i xs) i (drop i xs) ≡ Some i
  repeat_from-here h = opened ∙ ap (λ b. cond b (Some i) (repeat_from same (take i xs ++ x ∷ []) (suc i) (drop (suc i) xs))) h

  pub repeat_from-next : list_any (same x) (take i xs) ≡ false → repeat_from same (take (i + 1) xs) (i + 1) (drop (i + 1) xs) ≡ repeat_from same (take i xs) i (drop i xs)
  repeat_from-next h =
      let seen : take (i + 1) xs ≡ take i xs ++ x ∷ [] = rw (← at) at (take_more xs i x l) in
      rw (seen, add-one i) (sym (opened ∙ ap (λ b. cond b (Some i) (repeat_from same (take i xs ++ x ∷ []) (suc i) (drop (suc i) xs))) h))

  -- the images of those seen, with that of x
  pub images_more : {Y : Type 0} (f : X → Y) → map f (take (i + 1) xs) ≡ map f (take i xs) ++ f x ∷ []
  images_more f = rw (← at) at (map_more f xs i x l)

-- a key that the set lacks comes last
insert_key-new : {K : Type 0} (eq : K → K → Bool) (ks : List K) (k : K) → list_any (eq k) ks ≡ false → insert_key eq ks k ≡ ks ++ k ∷ []
insert_key-new eq ks k h = ap (λ b. cond b ks (ks ++ k ∷ [])) h

-- an id that the set has, or lacks, among the brokers seen
pub any_id : (b : Broker) (ids : List ℕ) (bs : List Broker) → ids ≡ map (λ b. b.id) bs → list_any (eqb b.id) ids ≡ list_any (same_id b) bs
any_id b ids bs e = ap (list_any (eqb b.id)) e ∙ list_any-map (eqb b.id) (λ (x : Broker). x.id) bs

pub ids_more : (ids : List ℕ) (bs : List Broker) (i : ℕ) (b : Broker) → i < length bs → b ≡ get_or bs i b → ids ≡ map (λ b. b.id) (take i bs) → list_any (eqb b.id) ids ≡ false
    → insert_key eqb ids b.id ≡ map (λ b. b.id) (take (i + 1) bs)
ids_more ids bs i b l at e h =
    insert_key-new eqb ids b.id h ∙ ap (λ ys. ys ++ b.id ∷ []) e ∙ sym (images_more same_id bs i b l at (λ (x : Broker). x.id))

-- a key that the set has, or lacks, among the partitions seen
abbrev pub Kept : Type 0
Kept = ℕ × Bor (List ℕ)

abbrev pub seen_key : Kept → Key
seen_key k = (k.0, k.1.now)

abbrev pub same_kept : Kept → Kept → Bool
same_kept a b = eqb a.0 b.0 && bytes_eq a.1.now b.1.now

pub any_key : (k : Kept) (ks : List Kept) (p : Part) (ps : List Part) → seen_key k ≡ key p → map seen_key ks ≡ map key ps
    → list_any (same_kept k) ks ≡ list_any (same_part p) ps
any_key k ks p ps e h =
    sym (list_any-map (same_key (seen_key k)) seen_key ks) ∙ ap (list_any (same_key (seen_key k))) h ∙ ap (λ q. list_any (same_key q) (map key ps)) e ∙ list_any-map (same_key (key p)) key ps

pub keys_more : (ks : List Kept) (ps : List Part) (i : ℕ) (p : Part) (k : Kept) → i < length ps → p ≡ get_or ps i p → seen_key k ≡ key p → map seen_key ks ≡ map key (take i ps) → list_any (same_kept k) ks ≡ false
    → map seen_key (insert_key same_kept ks k) ≡ map key (take (i + 1) ps)
keys_more ks ps i p k l at is e h =
    ap (map seen_key) (insert_key-new same_kept ks k h) ∙ map-append seen_key ks (k ∷ []) ∙ ap (λ ys. ys ++ seen_key k ∷ []) e ∙ ap (λ y. map key (take i ps) ++ y ∷ []) is
    ∙ sym (images_more same_part ps i p l at key)

-- a topic that the set has, or lacks, among the least leaders seen
abbrev pub same_text : Bor (List ℕ) → Bor (List ℕ) → Bool
same_text a b = bytes_eq a.now b.now

pub any_topic : (k : Bor (List ℕ)) (ks : List (Bor (List ℕ))) (m : MinLeaders) (ms : List MinLeaders) → k.now ≡ m.topic → map (λ k. k.now) ks ≡ map (λ m. m.topic) ms
    → list_any (same_text k) ks ≡ list_any (same_topic m) ms
any_topic k ks m ms e h =
    sym (list_any-map (bytes_eq k.now) (λ (k : Bor (List ℕ)). k.now) ks) ∙ ap (list_any (bytes_eq k.now)) h ∙ ap (λ (t : List ℕ). list_any (bytes_eq t) (map (λ m. m.topic) ms)) e
    ∙ list_any-map (bytes_eq m.topic) (λ (m : MinLeaders). m.topic) ms

pub topics_more : (ks : List (Bor (List ℕ))) (ms : List MinLeaders) (i : ℕ) (m : MinLeaders) (k : Bor (List ℕ)) → i < length ms → m ≡ get_or ms i m → k.now ≡ m.topic
    → map (λ k. k.now) ks ≡ map (λ m. m.topic) (take i ms) → list_any (same_text k) ks ≡ false
    → map (λ k. k.now) (insert_key same_text ks k) ≡ map (λ m. m.topic) (take (i + 1) ms)
topics_more ks ms i m k l at is e h =
    ap (map (λ k. k.now)) (insert_key-new same_text ks k h) ∙ map-append (λ (k : Bor (List ℕ)). k.now) ks (k ∷ []) ∙ ap (λ ys. ys ++ k.now ∷ []) e
    ∙ ap (λ (y : List ℕ). map (λ m. m.topic) (take i ms) ++ y ∷ []) is ∙ sym (images_more same_topic ms i m l at (λ (m : MinLeaders). m.topic))
