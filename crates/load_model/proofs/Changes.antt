-- A change of one member keeps the case.
use Rattle.std.proofs.Common.{◌≡◌, ◌∙◌, ℕ, ◌<◌, Bool, false, List, [], ◌∷◌, length, get_or, set, map, suc, zero, refl, sym, ap, arith, ◌||◌, nat_le, nat_lt, slice_index, ◌^◌, eqb, cond, ◌+◌, ◌≤◌, true, zero-add}
use Rattle.std.specs.List.{list_any, All, count_by}
use Rattle.std.proofs.lemmas.Bool.{or_from}
use Rattle.std.proofs.lemmas.Bool.Decides.{nat_tests}
use Rattle.std.proofs.lemmas.List.{length-map}
use Rattle.std.proofs.lemmas.List.Folds.{list_any_none}
use Rattle.std.proofs.lemmas.List.Sums.{sum_by-cons, sum_by-set}
use Rattle.plan_terms.specs.Faults.{case_fault, broken_limit, broker_repeat, part_repeat, topics, is_heavy, is_large, has_bad_chunks, first_repeat, same_id, same_part, distinct_from}
use Rattle.plan_terms.proofs.FaultLemmas.{WithinLimits-faultless}
use Rattle.plan_terms.specs.States.{is_new}
use Rattle.plan_terms.specs.declared.cluster.Broker.{Broker}
use Rattle.plan_terms.specs.declared.cluster.BrokerState.{BrokerState}
use Rattle.plan_terms.specs.declared.cluster.BrokerState.TheVariants.{Alive}
use Rattle.plan_terms.specs.declared.cluster.Loads.{Loads}
use Rattle.plan_terms.specs.declared.cluster.Options.{Options}
use Rattle.plan_terms.specs.declared.cluster.Part.{Part}
use Rattle.load_model.specs.Changed.{with_state, with_loads, with_excluded}
use Rattle.load_model.specs.Places.{IsIndexed, AreTopicPlaces}
use Rattle.load_model.proofs.Listed.{list_any-map, or_parts}
use Rattle.load_model.proofs.Repetition.{key, same_key, first_repeat-map}

-- a write of the changed member is the change
pub set-with_state : (bs : List Broker) (i : ℕ) (b : Broker) (s : BrokerState) → i < length bs → b ≡ get_or bs i b → set bs i (record b { state = s }) ≡ with_state bs i s
set-with_state [] i b s l is = absurd (omega arith)
set-with_state (x ∷ xs) zero b s l is = ap (λ (y : Broker). record y { state = s } ∷ xs) is
set-with_state (x ∷ xs) (suc i) b s l is = ap (λ ys. x ∷ ys) (set-with_state xs i b s (omega arith) is)

pub set-with_loads : (ps : List Part) (i : ℕ) (p : Part) (l : Loads) → i < length ps → p ≡ get_or ps i p → set ps i (record p { loads = l }) ≡ with_loads ps i l
set-with_loads [] i p l h is = absurd (omega arith)
set-with_loads (x ∷ xs) zero p l h is = ap (λ (y : Part). record y { loads = l } ∷ xs) is
set-with_loads (x ∷ xs) (suc i) p l h is = ap (λ ys. x ∷ ys) (set-with_loads xs i p l (omega arith) is)

pub set-with_excluded : (ps : List Part) (i : ℕ) (p : Part) (e : Bool) → i < length ps → p ≡ get_or ps i p → set ps i (record p { excluded = e }) ≡ with_excluded ps i e
set-with_excluded [] i p e h is = absurd (omega arith)
set-with_excluded (x ∷ xs) zero p e h is = ap (λ (y : Part). record y { excluded = e } ∷ xs) is
set-with_excluded (x ∷ xs) (suc i) p e h is = ap (λ ys. x ∷ ys) (set-with_excluded xs i p e (omega arith) is)

-- what is told of each broker but its state stays
module _ {Y : Type 0} (f : Broker → Y) (s : BrokerState) (stays : (b : Broker) → f (record b { state = s }) ≡ f b) where
  map-with_state : (bs : List Broker) (i : ℕ) → map f (with_state bs i s) ≡ map f bs
  map-with_state [] i = refl
  map-with_state (b ∷ bs) zero = ap (λ y. y ∷ map f bs) (stays b)
  map-with_state (b ∷ bs) (suc i) = ap (λ ys. f b ∷ ys) (map-with_state bs i)

module _ {Y : Type 0} (f : Part → Y) (l : Loads) (stays : (p : Part) → f (record p { loads = l }) ≡ f p) where
  map-with_loads : (ps : List Part) (i : ℕ) → map f (with_loads ps i l) ≡ map f ps
  map-with_loads [] i = refl
  map-with_loads (p ∷ ps) zero = ap (λ y. y ∷ map f ps) (stays p)
  map-with_loads (p ∷ ps) (suc i) = ap (λ ys. f p ∷ ys) (map-with_loads ps i)

module _ {Y : Type 0} (f : Part → Y) (e : Bool) (stays : (p : Part) → f (record p { excluded = e }) ≡ f p) where
  map-with_excluded : (ps : List Part) (i : ℕ) → map f (with_excluded ps i e) ≡ map f ps
  map-with_excluded [] i = refl
  map-with_excluded (p ∷ ps) zero = ap (λ y. y ∷ map f ps) (stays p)
  map-with_excluded (p ∷ ps) (suc i) = ap (λ ys. f p ∷ ys) (map-with_excluded ps i)

abbrev large_cap : List ℕ → Bool
large_cap cap = list_any (λ x. nat_le 1099511627776 x) cap

abbrev bad_number : ℕ → Bool
bad_number n = eqb n 0 || nat_lt 1000 n

any-same : {X Y : Type 0} (p : Y → Bool) (f : X → Y) (xs ys : List X) → map f xs ≡ map f ys → list_any (λ x. p (f x)) xs ≡ list_any (λ x. p (f x)) ys
any-same p f xs ys e = sym (list_any-map p f xs) ∙ ap (list_any p) e ∙ list_any-map p f ys

repeat-same : {X Y : Type 0} (same : Y → Y → Bool) (f : X → Y) (xs ys : List X) → map f xs ≡ map f ys → first_repeat (λ a b. same (f a) (f b)) xs ≡ first_repeat (λ a b. same (f a) (f b)) ys
repeat-same same f xs ys e = sym (first_repeat-map same f xs) ∙ ap (first_repeat same) e ∙ first_repeat-map same f ys

length-same : {X Y : Type 0} (f : X → Y) (xs ys : List X) → map f xs ≡ map f ys → length xs ≡ length ys
length-same f xs ys e = sym (length-map xs f) ∙ ap length e ∙ length-map ys f

-- brokers with the same ids and capacities have the same fault
fault-brokers : (bs cs : List Broker) (ps : List Part) → map (λ b. b.id) bs ≡ map (λ b. b.id) cs → map (λ b. b.cap) bs ≡ map (λ b. b.cap) cs → case_fault bs ps ≡ case_fault cs ps
unfolding case_fault broken_limit broker_repeat
fault-brokers bs cs ps ids caps =
    let long = length-same (λ (b : Broker). b.id) bs cs ids in
    let large : list_any is_large bs ≡ list_any is_large cs = any-same large_cap (λ (b : Broker). b.cap) bs cs caps in
    let repeat : first_repeat same_id bs ≡ first_repeat same_id cs = repeat-same eqb (λ (b : Broker). b.id) bs cs ids in
    rw (long, large, repeat, ids) refl

-- what tells of a fault is the same of both partitions
record SameParts (ps qs : List Part) : Type 0 where
  keys : map key ps ≡ map key qs
  topics_same : map (λ p. p.topic) ps ≡ map (λ p. p.topic) qs
  chunks : map (λ p. p.chunks) ps ≡ map (λ p. p.chunks) qs
  heavy : list_any is_heavy ps ≡ list_any is_heavy qs

topics-same : (ps qs : List Part) → map (λ p. p.topic) ps ≡ map (λ p. p.topic) qs → topics ps ≡ topics qs
unfolding topics
topics-same ps qs e = ap (distinct_from []) e

fault-parts : (bs : List Broker) (ps qs : List Part) → SameParts ps qs → case_fault bs ps ≡ case_fault bs qs
unfolding case_fault broken_limit part_repeat
fault-parts bs ps qs h =
    let long = length-same (λ (p : Part). p.topic) ps qs h.topics_same in
    let names = topics-same ps qs h.topics_same in
    let bad : list_any has_bad_chunks ps ≡ list_any has_bad_chunks qs = any-same bad_number (λ (p : Part). p.chunks) ps qs h.chunks in
    let repeat : first_repeat same_part ps ≡ first_repeat same_part qs = repeat-same same_key key ps qs h.keys in
    rw (long, names, h.heavy, bad, repeat) refl

places-same : (ps qs : List Part) (places : List ℕ) (n : ℕ) → map (λ p. p.topic) ps ≡ map (λ p. p.topic) qs → AreTopicPlaces qs places n → AreTopicPlaces ps places n
places-same ps qs places n e h =
    let long = length-same (λ (p : Part). p.topic) ps qs e in
    let names = topics-same ps qs e in
    record {
      count_is = rw names h.count_is;
      one_each = rw long h.one_each;
      each = λ p l. rw (names, e) (h.each p (rw long at l));
    }

IsIndexed-parts : (bs : List Broker) (ps qs : List Part) (o : Options) (ids places : List ℕ) (n added : ℕ) → SameParts ps qs → All (λ p. slice_index p.loads.follow 2 ≡ 0) ps
    → IsIndexed (record { brokers = bs; parts = qs; options = o }) ids places n added → IsIndexed (record { brokers = bs; parts = ps; options = o }) ids places n added
IsIndexed-parts bs ps qs o ids places n added same silent h = record {
  case_is = record { faultless = fault-parts bs ps qs same ∙ h.case_is.faultless; topics_once = h.case_is.topics_once; followers = silent };
  ids_are = h.ids_are;
  places_are = places-same ps qs places n same.topics_same h.places_are;
  added_are = h.added_are;
}

-- how many brokers are being added, with one state changed
new-with_state : (bs : List Broker) (i : ℕ) (b : Broker) (s : BrokerState) → i < length bs → b ≡ get_or bs i b
    → count_by (λ x. is_new x.state) (with_state bs i s) + cond (is_new b.state) 1 0 ≡ count_by (λ x. is_new x.state) bs + cond (is_new s) 1 0
new-with_state bs i b s l is = rw (← is, set-with_state bs i b s l is) at (sum_by-set (λ (x : Broker). cond (is_new x.state) 1 0) bs i (record b { state = s }) b l)

pub IsIndexed-with_state : (bs : List Broker) (ps : List Part) (o : Options) (ids places : List ℕ) (n added later : ℕ) (i : ℕ) (b x : Broker) (s : BrokerState) → i < length bs → b ≡ get_or bs i b
    → x ≡ get_or bs i x → later + cond (is_new x.state) 1 0 ≡ added + cond (is_new s) 1 0
    → IsIndexed (record { brokers = bs; parts = ps; options = o }) ids places n added
    → IsIndexed (record { brokers = set bs i (record b { state = s }); parts = ps; options = o }) ids places n later
IsIndexed-with_state bs ps o ids places n added later i b x s l is read counted h =
    let same_ids = map-with_state (λ (x : Broker). x.id) s (λ x. refl) bs i in
    let same_caps = map-with_state (λ (x : Broker). x.cap) s (λ x. refl) bs i in
    rw (set-with_state bs i b s l is) (record {
      case_is = record { faultless = fault-brokers (with_state bs i s) bs ps same_ids same_caps ∙ h.case_is.faultless; topics_once = h.case_is.topics_once; followers = h.case_is.followers };
      ids_are = h.ids_are ∙ sym same_ids;
      places_are = h.places_are;
      added_are = omega (arith, new-with_state bs i x s l read, h.added_are, counted);
    })

excluded-silent : (ps : List Part) (i : ℕ) (e : Bool) → All (λ p. slice_index p.loads.follow 2 ≡ 0) ps → All (λ p. slice_index p.loads.follow 2 ≡ 0) (with_excluded ps i e)
excluded-silent [] i e h k d l = h k d l
excluded-silent (p ∷ ps) zero e h zero d l = h 0 d (omega arith)
excluded-silent (p ∷ ps) zero e h (suc k) d l = h (suc k) d l
excluded-silent (p ∷ ps) (suc i) e h zero d l = h 0 d (omega arith)
excluded-silent (p ∷ ps) (suc i) e h (suc k) d l = excluded-silent ps i e (λ j x m. h (suc j) x (omega arith)) k d (omega arith)

abbrev heavy_loads : Loads → Bool
heavy_loads l = list_any (λ x. nat_le 4294967296 x) l.lead || list_any (λ x. nat_le 4294967296 x) l.follow

pub IsIndexed-with_excluded : (bs : List Broker) (ps : List Part) (o : Options) (ids places : List ℕ) (n added : ℕ) (i : ℕ) (p : Part) (e : Bool) → i < length ps → p ≡ get_or ps i p
    → IsIndexed (record { brokers = bs; parts = ps; options = o }) ids places n added
    → IsIndexed (record { brokers = bs; parts = set ps i (record p { excluded = e }); options = o }) ids places n added
IsIndexed-with_excluded bs ps o ids places n added i p e l is h =
    let same_loads = map-with_excluded (λ (x : Part). x.loads) e (λ x. refl) ps i in
    rw (set-with_excluded ps i p e l is) (IsIndexed-parts bs (with_excluded ps i e) ps o ids places n added (record {
      keys = map-with_excluded key e (λ x. refl) ps i;
      topics_same = map-with_excluded (λ (x : Part). x.topic) e (λ x. refl) ps i;
      chunks = map-with_excluded (λ (x : Part). x.chunks) e (λ x. refl) ps i;
      heavy = any-same heavy_loads (λ (x : Part). x.loads) (with_excluded ps i e) ps same_loads;
    }) (excluded-silent ps i e h.case_is.followers) h)

loads-silent : (ps : List Part) (i : ℕ) (l : Loads) → slice_index l.follow 2 ≡ 0 → All (λ p. slice_index p.loads.follow 2 ≡ 0) ps → All (λ p. slice_index p.loads.follow 2 ≡ 0) (with_loads ps i l)
loads-silent [] i l z h k d m = h k d m
loads-silent (p ∷ ps) zero l z h zero d m = z
loads-silent (p ∷ ps) zero l z h (suc k) d m = h (suc k) d m
loads-silent (p ∷ ps) (suc i) l z h zero d m = h 0 d (omega arith)
loads-silent (p ∷ ps) (suc i) l z h (suc k) d m = loads-silent ps i l z (λ j x q. h (suc j) x (omega arith)) k d (omega arith)

all-light : (xs : List ℕ) → All (λ x. x < 2 ^ 32) xs → list_any (λ x. nat_le 4294967296 x) xs ≡ false
all-light xs h = list_any_none (λ x. nat_le 4294967296 x) xs (λ k d l. light_one (get_or xs k d) (h k d l)) where
  light_one : (x : ℕ) → x < 2 ^ 32 → nat_le 4294967296 x ≡ false
  light_one x l = grind (arith, nat_tests)

loads-light : (ps : List Part) (i : ℕ) (l : Loads) → heavy_loads l ≡ false → list_any is_heavy ps ≡ false → list_any is_heavy (with_loads ps i l) ≡ false
loads-light [] i l z h = refl
loads-light (p ∷ ps) zero l z h = or_from _ _ z (or_parts (is_heavy p) (list_any is_heavy ps) h).1
loads-light (p ∷ ps) (suc i) l z h = let both = or_parts (is_heavy p) (list_any is_heavy ps) h in or_from _ _ both.0 (loads-light ps i l z both.1)

pub IsIndexed-with_loads : (bs : List Broker) (ps : List Part) (o : Options) (ids places : List ℕ) (n added : ℕ) (i : ℕ) (p : Part) (l : Loads) → i < length ps → p ≡ get_or ps i p
    → All (λ x. x < 2 ^ 32) l.lead → All (λ x. x < 2 ^ 32) l.follow → slice_index l.follow 2 ≡ 0
    → IsIndexed (record { brokers = bs; parts = ps; options = o }) ids places n added
    → IsIndexed (record { brokers = bs; parts = set ps i (record p { loads = l }); options = o }) ids places n added
IsIndexed-with_loads bs ps o ids places n added i p l within is lead follow silent h =
    let light = (WithinLimits-faultless bs ps h.case_is.faultless).light in
    rw (set-with_loads ps i p l within is) (IsIndexed-parts bs (with_loads ps i l) ps o ids places n added (record {
      keys = map-with_loads key l (λ x. refl) ps i;
      topics_same = map-with_loads (λ (x : Part). x.topic) l (λ x. refl) ps i;
      chunks = map-with_loads (λ (x : Part). x.chunks) l (λ x. refl) ps i;
      heavy = loads-light ps i l (or_from _ _ (all-light l.lead lead) (all-light l.follow follow)) light ∙ sym light;
    }) (loads-silent ps i l silent h.case_is.followers) h)

-- a broker that is being added is counted
pub new-counted : (bs : List Broker) (i : ℕ) (b : Broker) → i < length bs → b ≡ get_or bs i b → cond (is_new b.state) 1 0 ≤ count_by (λ x. is_new x.state) bs
new-counted bs i b l is = omega (arith, new-with_state bs i b Alive l is)

-- some broker is being added exactly where their number isn't 0
pub any-counted : {X : Type 0} (p : X → Bool) (xs : List X) → list_any p xs ≡ nat_lt 0 (count_by p xs)
any-counted p [] = refl
any-counted p (x ∷ xs) = elim (p x) as (λ b. p x ≡ b → (b || list_any p xs) ≡ nat_lt 0 (count_by p (x ∷ xs))) [
  | true ↦ λ e. rw (sum_by-cons (λ y. cond (p y) 1 0) x xs, e) (grind (arith, nat_tests))
  | false ↦ λ e. rw (sum_by-cons (λ y. cond (p y) 1 0) x xs, e, zero-add) (any-counted p xs)
] refl
