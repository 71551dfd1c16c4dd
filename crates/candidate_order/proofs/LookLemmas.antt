-- What the weights and rooms of goals say of a move, goal by goal and of all together.
use Rattle.std.specs.Prelude.{IfSome, IfNone, IsTrue, option_map, Option, Some, None, Bool}
use Rattle.std.proofs.Common.{◌≡◌, ℕ, ◌<◌, ◌≤◌, List, [], ◌∷◌, length, map, get_or, suc, arith, refl, ◌∙◌, sym, ap, false, true, inl, inr}
use Rattle.std.specs.List.{All}
use Rattle.std.proofs.lemmas.List.{get_or-map, length-map}
use Rattle.std.proofs.lemmas.List.Elements.{All-map}
use Rattle.plan_terms.specs.Cluster.{Cluster, Lists, list_of, leads, some_broker}
use Rattle.plan_terms.specs.Fits.{fits}
use Rattle.plan_terms.specs.Goal.{Meaning, Accepts, Lessens}
use Rattle.plan_terms.specs.Legal.{any_new, is_legal, is_lost}
use Rattle.plan_terms.specs.States.{is_new}
use Rattle.plan_terms.specs.Trace.{AllAccept}
use Rattle.plan_terms.specs.declared.actions.Action.{Action}
use Rattle.plan_terms.specs.declared.actions.Action.TheVariants.{Move}
use Rattle.plan_terms.specs.declared.cluster.Part.{Part}
use Rattle.goal_terms.specs.Quantity.{Weights, part_weight, total}
use Rattle.goal_terms.specs.Rooms.{RoomsDecide, free}
use Rattle.goal_terms.specs.declared.room.Room.{Room}
use Rattle.std.proofs.Math.Bool.{or-false}
use Rattle.std.proofs.lemmas.Bool.{cases_eq, ne_eqb, false≢true, and_from, and_parts, or_parts, not-false, not-true}
use Rattle.goal_terms.specs.Pairs.{ColdPairs, IdleTrades, giver, taker}
use Rattle.goal_terms.proofs.PairLemmas.{trade-from, trade-to}
use Rattle.goal_terms.specs.declared.heat.Heat.{Heat}
use Rattle.goal_terms.specs.declared.heat.Heat.TheVariants as heat
use Rattle.candidate_order.specs.Looks.{look_out, look_back, BothStay, look_weight, look_whole, look_room, Passes, is_cold, is_above, is_below, may_help, helps_below_alone, weighs_nothing}

-- what a goal answers for its weight, and for a room
pub weight-some : (o : Option Weights) (parts : List Part) (p : ℕ) (first : Bool) (n : ℕ) → Some n ≡ option_map (λ w. part_weight w parts p first) o → n ≡ look_weight o parts p first
weight-some None parts p first n e = absurd cc
weight-some (Some w) parts p first n e = cc

pub weight-none : (o : Option Weights) (parts : List Part) (p : ℕ) (first : Bool) → None ≡ option_map (λ w. part_weight w parts p first) o → 0 ≡ look_weight o parts p first
weight-none None parts p first e = refl
weight-none (Some w) parts p first e = absurd cc

pub whole-some : (o : Option Weights) (parts : List Part) (lists : Lists) (n : ℕ) → Some n ≡ option_map (λ w. total w parts lists) o → n ≡ look_whole o parts lists
whole-some None parts lists n e = absurd cc
whole-some (Some w) parts lists n e = cc

pub whole-none : (o : Option Weights) (parts : List Part) (lists : Lists) → None ≡ option_map (λ w. total w parts lists) o → 0 ≡ look_whole o parts lists
whole-none None parts lists e = refl
whole-none (Some w) parts lists e = absurd cc

pub whole-if : (o : Option Weights) (parts : List Part) (lists : Lists) (n : ℕ) → n ≡ look_whole o parts lists → IfSome o (λ w. n ≡ total w parts lists)
whole-if None parts lists n e = tt
whole-if (Some w) parts lists n e = e

pub room-some : (o : Option Weights) (r s : Room) → Some s ≡ option_map (λ _. r) o → s ≡ look_room o r
room-some None r s e = absurd cc
room-some (Some w) r s e = cc

pub room-none : (o : Option Weights) (r : Room) → None ≡ option_map (λ _. r) o → free ≡ look_room o r
room-none None r e = refl
room-none (Some w) r e = absurd cc

-- rooms that are the same for each goal
room-same : (o : Option Weights) (r s : Room) → r ≡ s → look_room o r ≡ look_room o s
room-same None r s e = refl
room-same (Some w) r s e = e

pub rooms-same : {X : Type 0} (weighs : X → Option Weights) (f h : X → Room) (xs : List X) → All (λ x. f x ≡ h x) xs
    → map (λ x. look_room (weighs x) (f x)) xs ≡ map (λ x. look_room (weighs x) (h x)) xs
rooms-same weighs f h [] e = refl
rooms-same weighs f h (x ∷ xs) e =
    let here = room-same (weighs x) (f x) (h x) (e 0 x (omega arith)) in
    let rest = rooms-same weighs f h xs (λ k d l. e (suc k) d (omega arith)) in
    cc

module _ (parts : List Part) (lists : Lists) where
  -- the weight of the place that a move takes along
  abbrev moved : Option Weights → ℕ → ℕ → ℕ
  moved o p a = look_weight o parts p (leads (list_of lists p) a)

  module _ (p a b : ℕ) (fit : IsTrue (fits lists (Move p a b))) where
    -- a goal with a quantity accepts a move where the weight passes
    passes-accepts : (o : Option Weights) (m : Meaning) (room : ℕ → Room) → IfSome o (RoomsDecide m room parts lists)
        → Passes (moved o p a) (look_room o (room a)) (look_room o (room b)) → IfSome o (λ _. Accepts m lists (Move p a b))
    passes-accepts None m room d h = tt
    passes-accepts (Some w) m room d h = (d.accepts (Move p a b) fit).0 (record {
      giver = record { gives = omega (arith, h.gives); takes = omega arith };
      taker = record { gives = omega arith; takes = omega (arith, h.takes) };
    })

    -- and where it accepts one the weight passes
    accepts-passes : (o : Option Weights) (m : Meaning) (room : ℕ → Room) → IfSome o (RoomsDecide m room parts lists)
        → IfSome o (λ _. Accepts m lists (Move p a b)) → Passes (moved o p a) (look_room o (room a)) (look_room o (room b))
    accepts-passes None m room d h = record { gives = omega arith; takes = omega arith }
    accepts-passes (Some w) m room d h =
        let both = (d.accepts (Move p a b) fit).1 h in
        record { gives = omega (arith, both.giver.gives); takes = omega (arith, both.taker.takes) }

    -- what accepts, accepts where it has a quantity
    accepts-weighed : (o : Option Weights) (m : Meaning) → Accepts m lists (Move p a b) → IfSome o (λ _. Accepts m lists (Move p a b))
    accepts-weighed None m h = tt
    accepts-weighed (Some w) m h = h

  -- of all goals
  module _ {X : Type 0} (weighs : X → Option Weights) (meaning : X → Meaning) (room : X → ℕ → Room) (p a b : ℕ) where
    pub all-pass : (xs : List X) (ws : List ℕ) (gs ts : List Room) → All (λ x. IfSome (weighs x) (RoomsDecide (meaning x) (room x) parts lists)) xs
        → IsTrue (fits lists (Move p a b))
        → ws ≡ map (λ x. moved (weighs x) p a) xs → gs ≡ map (λ x. look_room (weighs x) (room x a)) xs → ts ≡ map (λ x. look_room (weighs x) (room x b)) xs
        → ((k : ℕ) → k < length ws → Passes (get_or ws k 0) (get_or gs k free) (get_or ts k free))
        → All (λ x. IfSome (weighs x) (λ _. Accepts (meaning x) lists (Move p a b))) xs
    all-pass xs ws gs ts d fit e i j h k x l =
        passes-accepts p a b fit (weighs (get_or xs k x)) (meaning (get_or xs k x)) (room (get_or xs k x)) (d k x l)
        (rw (e, i, j, get_or-map (λ y. moved (weighs y) p a) xs k x 0 l, get_or-map (λ y. look_room (weighs y) (room y a)) xs k x free l, get_or-map (λ y. look_room (weighs y) (room y b)) xs k x free l) at (h k (omega (arith, length-map xs (λ y. moved (weighs y) p a), ap (length {A = ℕ}) e))))

    pub pass-all : (xs : List X) (ws : List ℕ) (gs ts : List Room) → All (λ x. IfSome (weighs x) (RoomsDecide (meaning x) (room x) parts lists)) xs
        → IsTrue (fits lists (Move p a b))
        → ws ≡ map (λ x. moved (weighs x) p a) xs → gs ≡ map (λ x. look_room (weighs x) (room x a)) xs → ts ≡ map (λ x. look_room (weighs x) (room x b)) xs
        → All (λ x. IfSome (weighs x) (λ _. Accepts (meaning x) lists (Move p a b))) xs
        → (k : ℕ) → k < length ws → Passes (get_or ws k 0) (get_or gs k free) (get_or ts k free)
    pass-all [] ws gs ts d fit e i j h k l = absurd (omega (arith, ap (length {A = ℕ}) e))
    pass-all (x ∷ xs) ws gs ts d fit e i j h k l =
        let m : k < length (x ∷ xs) = omega (arith, length-map (x ∷ xs) (λ y. moved (weighs y) p a), ap (length {A = ℕ}) e) in
        rw (e, i, j, get_or-map (λ y. moved (weighs y) p a) (x ∷ xs) k x 0 m, get_or-map (λ y. look_room (weighs y) (room y a)) (x ∷ xs) k x free m, get_or-map (λ y. look_room (weighs y) (room y b)) (x ∷ xs) k x free m)
        (accepts-passes p a b fit (weighs (get_or (x ∷ xs) k x)) (meaning (get_or (x ∷ xs) k x)) (room (get_or (x ∷ xs) k x)) (d k x m) (h k x m))

    -- what all accept, those with quantities do
    pub all-weighed : (xs : List X) → IsTrue (fits lists (Move p a b)) → AllAccept (map meaning xs) lists (Move p a b) → All (λ x. IfSome (weighs x) (λ _. Accepts (meaning x) lists (Move p a b))) xs
    all-weighed xs fit h k x l =
        accepts-weighed p a b fit (weighs (get_or xs k x)) (meaning (get_or xs k x))
        (rw (get_or-map meaning xs k x (meaning x) l) at (h.each k (meaning x) (omega (arith, length-map xs meaning))))

    -- what all accept, each giver may give
    pub all-give : (xs : List X) (ws : List ℕ) (gs : List Room) → All (λ x. IfSome (weighs x) (RoomsDecide (meaning x) (room x) parts lists)) xs
        → IsTrue (fits lists (Move p a b))
        → ws ≡ map (λ x. moved (weighs x) p a) xs → gs ≡ map (λ x. look_room (weighs x) (room x a)) xs
        → AllAccept (map meaning xs) lists (Move p a b)
        → (k : ℕ) → k < length ws → get_or ws k 0 ≤ (get_or gs k free).give
    all-give xs ws gs d fit e i h k l = (pass-all xs ws gs (map (λ x. look_room (weighs x) (room x b)) xs) d fit e i refl (all-weighed xs fit h) k l).gives

module _ (lists : Lists) (a : Action) where
  -- what accepts, accepts where it has no quantity
  accepts-other : (o : Option Weights) (m : Meaning) → Accepts m lists a → IfNone o (Accepts m lists a)
  accepts-other None m h = h
  accepts-other (Some w) m h = tt

  -- either it has one or not
  accepts-both : (o : Option Weights) (m : Meaning) → IfSome o (λ _. Accepts m lists a) → IfNone o (Accepts m lists a) → Accepts m lists a
  accepts-both None m h i = i
  accepts-both (Some w) m h i = h

  module _ {X : Type 0} (weighs : X → Option Weights) (meaning : X → Meaning) where
    -- what all accept, those without quantities do
    pub all-others : (xs : List X) → AllAccept (map meaning xs) lists a → All (λ x. IfNone (weighs x) (Accepts (meaning x) lists a)) xs
    all-others xs h k x l =
        accepts-other (weighs (get_or xs k x)) (meaning (get_or xs k x))
        (rw (get_or-map meaning xs k x (meaning x) l) at (h.each k (meaning x) (omega (arith, length-map xs meaning))))

    -- what those with and those without accept, all do
    pub all-both : (xs : List X) → All (λ x. IfSome (weighs x) (λ _. Accepts (meaning x) lists a)) xs → All (λ x. IfNone (weighs x) (Accepts (meaning x) lists a)) xs → AllAccept (map meaning xs) lists a
    all-both xs h i = record {
      each = All-map (λ m. Accepts m lists a) meaning xs (λ k x l. accepts-both (weighs (get_or xs k x)) (meaning (get_or xs k x)) (h k x l) (i k x l));
    }

-- the weights of another place than the first
pub follow-weights : {X : Type 0} (weighs : X → Option Weights) (xs : List X) (parts : List Part) (p : ℕ) (ws : List ℕ) (first : Bool) → first ≡ false
    → ws ≡ map (λ x. look_weight (weighs x) parts p false) xs → ws ≡ map (λ x. look_weight (weighs x) parts p first) xs
follow-weights weighs xs parts p ws first e h = rw e h

pub cold-is : (h : Heat) → is_cold h ≡ true → h ≡ heat.Cold
cold-is heat.Cold e = refl
cold-is heat.Above e = absurd (false≢true e)
cold-is heat.Below e = absurd (false≢true e)
cold-is heat.Other e = absurd (false≢true e)

pub not_above : (h : Heat) → is_above h ≡ false → h ≡ heat.Above → ⊥
not_above h e i = false≢true (sym e ∙ ap is_above i)

pub not_below : (h : Heat) → is_below h ≡ false → h ≡ heat.Below → ⊥
not_below h e i = false≢true (sym e ∙ ap is_below i)

-- a move that cannot help does not
pub idle-move : (o : Option Weights) (m : Meaning) (hot : ℕ → Heat) (parts : List Part) (lists : Lists) → ColdPairs m hot lists → IfSome o (IdleTrades m hot parts lists)
    → (p a b : ℕ) → IsTrue (fits lists (Move p a b))
    → may_help (option_map (λ w. part_weight w parts p (leads (list_of lists p) a)) o) (hot a) (hot b) ≡ false → Lessens m lists (Move p a b) → ⊥
idle-move None m hot parts lists cold idle p a b fit e less =
    let both = and_parts (is_cold (hot a)) (is_cold (hot b)) (not-false _ e) in
    cold.none (Move p a b) fit (cold-is (hot a) both.0) (cold-is (hot b) both.1) less
idle-move (Some w) m hot parts lists cold idle p a b fit e less = elim (cases_eq (part_weight w parts p (leads (list_of lists p) a)) 0) as (λ _. ⊥) [
  | inl z ↦ idle.equal (Move p a b) fit z less
  | inr n ↦
      let rest = or_parts (is_above (hot a)) (is_below (hot b)) (rw (ne_eqb (part_weight w parts p (leads (list_of lists p) a)) 0 n) at e) in
      idle.falling (Move p a b) fit (not_above (hot a) rest.0) (not_below (hot b) rest.1) (omega arith) less
]

-- and nothing helps nobody
pub nothing-helps : (o : Option ℕ) (s t : Heat) → weighs_nothing o ≡ true → may_help o s t ≡ false
nothing-helps None s t e = absurd (false≢true e)
nothing-helps (Some n) s t e = rw e refl

-- while a broker is added, a broker that isn't lost gives to new ones alone
pub move-gains : (c : Cluster) (lists : Lists) (p a b : ℕ) → is_legal c lists (Move p a b) ≡ true → is_lost c a ≡ false → any_new c ≡ true → some_broker (λ x. is_new x.state) c b ≡ true
unfolding is_legal
move-gains c lists p a b h lost new = let legal = rw (lost, new) at h in grind (arith, and_parts, and_from, or-false)

-- where a move can help only a broker below its bounds, one to another does not help
pub below-alone : (o : Option Weights) (m : Meaning) (hot : ℕ → Heat) (parts : List Part) (lists : Lists) → IfSome o (IdleTrades m hot parts lists)
    → (p a b : ℕ) → IsTrue (fits lists (Move p a b))
    → helps_below_alone (option_map (λ w. part_weight w parts p (leads (list_of lists p) a)) o) (hot a) ≡ true → is_below (hot b) ≡ false → Lessens m lists (Move p a b) → ⊥
below-alone None m hot parts lists idle p a b fit e f less = false≢true e
below-alone (Some w) m hot parts lists idle p a b fit e f less =
    idle.falling (Move p a b) fit (not_above (hot a) (not-true (is_above (hot a)) e)) (not_below (hot b) f) (omega arith) less

-- nor does any from a broker that isn't above its bounds, where the goal has a quantity
pub weighed-below : (o : Option Weights) (m : Meaning) (hot : ℕ → Heat) (parts : List Part) (lists : Lists) → IfSome o (IdleTrades m hot parts lists)
    → (p a b : ℕ) → IsTrue (fits lists (Move p a b))
    → helps_below_alone (option_map (λ w. total w parts lists) o) (hot a) ≡ true → is_below (hot b) ≡ false → Lessens m lists (Move p a b) → ⊥
weighed-below None m hot parts lists idle p a b fit e f less = false≢true e
weighed-below (Some w) m hot parts lists idle p a b fit e f less = below-alone (Some w) m hot parts lists idle p a b fit e f less

-- any action, by what its two brokers give and get back
module _ (parts : List Part) (lists : Lists) (a : Action) where
  stay-accepts : IsTrue (fits lists a) → (o : Option Weights) (m : Meaning) (room : ℕ → Room) → IfSome o (RoomsDecide m room parts lists)
      → BothStay (look_out o parts lists a) (look_back o parts lists a) (look_room o (room (giver lists a))) (look_room o (room (taker a))) → IfSome o (λ _. Accepts m lists a)
  stay-accepts fit None m room d h = tt
  stay-accepts fit (Some w) m room d h = (d.accepts a fit).0 (record { giver = rw (trade-from w parts lists a) h.gives; taker = rw (trade-to w parts lists a) h.takes })

  accept-stays : IsTrue (fits lists a) → (o : Option Weights) (m : Meaning) (room : ℕ → Room) → IfSome o (RoomsDecide m room parts lists)
      → IfSome o (λ _. Accepts m lists a) → BothStay (look_out o parts lists a) (look_back o parts lists a) (look_room o (room (giver lists a))) (look_room o (room (taker a)))
  accept-stays fit None m room d h = record { gives = record { gives = omega arith; takes = omega arith }; takes = record { gives = omega arith; takes = omega arith } }
  accept-stays fit (Some w) m room d h =
      let both = (d.accepts a fit).1 h in
      record { gives = rw (trade-from w parts lists a) at both.giver; takes = rw (trade-to w parts lists a) at both.taker }

  accepts-some : (o : Option Weights) (m : Meaning) → Accepts m lists a → IfSome o (λ _. Accepts m lists a)
  accepts-some None m h = tt
  accepts-some (Some w) m h = h

  module _ {X : Type 0} (weighs : X → Option Weights) (meaning : X → Meaning) (room : X → ℕ → Room) where
    pub all-stay : (xs : List X) (us vs : List ℕ) (gs ts : List Room) → All (λ x. IfSome (weighs x) (RoomsDecide (meaning x) (room x) parts lists)) xs → IsTrue (fits lists a)
        → us ≡ map (λ x. look_out (weighs x) parts lists a) xs → vs ≡ map (λ x. look_back (weighs x) parts lists a) xs
        → gs ≡ map (λ x. look_room (weighs x) (room x (giver lists a))) xs → ts ≡ map (λ x. look_room (weighs x) (room x (taker a))) xs
        → ((k : ℕ) → k < length us → BothStay (get_or us k 0) (get_or vs k 0) (get_or gs k free) (get_or ts k free))
        → All (λ x. IfSome (weighs x) (λ _. Accepts (meaning x) lists a)) xs
    all-stay xs us vs gs ts d fit e e' i j h k x l =
        stay-accepts fit (weighs (get_or xs k x)) (meaning (get_or xs k x)) (room (get_or xs k x)) (d k x l)
        (rw (e, e', i, j, get_or-map (λ y. look_out (weighs y) parts lists a) xs k x 0 l, get_or-map (λ y. look_back (weighs y) parts lists a) xs k x 0 l, get_or-map (λ y. look_room (weighs y) (room y (giver lists a))) xs k x free l, get_or-map (λ y. look_room (weighs y) (room y (taker a))) xs k x free l)
        at (h k (omega (arith, length-map xs (λ y. look_out (weighs y) parts lists a), ap (length {A = ℕ}) e))))

    pub stay-all : (xs : List X) (us vs : List ℕ) (gs ts : List Room) → All (λ x. IfSome (weighs x) (RoomsDecide (meaning x) (room x) parts lists)) xs → IsTrue (fits lists a)
        → us ≡ map (λ x. look_out (weighs x) parts lists a) xs → vs ≡ map (λ x. look_back (weighs x) parts lists a) xs
        → gs ≡ map (λ x. look_room (weighs x) (room x (giver lists a))) xs → ts ≡ map (λ x. look_room (weighs x) (room x (taker a))) xs
        → AllAccept (map meaning xs) lists a
        → (k : ℕ) → k < length us → BothStay (get_or us k 0) (get_or vs k 0) (get_or gs k free) (get_or ts k free)
    stay-all [] us vs gs ts d fit e e' i j h k l = absurd (omega (arith, ap (length {A = ℕ}) e))
    stay-all (x ∷ xs) us vs gs ts d fit e e' i j h k l =
        let m : k < length (x ∷ xs) = omega (arith, length-map (x ∷ xs) (λ y. look_out (weighs y) parts lists a), ap (length {A = ℕ}) e) in
        let n : k < length (map meaning (x ∷ xs)) = omega (arith, m, length-map (x ∷ xs) meaning) in
        rw (e, e', i, j, get_or-map (λ y. look_out (weighs y) parts lists a) (x ∷ xs) k x 0 m, get_or-map (λ y. look_back (weighs y) parts lists a) (x ∷ xs) k x 0 m, get_or-map (λ y. look_room (weighs y) (room y (giver lists a))) (x ∷ xs) k x free m, get_or-map (λ y. look_room (weighs y) (room y (taker a))) (x ∷ xs) k x free m)
        (accept-stays fit (weighs (get_or (x ∷ xs) k x)) (meaning (get_or (x ∷ xs) k x)) (room (get_or (x ∷ xs) k x)) (d k x m)
        (accepts-some (weighs (get_or (x ∷ xs) k x)) (meaning (get_or (x ∷ xs) k x)) (rw (get_or-map meaning (x ∷ xs) k x (meaning x) m) at (h.each k (meaning x) n))))
