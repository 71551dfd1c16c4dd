-- The workers that run while a front serves: what each of them made.
use Rattle.std.specs.Prelude.{◌≡◌, ◌≤◌, ℕ, List, [], ◌∷◌, ◌++◌, length, map}
use Rattle.std.specs.List.{AllByRecursion}
use mathlib.Core.List.{IsPrefix}
use Rattle.cluster_json.specs.File.{Meaning}
use Rattle.core_terms.specs.declared.events.Event.{Event}
use Rattle.mover_rounds.specs.Made.{Copies}
use Rattle.mover_workers.specs.Callers.{CallerView, HasGrown, IsLater, known_by_pass}
use Rattle.mover_workers.specs.Loops.{CallsNoAdmin, HasMoved, HasPlanned, IsLoopCause}
use Rattle.mover_workers.specs.declared.loops.LoopEnd.{LoopEnd}
use Rattle.turn_book.specs.Known.{Known as PassView}
use Rattle.turn_book.specs.Rule.{ArePlaced}

-- what a pass of a book's turn knows
abbrev pub Pass : Type 0
Pass = PassView Meaning Event

-- a mover: the pass that it was given and the one that it gave back, its copier's copies before and after, and how its loop ended
pub record Mover : Type 0 where
  pub given : Pass
  pub back : Pass
  pub old : Copies
  pub new : Copies
  pub end : LoopEnd

-- it began without an entry, its entries stand at their places, which rise, and they are a mover's rounds
pub record IsMover (file : Meaning) (m : Mover) : Type 0 where
  pub fresh : m.given.mine ≡ []
  pub grown : HasGrown m.given m.back
  pub placed : ArePlaced m.back.seen m.back.mine
  pub moved : HasMoved (known_by_pass file m.given) (known_by_pass file m.back) m.old m.new m.end
  pub cause : IsLoopCause (known_by_pass file m.given) (known_by_pass file m.back) m.end

-- a planner: its passes, and how its loop ended
pub record Planner : Type 0 where
  pub given : Pass
  pub back : Pass
  pub end : LoopEnd

-- it began without an entry, its entries stand at their places, which rise, and they are a planner's rounds
pub record IsPlanner (file : Meaning) (p : Planner) : Type 0 where
  pub fresh : p.given.mine ≡ []
  pub grown : HasGrown p.given p.back
  pub placed : ArePlaced p.back.seen p.back.mine
  pub planned : HasPlanned (known_by_pass file p.given) (known_by_pass file p.back) p.end
  pub no_admin : CallsNoAdmin p.end

-- the entries of passes with their places, the last pass first
abbrev pub shares_of : {O E : Type 0} → List (PassView O E) → List (ℕ × E)
shares_of [] = []
shares_of (p ∷ ps) = shares_of ps ++ p.mine

-- what each of these passes saw begins the history
abbrev pub AllSaw : {O E : Type 0} → List E → List (PassView O E) → Type 0
AllSaw history passes = AllByRecursion (λ p. IsPrefix p.seen history) passes

-- each of these passes was told no later fault of the outside than this one
abbrev pub AllTold : {O E : Type 0} → ℕ → List (PassView O E) → Type 0
AllTold last passes = AllByRecursion (λ p. p.last ≤ last) passes

-- a pass that was behind a front's has its entries, and then those of these passes, each of which saw no more than it, nor was told a
-- later fault of the outside
pub record HasShares {O E : Type 0} (front back : PassView O E) (passes : List (PassView O E)) : Type 0 where
  pub mine : back.mine ≡ front.mine ++ shares_of passes
  pub saw : AllSaw back.seen passes
  pub longer : IsPrefix front.seen back.seen
  pub told : AllTold back.last passes
  pub last : front.last ≤ back.last

-- a caller of the same turn, which may have joined others
pub record HasGoneOn {A : Type 0} (b c : CallerView A) : Type 0 where
  pub turn : c.turn ≡ b.turn
  pub later : IsLater b.pass c.pass

-- so many movers, each with its copier in their order, before the copiers of a front, and how they ended
pub record HasMovers (file : Meaning) (before back : Pass) (old new others_old others_new : List Copies) (ends : List LoopEnd) (count : ℕ) : Type 0 where
  pub movers : List Mover
  pub are : AllByRecursion (IsMover file) movers
  pub count_is : length movers ≡ count
  pub old_are : old ≡ map (λ m. m.old) movers ++ others_old
  pub new_are : new ≡ map (λ m. m.new) movers ++ others_new
  pub ends_are : ends ≡ map (λ m. m.end) movers
  pub shares : HasShares before back (map (λ m. m.back) movers)

-- so many planners, and how they ended
pub record HasPlanners (file : Meaning) (before back : Pass) (ends : List LoopEnd) (count : ℕ) : Type 0 where
  pub planners : List Planner
  pub are : AllByRecursion (IsPlanner file) planners
  pub count_is : length planners ≡ count
  pub ends_are : ends ≡ map (λ p. p.end) planners
  pub shares : HasShares before back (map (λ p. p.back) planners)

-- what a front did with some copiers and with a pass like the one that was given, and beside it so many movers
pub record HasRun (Did : List Copies → List Copies → Pass → Pass → Type 0) (file : Meaning) (given back : Pass) (old new : List Copies) (ends : List LoopEnd) (n : ℕ) : Type 0 where
  pub begun : Pass
  pub same : begun.mine ≡ given.mine
  pub over : Pass
  pub others_old : List Copies
  pub others_new : List Copies
  pub did : Did others_old others_new begun over
  pub movers : HasMovers file over back old new others_old others_new ends n

-- and so many planners
pub record HasRunAll (Did : List Copies → List Copies → Pass → Pass → Type 0) (file : Meaning) (given back : Pass) (old new : List Copies) (mover_ends planner_ends : List LoopEnd) (n m : ℕ) : Type 0 where
  pub between : Pass
  pub run : HasRun Did file given between old new mover_ends n
  pub planners : HasPlanners file between back planner_ends m
