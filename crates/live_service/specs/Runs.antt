-- What the calls that run workers beside a front tell.
use Rattle.std.specs.Prelude.{◌≡◌, ◌≤◌, ℕ, List, Option}
use Rattle.cluster_json.specs.File.{Meaning}
use Rattle.mover_rounds.specs.Made.{Copies}
use Rattle.mover_workers.specs.Callers.{CallerView}
use Rattle.live_service.specs.Asked.{IsWhole, ServingAsked}
use Rattle.live_service.specs.Closing.{HasFronted}
use Rattle.live_service.specs.Boards.{BoardCallerView, HasBoardGoneOn}
use Rattle.live_service.specs.Fronts.{HasAnswered}
use Rattle.live_service.specs.Views.{FrontView, TeamView, told_of}
use Rattle.live_service.specs.Workers.{HasGoneOn, HasRun, HasRunAll, Pass}
use Rattle.live_service.specs.declared.front.FrontEnd.{FrontEnd}

-- what a front did with some copiers: it answered what was asked, and then asked Close
abbrev pub Fronted : Meaning → Option ServingAsked → BoardCallerView → BoardCallerView → FrontView → FrontView → FrontEnd → List Copies → List Copies → Pass → Pass → Type 0
Fronted file asked d e f g end old new v w = HasFronted (HasAnswered file asked d e (told_of f) (told_of g) end old new) v w

-- a front alone
pub record HasServed {A : Type 0} (asked : Option ServingAsked) (b c : CallerView A) (d e : BoardCallerView) (f g : FrontView) (end : FrontEnd) : Type 0 where
  pub gone : HasGoneOn b c
  pub board_gone : HasBoardGoneOn d e
  pub did : Fronted b.turn.start.file asked d e f g end f.service.copiers g.service.copiers b.pass c.pass
  pub back : IsWhole f.service g.service

-- a front, and so many movers beside it. The planners' ends were left alone
pub record HasRunMovers {A : Type 0} (asked : Option ServingAsked) (b c : CallerView A) (d e : BoardCallerView) (s t : TeamView) (end : FrontEnd) (movers : ℕ) : Type 0 where
  pub gone : HasGoneOn b c
  pub board_gone : HasBoardGoneOn d e
  pub run : HasRun (Fronted b.turn.start.file asked d e s.front t.front end) b.turn.start.file b.pass c.pass s.front.service.copiers t.front.service.copiers t.movers movers
  pub back : IsWhole s.front.service t.front.service
  pub mover_room : s.mover_room ≤ t.mover_room
  pub planners : t.planners ≡ s.planners
  pub planner_room : s.planner_room ≤ t.planner_room

-- a front, and so many movers and planners beside it
pub record HasRunWorkers {A : Type 0} (asked : Option ServingAsked) (b c : CallerView A) (d e : BoardCallerView) (s t : TeamView) (end : FrontEnd) (movers planners : ℕ) : Type 0 where
  pub gone : HasGoneOn b c
  pub board_gone : HasBoardGoneOn d e
  pub run : HasRunAll (Fronted b.turn.start.file asked d e s.front t.front end) b.turn.start.file b.pass c.pass s.front.service.copiers t.front.service.copiers t.movers t.planners movers planners
  pub back : IsWhole s.front.service t.front.service
  pub planner_room : s.planner_room ≤ t.planner_room
