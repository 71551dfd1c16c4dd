-- Any number of links, so many at once: each of so many threads serves one after another, over a handle of the listener of its own, until a
-- client asks the service to shut down.
use Rattle.std.specs.Prelude.{◌≡◌, ◌≤◌, ◌⊎◌, ℕ, Bool, true, false, ◌||◌, List, [], ◌∷◌, ◌++◌, length, map, OnErr, OnOk, Option, Result}
use Rattle.std.specs.List.{AllByRecursion, list_any}
use Rattle.cc_base.specs.Outside.{HasRisen, with_name}
use Rattle.cc_base.specs.declared.outside.Failed.{Failed}
use Rattle.cluster_json.specs.File.{Meaning}
use Rattle.mover_rounds.specs.Made.{Copies, HasRisenBy}
use Rattle.mover_workers.specs.Callers.{CallerView, HasGrown}
use Rattle.net_links.specs.Links.{AcceptedLink, IsUnused, with_link}
use Rattle.rest_session.specs.Heard.{SiteView}
use Rattle.turn_book.specs.Rule.{ArePlaced}
use Rattle.live_service.specs.Asked.{IsWhole, ServingAsked, offering}
use Rattle.live_service.specs.Boards.{BoardCallerView, BoardPass, HasBoardGoneOn}
use Rattle.live_service.specs.Links.{IsRun, LinkRun, accepted_of, out_of_memory, tries}
use Rattle.live_service.specs.Views.{FrontTold, LaneView, NetView, ServiceView}
use Rattle.live_service.specs.Workers.{HasGoneOn, HasShares, Pass}
use Rattle.live_service.specs.declared.front.FrontEnd.{FrontEnd}
use Rattle.live_service.specs.declared.front.FrontEnd.TheVariants as front

-- what a thread knows, and the copies of its copier
pub record LaneState : Type 0 where
  pub pass : Pass
  pub board : BoardPass
  pub copies : Copies

abbrev pub lane_state : Pass → BoardPass → Copies → LaneState
lane_state pass board copies = record { pass = pass; board = board; copies = copies }

-- the links that one thread served, the last first, took it from here to there: each began with what it knew behind the one before
abbrev pub AreRuns : Meaning → SiteView → Bool → LaneState → List LinkRun → LaneState → Type 0
AreRuns file site reviews a [] b = b ≡ a
AreRuns file site reviews a (r ∷ rs) b = IsRun file site reviews r × (b ≡ record { pass = r.back; board = r.board_back; copies = r.new }) × AreRuns file site reviews a rs (record { pass = r.given; board = r.board_given; copies = r.old })

-- what a listener tells, with these links, the last first
abbrev pub told_with : Option (List AcceptedLink) → List LinkRun → Option (List AcceptedLink)
told_with told [] = told
told_with told (r ∷ rs) = with_link (told_with told rs) (accepted_of r)

-- out of memory ended one of them
abbrev pub any_wants : List LinkRun → Bool
any_wants runs = list_any (λ r. out_of_memory r.end) runs

-- the links of one handle: they were accepted one after another, and where its thread gave up, so many calls that accept had failed
pub record HasServedLane (file : Meaning) (site : SiteView) (reviews : Bool) (a b : LaneState) (before : NetView) (lane : LaneView) : Type 0 where
  pub links : List LinkRun
  pub runs : AreRuns file site reviews a links b
  pub accepted : lane.net.accepted ≡ told_with before.accepted links
  pub failed : lane.failed ≡ true → HasRisenBy tries before.faults lane.net.faults
  pub later : before.faults ≤ lane.net.faults
  pub wants : lane.wants ≡ any_wants links

-- a thread: what it was given and what it gave back, what its handle told before, and how it ended
pub record LaneRun : Type 0 where
  pub given : LaneState
  pub back : LaneState
  pub before : NetView
  pub lane : LaneView

-- it began without an entry, and its entries stand at their places, which rise; and so on the board. Its handle was unused
pub record IsLaneRun (file : Meaning) (site : SiteView) (reviews : Bool) (r : LaneRun) : Type 0 where
  pub fresh : r.given.pass.mine ≡ []
  pub grown : HasGrown r.given.pass r.back.pass
  pub placed : ArePlaced r.back.pass.seen r.back.pass.mine
  pub board_fresh : r.given.board.mine ≡ []
  pub board_grown : HasGrown r.given.board r.back.board
  pub board_placed : ArePlaced r.back.board.seen r.back.board.mine
  pub unused : IsUnused r.before.faults r.before.accepted
  pub served : HasServedLane file site reviews r.given r.back r.before r.lane

-- so did threads, each with its copier in their order; the other copiers made nothing
pub record HasServedLanes (file : Meaning) (site : SiteView) (reviews : Bool) (old new : List Copies) (lanes : List LaneView) (v w : Pass) (x y : BoardPass) : Type 0 where
  pub runs : List LaneRun
  pub others : List Copies
  pub are : AllByRecursion (IsLaneRun file site reviews) runs
  pub old_are : old ≡ map (λ r. r.given.copies) runs ++ others
  pub new_are : new ≡ map (λ r. r.back.copies) runs ++ others
  pub lanes_are : lanes ≡ map (λ r. r.lane) runs
  pub shares : HasShares v w (map (λ r. r.back.pass) runs)
  pub board_shares : HasShares x y (map (λ r. r.back.board) runs)

-- the requests of any number of links were answered. The console was left alone, and no link is kept
pub record HasServedOn (file : Meaning) (site : SiteView) (d e : BoardCallerView) (f g : FrontTold) (old new : List Copies) (v w : Pass) : Type 0 where
  pub served : HasServedLanes file site d.reviews old new g.lanes v w d.pass e.pass
  pub faults : f.net.faults ≤ g.net.faults
  pub accepted : g.net.accepted ≡ f.net.accepted
  pub copier : g.copier ≡ f.copier
  pub console : g.console ≡ f.console
  pub none : g.served ≡ f.served

abbrev pub any_failed : List LaneView → Bool
any_failed lanes = list_any (λ lane. lane.failed) lanes

-- so many threads served at the address, and none gave up
pub record HasShutDown (asked : ServingAsked) (before now : NetView) (lanes : List LaneView) : Type 0 where
  pub count : length lanes ≡ asked.links
  pub heard : now.heard ≡ with_name before.heard asked.address
  pub well : any_failed lanes ≡ false

-- the listener couldn't listen at the address, and there was no thread; or it did, and a call for a further handle failed, or a thread gave up
abbrev pub IsGivenUp : List ℕ → NetView → NetView → List LaneView → Type 0
IsGivenUp address before now lanes =
    ((now.heard ≡ before.heard) × HasRisen before.faults now.faults × (lanes ≡ []))
    ⊎ ((now.heard ≡ with_name before.heard address) × (HasRisen before.faults now.faults ⊎ (any_failed lanes ≡ true)))

pub record HasGivenUp (asked : ServingAsked) (before now : NetView) (lanes : List LaneView) : Type 0 where
  pub most : length lanes ≤ asked.links
  pub why : IsGivenUp asked.address before now lanes

-- how the service of links ended
abbrev pub IsNetEnd : ServingAsked → NetView → NetView → List LaneView → FrontEnd → Type 0
IsNetEnd asked before now lanes front.ShutDown = HasShutDown asked before now lanes
IsNetEnd asked before now lanes front.ListenerFault = HasGivenUp asked before now lanes
IsNetEnd asked before now lanes _ = ⊥

-- ---- as the calls tell it

-- as many threads as asked served links, and none gave up, unless it fails: there was no further handle, or a thread gave up. All copiers are
-- back
pub record HasRunLanes {A : Type 0} (site : SiteView) (b c : CallerView A) (d e : BoardCallerView) (s t : ServiceView) (lanes : ℕ) (result : Result (Unit {0}) Failed) : Type 0 where
  pub gone : HasGoneOn b c
  pub board_gone : HasBoardGoneOn d e
  pub served : HasServedLanes b.turn.start.file site d.reviews s.copiers t.copiers t.lanes b.pass c.pass d.pass e.pass
  pub accepted : t.net.accepted ≡ s.net.accepted
  pub heard : t.net.heard ≡ s.net.heard
  pub faults : s.net.faults ≤ t.net.faults
  pub none : t.served ≡ s.served
  pub whole : OnOk result ((length t.lanes ≡ lanes) × (any_failed t.lanes ≡ false))
  pub most : length t.lanes ≤ lanes
  pub given_up : OnErr result (HasRisen s.net.faults t.net.faults ⊎ (any_failed t.lanes ≡ true))
  pub back : IsWhole s t

-- so at an address that was listened at, or not
pub record HasServedAt {A : Type 0} (b c : CallerView A) (d e : BoardCallerView) (s t : ServiceView) (asked : ServingAsked) (end : FrontEnd) : Type 0 where
  pub gone : HasGoneOn b c
  pub board_gone : HasBoardGoneOn d e
  pub served : HasServedLanes b.turn.start.file (offering asked.page) d.reviews s.copiers t.copiers t.lanes b.pass c.pass d.pass e.pass
  pub accepted : t.net.accepted ≡ s.net.accepted
  pub faults : s.net.faults ≤ t.net.faults
  pub none : t.served ≡ s.served
  pub ended : IsNetEnd asked s.net t.net t.lanes end
  pub back : IsWhole s t
