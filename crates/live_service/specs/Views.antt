-- What is told of links, of a listener, and of those who take part in a live service.
use Rattle.std.specs.Prelude.{ℕ, Bool, List, Option}
use Rattle.mover_rounds.specs.Made.{Copies}
use Rattle.mover_workers.specs.declared.loops.LoopEnd.{LoopEnd}
use Rattle.net_links.specs.Links.{AcceptedLink}
use Rattle.rest_session.specs.declared.session.LinkEnd.{LinkEnd}

-- the bytes that are left to read and those that were written, where they are told, and how many reads and writes have failed
pub record LinkView : Type 0 where
  pub left : Option (List ℕ)
  pub written : Option (List ℕ)
  pub reads : ℕ
  pub writes : ℕ

abbrev pub link_of : {L : Type 0} → (L → Option (List ℕ)) → (L → Option (List ℕ)) → (L → ℕ) → (L → ℕ) → L → LinkView
link_of left written reads writes link = record { left = left link; written = written link; reads = reads link; writes = writes link }

-- a link that was served, and how it ended
pub record ServedView : Type 0 where
  pub link : LinkView
  pub end : LinkEnd

-- how many calls of a listener have failed, and where they are told the links that it accepted and the addresses that it listened at
pub record NetView : Type 0 where
  pub faults : ℕ
  pub accepted : Option (List AcceptedLink)
  pub heard : Option (List (List ℕ))

abbrev pub net_of : {N : Type 0} → (N → ℕ) → (N → Option (List AcceptedLink)) → (N → Option (List (List ℕ))) → N → NetView
net_of faults accepted heard listener = record { faults = faults listener; accepted = accepted listener; heard = heard listener }

-- a thread that served links of a handle of the listener: what the handle tells, that its calls failed until it gave up, and that out of
-- memory ended one of the links
pub record LaneView : Type 0 where
  pub net : NetView
  pub failed : Bool
  pub wants : Bool

abbrev pub lane_of : {N : Type 0} → (N → NetView) → N → Bool → Bool → LaneView
lane_of net listener failed wants = record { net = net listener; failed = failed; wants = wants }

-- a listener with the copiers of its links, the links that were served, or the threads that served links, and how many of each there is
-- room for
pub record ServiceView : Type 0 where
  pub net : NetView
  pub copiers : List Copies
  pub served : List ServedView
  pub lanes : List LaneView
  pub room : ℕ
  pub places : ℕ
  pub lane_room : ℕ

-- what answers requests: a console, with the copier of its pumps and of the drain, and the service of a listener
pub record FrontView : Type 0 where
  pub copier : Copies
  pub console : LinkView
  pub service : ServiceView

-- the same without its copiers
pub record FrontTold : Type 0 where
  pub copier : Copies
  pub console : LinkView
  pub net : NetView
  pub served : List ServedView
  pub lanes : List LaneView

abbrev pub told_of : FrontView → FrontTold
told_of f = record { copier = f.copier; console = f.console; net = f.service.net; served = f.service.served; lanes = f.service.lanes }

-- a front, and how the loops of movers and planners ended, with the room for as many
pub record TeamView : Type 0 where
  pub front : FrontView
  pub movers : List LoopEnd
  pub mover_room : ℕ
  pub planners : List LoopEnd
  pub planner_room : ℕ
